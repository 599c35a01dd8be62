-- Each step of a proof without reading faults is a label that refers to something, or a mark of an
-- earlier step.
use Rattle.std.proofs.Common.{rules, ◌≡◌, ℕ, zero, suc, ◌+◌, ◌-◌, ◌*◌, ◌<◌, ◌≤◌, Bool, true, false}
use Rattle.std.proofs.Common.{◌&&◌, ◌⊎◌, inl, inr, List, [], ◌∷◌, ◌++◌, map, length, flat_map}
use Rattle.std.proofs.Common.{Option, Some, None, slice_get, nat_le, bytes_eq, codes, refl}
use Rattle.std.proofs.Common.{true≢false, arith, leb-true, length-append}
use Rattle.std.proofs.lemmas.Grind.{common_steps}
use Rattle.std.specs.List.{list_any, AllByRecursion}
use Rattle.std.proofs.lemmas.Bool.{or_cases, and_parts}
use Rattle.mm_spec.specs.Text.{Bytes, Token, Fault, fault}
use Rattle.mm_spec.specs.Statement.{Statement, floating, essential, axiomatic, provable}
use Rattle.mm_spec.specs.Scope.{active_at, active, statement_at}
use Rattle.mm_spec.specs.Frame.{formula_at, is_floating, is_essential, mandatory_variables}
use Rattle.mm_spec.specs.Frame.{mandatory_hypotheses}
use Rattle.mm_spec.specs.Derivation.{is_member}
use Rattle.mm_spec.specs.Steps.{Step, PlacedStep, placed, label, marked}
use Rattle.mm_spec.specs.NormalProof.{is_labelled, usable, normal_steps, normal_faults}
use Rattle.mm_spec.specs.NormalProof.{proof_label_faults}
use Rattle.mm_spec.specs.CompressedProof.{Compressed, bracketed, Letter, letters_of, Group}
use Rattle.mm_spec.specs.CompressedProof.{is_last_letter, groups, value, starts_at, step_of}
use Rattle.mm_spec.specs.CompressedProof.{group_steps, letter_faults, compressed_faults}
use Rattle.mm_spec.specs.CompressedProof.{compressed_steps}
use Rattle.mm_spec.specs.Proof.{steps, reading_faults}
use Rattle.mm_spec.specs.Citation.{referent_at, context_at, steps_at, reading_faults_at}
use Rattle.mm_spec.specs.Laws.Complete.{HasCompleteFrame}
use Rattle.mm_spec.specs.declared.Code.TheVariants.{OpenBrackets}
use Rattle.mm_spec.specs.Laws.Stack.{IsCompleteReferent, AreGoodSteps, IsGoodStep}
use Rattle.mm_spec.proofs.CompleteLaw.{is_mandatory}
use Rattle.mm_spec.proofs.FindsLaw.{each_any, each_filter, passing_statement}
use Rattle.mm_spec.proofs.FaultlessLaw.{both_are_empty}
use Rattle.mm_spec.proofs.GroupsLaw.{AreFaultless, groups_are_faultless}
use Rattle.mm_spec.proofs.ListLaw.{got_none_is_past_end}

abbrev steps_of : List PlacedStep → List Step
steps_of ps = map (λ p. p.step) ps

-- ---- lists

each_of_appended : {X : Type 0} (P : X → Type 0) (xs ys : List X) → AllByRecursion P xs
    → AllByRecursion P ys → AllByRecursion P (xs ++ ys)
each_of_appended P xs ys h1 h2 = grind (arith, common_steps)

each_of_flat : {X Y : Type 0} (P : Y → Type 0) (f : X → List Y) (xs : List X)
    → ((x : X) → AllByRecursion P (f x)) → AllByRecursion P (flat_map f xs)
each_of_flat P f [] each_of_f = tt
each_of_flat P f (x ∷ xs) each_of_f =
    each_of_appended P (f x) (flat_map f xs) (each_of_f x) (each_of_flat P f xs each_of_f)

each_of_got : {X : Type 0} (P : X → Type 0) (xs : List X) (n : ℕ) (x : X) → AllByRecursion P xs
    → slice_get xs n ≡ Some x → P x
each_of_got P [] zero x each_of_xs got_x = absurd (cc)
each_of_got P [] (suc n) x each_of_xs got_x = absurd (cc)
each_of_got P (y ∷ xs) zero x each_of_xs got_x = grind (arith, common_steps)
each_of_got P (y ∷ xs) (suc n) x each_of_xs got_x = each_of_got P xs n x each_of_xs.1 got_x

-- ---- labels

abbrev has_referent : Statement → Bool
has_referent (floating l k xs d) = true
has_referent (essential l k xs d) = true
has_referent (axiomatic l k xs d) = true
has_referent (provable l k xs e ps d) = true
has_referent _ = false

labelled_has_referent : (w : Bytes) (s : Statement) → is_labelled w s ≡ true → has_referent s ≡ true
labelled_has_referent w s h1 = grind (arith, common_steps, true≢false)

floating_has_referent : (s : Statement) → is_floating s ≡ true → has_referent s ≡ true
floating_has_referent s h1 = grind (arith, common_steps, true≢false)

essential_has_referent : (s : Statement) → is_essential s ≡ true → has_referent s ≡ true
essential_has_referent s h1 = grind (arith, common_steps, true≢false)

pub group_value_is_positive : (n b : ℕ) → 65 ≤ b → 0 < n * 20 + (b - 64)
group_value_is_positive n b letter_le_b = omega arith

-- each label is usable
faultless_labels_are_usable : (db : List Statement) (k : ℕ) (ts : List Token)
    → flat_map (proof_label_faults db k) ts ≡ []
    → length ts ≤ length (flat_map (λ t. usable db k t.word) ts)
faultless_labels_are_usable db k [] no_faults = omega arith
faultless_labels_are_usable db k (t ∷ ts) no_faults =
    let later = faultless_labels_are_usable db k ts (both_are_empty (proof_label_faults db k t)
    (flat_map (proof_label_faults db k) ts) no_faults).1 in
    grind (arith, common_steps, both_are_empty, length-append)

module _ (db : List Statement) (k : ℕ)
    (all_complete : (l : ℕ) → HasCompleteFrame (context_at db k) (referent_at db k l)) where
  abbrev IsGoodLabel : ℕ → Type 0
  IsGoodLabel j = IsCompleteReferent (context_at db k) (referent_at db k j)

  active_label_is_good : (j : ℕ) (s : Statement) → active_at db j k ≡ true → slice_get db j ≡ Some s
      → has_referent s ≡ true → IsGoodLabel j
  active_label_is_good j s j_is_active s_at_j has_referent_s = grind (arith, common_steps)

  usable_labels_are_good : (w : Bytes) → AllByRecursion IsGoodLabel (usable db k w)
  usable_labels_are_good w =
      grind (
        arith,
        common_steps,
        and_parts,
        each_any,
        each_filter,
        passing_statement,
        active_label_is_good,
        labelled_has_referent,
      )

  mandatory_labels_are_good : AllByRecursion IsGoodLabel (mandatory_hypotheses db k)
  mandatory_labels_are_good =
      each_filter IsGoodLabel (is_mandatory db k) (active db k)
      (grind (arith, common_steps, each_filter, is_mandatory, each_any, active_mandatory_good))
    where
      active_mandatory_good : (j : ℕ) → active_at db j k ≡ true → is_mandatory db k j ≡ true
          → IsGoodLabel j
      active_mandatory_good j j_is_active j_is_mandatory =
          search (rules, arith, good_by_kind, or_cases)
        where
          good_by_kind : (list_any is_essential (statement_at db j) ≡ true)
              ⊎ ((list_any is_floating (statement_at db j)
              && list_any (is_member (mandatory_variables db k)) (formula_at db j))
              ≡ true)
              → IsGoodLabel j
          good_by_kind (inl j_is_kind) =
              search (rules, arith, passing_statement, active_label_is_good, essential_has_referent)
          good_by_kind (inr j_is_kind) =
              let (is_kind, _) = and_parts (list_any is_floating (statement_at db j)) _ j_is_kind in
              search (rules, arith, passing_statement, active_label_is_good, floating_has_referent)

  -- ---- normal proofs

  labels_then_good_steps : (js : List ℕ) (p n : ℕ) (rest : List PlacedStep)
      → AllByRecursion IsGoodLabel js
      → ((m : ℕ) → AreGoodSteps (context_at db k) m (steps_of rest))
      → AreGoodSteps (context_at db k) n (steps_of (map (λ j. placed p (label j)) js ++ rest))
  labels_then_good_steps [] p n rest are_good rest_is_good = rest_is_good n
  labels_then_good_steps (j ∷ js) p n rest are_good rest_is_good =
      (are_good.0, labels_then_good_steps js p (suc n) rest are_good.1 rest_is_good)

  normal_steps_are_good : (ts : List Token) (n : ℕ)
      → AreGoodSteps (context_at db k) n (steps_of (normal_steps db k ts))
  normal_steps_are_good [] n = tt
  normal_steps_are_good (t ∷ ts) n =
      labels_then_good_steps (usable db k t.word) t.at n (normal_steps db k ts)
      (usable_labels_are_good t.word)
      (λ m. normal_steps_are_good ts m)

  -- ---- compressed proofs

  -- a number stands for a label, or for a mark of a step before it
  number_is_good_step : (labels marks : List ℕ) (count label_count v : ℕ)
      → AllByRecursion IsGoodLabel labels
      → AllByRecursion (λ i. i < count) marks → label_count ≤ length labels → 0 < v
      → v ≤ label_count + length marks
      → (s : Step) × (step_of labels marks v ≡ s ∷ []) × IsGoodStep (context_at db k) count s
  number_is_good_step labels marks count label_count zero labels_are_good marks_are_earlier
      enough_labels
      v_is_positive v_is_within = absurd (omega arith)
  number_is_good_step labels marks count label_count (suc n) labels_are_good marks_are_earlier
      enough_labels
      v_is_positive v_is_within =
      good_by_label_or_mark (slice_get labels n) refl (slice_get marks (n - length labels)) refl
    where
      steps_of_number : Option ℕ → Option ℕ → List Step
      steps_of_number a b =
          elim a [ Some j ↦ label j ∷ [] | None ↦ elim b [ Some i ↦ marked i ∷ [] | None ↦ [] ] ]

      good_by_label_or_mark : (a : Option ℕ) → slice_get labels n ≡ a → (b : Option ℕ)
          → slice_get marks (n - length labels) ≡ b
          → (s : Step) × (steps_of_number a b ≡ s ∷ []) × IsGoodStep (context_at db k) count s
      good_by_label_or_mark (Some j) label_is b mark_is =
          (label j, refl, search (rules, arith, each_of_got))
      good_by_label_or_mark None label_is (Some i) mark_is = (
        marked i,
        refl,
        search (rules, arith, each_of_got),
      )
      good_by_label_or_mark None label_is None mark_is =
          search (rules, arith, got_none_is_past_end)

  group_steps_are_good : (gs : List Group) (labels marks : List ℕ) (label_count count : ℕ)
      → AllByRecursion IsGoodLabel labels → AllByRecursion (λ i. i < count) marks
      → label_count ≤ length labels → AreFaultless label_count (length marks) count gs
      → AreGoodSteps (context_at db k) count (steps_of (group_steps labels marks count gs))
  group_steps_are_good [] labels marks label_count count labels_are_good marks_are_earlier
      enough_labels
      are_faultless = tt
  group_steps_are_good (g ∷ gs) labels marks label_count count labels_are_good marks_are_earlier
      enough_labels are_faultless =
      good_number_or_mark are_faultless
      (λ rest_is_faultless. group_steps_are_good gs labels marks label_count (count + 1)
      labels_are_good
      (marks_still_earlier marks marks_are_earlier) enough_labels rest_is_faultless)
      (λ count_is_positive rest_is_faultless. group_steps_are_good gs labels
      (marks ++ (count - 1) ∷ [])
      label_count count labels_are_good
      (search (rules, arith, each_of_appended))
      enough_labels
      (search (rules, arith, length-append)))
    where
      marks_still_earlier : (xs : List ℕ) → AllByRecursion (λ i. i < count) xs
          → AllByRecursion (λ i. i < count + 1) xs
      marks_still_earlier [] marks_are_earlier = tt
      marks_still_earlier (x ∷ xs) marks_are_earlier =
          let x_lt_count = marks_are_earlier.0 in
          (omega arith, marks_still_earlier xs marks_are_earlier.1)

      steps_from_group : Bool → List PlacedStep
      steps_from_group is_number = elim is_number [
        | true ↦ map (placed (starts_at g)) (step_of labels marks (value g))
            ++ group_steps labels marks (count + 1) gs
        | false ↦ group_steps labels (marks ++ (count - 1) ∷ []) count gs
      ]

      good_number_or_mark : AreFaultless label_count (length marks) count (g ∷ gs)
          → (AreFaultless label_count (length marks) (count + 1) gs
          → AreGoodSteps (context_at db k) (count + 1)
          (steps_of (group_steps labels marks (count + 1) gs)))
          → (0 < count → AreFaultless label_count (length marks + 1) count gs
          → AreGoodSteps (context_at db k) count
          (steps_of (group_steps labels (marks ++ (count - 1) ∷ []) count gs)))
          → AreGoodSteps (context_at db k) count
          (steps_of (steps_from_group (is_last_letter g.last.byte)))
      good_number_or_mark (inl (is_number, value_is_within, rest_is_faultless)) after_number
          after_mark =
          let letter_ge_65 =
          leb-true 65 g.last.byte
          (and_parts (nat_le 65 g.last.byte) (nat_le g.last.byte 84) is_number).0 in
          let number_is_good =
          number_is_good_step labels marks count label_count (value g) labels_are_good
          marks_are_earlier
          enough_labels (group_value_is_positive _ g.last.byte letter_ge_65) value_is_within in
          search (rules, arith, steps_from_group)
      good_number_or_mark (inr (
        is_no_number,
        is_mark,
        is_alone,
        count_is_positive,
        rest_is_faultless,
      )) after_number after_mark =
          search (rules, arith, steps_from_group)

  compressed_steps_are_good : (end : ℕ) (p : Compressed) → compressed_faults db k end p ≡ []
      → AreGoodSteps (context_at db k) 0 (steps_of (compressed_steps db k p))
  compressed_steps_are_good end p no_compressed_faults =
      good_by_letters p.letters
      (both_are_empty (flat_map (proof_label_faults db k) p.labels)
      (faults_of_letters p.letters) no_compressed_faults).1
    where
      labels : List ℕ
      labels = mandatory_hypotheses db k ++ flat_map (λ t. usable db k t.word) p.labels

      label_count : ℕ
      label_count = length (mandatory_hypotheses db k) + length p.labels

      faults_of_letters : Option (List Token) → List Fault
      faults_of_letters o =
          elim o [
            | None ↦ fault end OpenBrackets ∷ []
            | Some ts ↦ letter_faults label_count end (letters_of ts)
          ]

      steps_of_letters : Option (List Token) → List PlacedStep
      steps_of_letters o =
          elim o [ None ↦ [] | Some ts ↦ group_steps labels [] 0 (groups [] (letters_of ts)).0 ]

      labels_are_good : AllByRecursion IsGoodLabel labels
      labels_are_good =
          let mandatory_are_good = mandatory_labels_are_good in
          search (rules, arith, each_of_appended, each_of_flat, usable_labels_are_good)

      enough_labels : label_count ≤ length labels
      enough_labels =
          let count = length-append (mandatory_hypotheses db k) (flat_map (λ t. usable db k
          t.word) p.labels) in
          let usable = faultless_labels_are_usable db k p.labels (both_are_empty (flat_map
          (proof_label_faults db k) p.labels) (faults_of_letters p.letters)
          no_compressed_faults).0 in
          omega arith

      letters_good : (xs : List Letter) → letter_faults label_count end xs ≡ []
          → AreGoodSteps (context_at db k) 0 (steps_of (group_steps labels [] 0 (groups [] xs).0))
      letters_good [] no_faults = tt
      letters_good (x ∷ xs) no_faults =
          group_steps_are_good
          (groups [] (x ∷ xs)).0 labels [] label_count 0 labels_are_good tt enough_labels
          (search (rules, arith, groups_are_faultless, label_count, both_are_empty))

      good_by_letters : (o : Option (List Token)) → faults_of_letters o ≡ []
          → AreGoodSteps (context_at db k) 0 (steps_of (steps_of_letters o))
      good_by_letters None no_faults = tt
      good_by_letters (Some ts) no_faults = letters_good (letters_of ts) no_faults

  -- ---- the proof of a theorem

  proof_steps_are_good : (end : ℕ) (ts : List Token) → reading_faults db k end ts ≡ []
      → AreGoodSteps (context_at db k) 0 (steps_of (steps db k ts))
  proof_steps_are_good end [] no_reading_faults = tt
  proof_steps_are_good end (t ∷ ts) no_reading_faults =
      good_by_bracket (bytes_eq t.word (codes "(")) no_reading_faults
    where
      faults_by_bracket : Bool → List Fault
      faults_by_bracket b =
          elim b [
            | true ↦ compressed_faults db k end (bracketed ts)
            | false ↦ normal_faults db k end (t ∷ ts)
          ]

      steps_by_bracket : Bool → List PlacedStep
      steps_by_bracket b =
          elim b [
            | true ↦ compressed_steps db k (bracketed ts)
            | false ↦ normal_steps db k (t ∷ ts)
          ]

      good_by_bracket : (b : Bool) → faults_by_bracket b ≡ []
          → AreGoodSteps (context_at db k) 0 (steps_of (steps_by_bracket b))
      good_by_bracket true no_faults = compressed_steps_are_good end (bracketed ts) no_faults
      good_by_bracket false no_faults = normal_steps_are_good (t ∷ ts) 0

  pub faultless_steps_are_good : reading_faults_at db k ≡ []
      → AreGoodSteps (context_at db k) 0 (steps_of (steps_at db k))
  faultless_steps_are_good no_reading_faults = grind (arith, common_steps, proof_steps_are_good)
