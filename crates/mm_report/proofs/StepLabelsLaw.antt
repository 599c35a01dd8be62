-- The labels of a proof's steps are those of statements of the database.
use Rattle.std.proofs.Common.{◌≡◌, ℕ, zero, suc, ◌+◌, ◌-◌, ◌<◌, ◌≤◌, Bool, true, false, List, []}
use Rattle.std.proofs.Common.{◌∷◌, ◌++◌, map, length, flat_map, Option, Some, None, slice_get}
use Rattle.std.proofs.Common.{bytes_eq, codes, arith, refl}
use Rattle.std.proofs.lemmas.Grind.{common_steps}
use Rattle.std.specs.List.{All, filter, range_with_len, AllByRecursion}
use Rattle.std.proofs.lemmas.List.Elements.{All-filter, All-weaker}
use Rattle.std.proofs.lemmas.List.Elements.{All-from_recursion, recursion_from_All}
use Rattle.mm_spec.specs.Text.{Token}
use Rattle.mm_spec.specs.Statement.{Statement, constants, variables, disjoint, floating, essential}
use Rattle.mm_spec.specs.Statement.{axiomatic, provable, opening, closing}
use Rattle.mm_spec.specs.Steps.{PlacedStep, placed, label, marked}
use Rattle.mm_spec.specs.Frame.{mandatory_hypotheses}
use Rattle.mm_spec.specs.NormalProof.{usable, normal_steps}
use Rattle.mm_spec.specs.CompressedProof.{Compressed, bracketed, letters_of, Group, groups}
use Rattle.mm_spec.specs.CompressedProof.{value, starts_at, is_last_letter, step_of, group_steps}
use Rattle.mm_spec.specs.CompressedProof.{compressed_steps}
use Rattle.mm_spec.specs.Proof.{steps}
use Rattle.mm_spec.specs.Citation.{steps_at}
use Rattle.mm_spec.specs.ProofLine.{proof_steps}
use Rattle.mm_report.specs.Told.{IsStepWithin, AreStepsWithin}
use Rattle.mm_report.proofs.LabelLaw.{numbers_lt_bound}

-- ---- lists

each_of_appended : {X : Type 0} (P : X → Type 0) (xs ys : List X) → AllByRecursion P xs
    → AllByRecursion P ys → AllByRecursion P (xs ++ ys)
each_of_appended P xs ys each_of_xs each_of_ys = grind (arith, common_steps)

each_of_flat : {X Y : Type 0} (P : Y → Type 0) (f : X → List Y) (xs : List X)
    → ((x : X) → AllByRecursion P (f x)) → AllByRecursion P (flat_map f xs)
each_of_flat P f [] each_of_f = tt
each_of_flat P f (x ∷ xs) each_of_f =
    each_of_appended P (f x) (flat_map f xs) (each_of_f x) (each_of_flat P f xs each_of_f)

each_of_got : {X : Type 0} (P : X → Type 0) (xs : List X) (n : ℕ) (x : X) → AllByRecursion P xs
    → slice_get xs n ≡ Some x → P x
each_of_got P [] zero x each_of_xs got_x = absurd (cc)
each_of_got P [] (suc n) x each_of_xs got_x = absurd (cc)
each_of_got P (y ∷ xs) zero x each_of_xs got_x = grind (arith, common_steps)
each_of_got P (y ∷ xs) (suc n) x each_of_xs got_x = each_of_got P xs n x each_of_xs.1 got_x

-- ---- steps

module _ (db : List Statement) (k : ℕ) (k_le_length : k ≤ length db) where
  abbrev IsWithin : ℕ → Type 0
  IsWithin j = j < length db

  abbrev IsPlacedWithin : PlacedStep → Type 0
  IsPlacedWithin p = IsStepWithin db p.step

  before_are_within : All IsWithin (range_with_len 0 k)
  before_are_within =
      All-weaker (λ j. j < k) IsWithin (λ j j_lt_k. omega (arith, j_lt_k, k_le_length))
      (range_with_len 0 k) (numbers_lt_bound k)

  filtered_are_within : (test : ℕ → Bool)
      → AllByRecursion IsWithin (filter test (range_with_len 0 k))
  filtered_are_within test =
      recursion_from_All IsWithin _ (All-filter test IsWithin (range_with_len 0 k)
      before_are_within)

  mandatory_are_within : AllByRecursion IsWithin (mandatory_hypotheses db k)
  mandatory_are_within =
      recursion_from_All IsWithin _ (All-filter _ IsWithin _
      (All-filter _ IsWithin (range_with_len 0 k) before_are_within))

  labels_are_placed_within : (at : ℕ) (js : List ℕ) → AllByRecursion IsWithin js
      → AllByRecursion IsPlacedWithin (map (λ j. placed at (label j)) js)
  labels_are_placed_within at [] each = tt
  labels_are_placed_within at (j ∷ js) each =
      (each.0, labels_are_placed_within at js each.1)

  normal_are_within : (ts : List Token) → AllByRecursion IsPlacedWithin (normal_steps db k ts)
  normal_are_within ts =
      each_of_flat IsPlacedWithin (λ t. map (λ j. placed t.at (label j)) (usable db k t.word)) ts
      (λ t. labels_are_placed_within t.at (usable db k t.word) (filtered_are_within _))

  step_is_within : (labels marks : List ℕ) (at n : ℕ) → AllByRecursion IsWithin labels
      → AllByRecursion IsPlacedWithin (map (placed at) (step_of labels marks n))
  step_is_within labels marks at zero each = tt
  step_is_within labels marks at (suc n) each = by_label (slice_get labels n) refl
    where
      by_mark : (o : Option ℕ)
          → AllByRecursion IsPlacedWithin
          (map (placed at) (elim o [ Some i ↦ marked i ∷ [] | None ↦ [] ]))
      by_mark None = tt
      by_mark (Some i) = (tt, tt)

      by_label : (o : Option ℕ) → slice_get labels n ≡ o
          → AllByRecursion IsPlacedWithin
          (map (placed at) (elim o [
            | Some j ↦ label j ∷ []
            | None ↦ elim (slice_get marks (n - length labels)) [
              | Some i ↦ marked i ∷ []
              | None ↦ []
            ]
          ]))
      by_label None got = by_mark (slice_get marks (n - length labels))
      by_label (Some j) got = (each_of_got IsWithin labels n j each got, tt)

  groups_are_within : (labels marks : List ℕ) (count : ℕ) (gs : List Group)
      → AllByRecursion IsWithin labels
      → AllByRecursion IsPlacedWithin (group_steps labels marks count gs)
  groups_are_within labels marks count [] each = tt
  groups_are_within labels marks count (g ∷ gs) each =
      by_letter (is_last_letter g.last.byte) (groups_are_within labels marks (count + 1) gs each)
      (groups_are_within labels (marks ++ (count - 1) ∷ []) count gs each)
    where
      by_letter : (b : Bool)
          → AllByRecursion IsPlacedWithin (group_steps labels marks (count + 1) gs)
          → AllByRecursion IsPlacedWithin
          (group_steps labels (marks ++ (count - 1) ∷ []) count gs)
          → AllByRecursion IsPlacedWithin (elim b [
            | true ↦ map (placed (starts_at g)) (step_of labels marks (value g))
                ++ group_steps labels marks (count + 1) gs
            | false ↦ group_steps labels (marks ++ (count - 1) ∷ []) count gs
          ])
      by_letter true with_number with_mark =
          each_of_appended IsPlacedWithin _ _
          (step_is_within labels marks (starts_at g) (value g) each) with_number
      by_letter false with_number with_mark = with_mark

  compressed_are_within : (p : Compressed) → AllByRecursion IsPlacedWithin (compressed_steps db k p)
  compressed_are_within p = by_letters p.letters
    where
      labels : List ℕ
      labels = mandatory_hypotheses db k ++ flat_map (λ t. usable db k t.word) p.labels

      by_letters : (o : Option (List Token))
          → AllByRecursion IsPlacedWithin (elim o [
            | None ↦ []
            | Some ts ↦ group_steps (mandatory_hypotheses db k
                ++ flat_map (λ t. usable db k t.word) p.labels) [] 0 (groups [] (letters_of ts)).0
          ])
      by_letters None = tt
      by_letters (Some ts) =
          groups_are_within _ [] 0 (groups [] (letters_of ts)).0
          (each_of_appended IsWithin _ _ mandatory_are_within
          (each_of_flat IsWithin (λ t. usable db k t.word) p.labels
          (λ t. filtered_are_within _)))

  words_are_within : (ts : List Token) → AllByRecursion IsPlacedWithin (steps db k ts)
  words_are_within [] = tt
  words_are_within (t ∷ ts) = by_bracket (bytes_eq t.word (codes "("))
    where
      by_bracket : (b : Bool)
          → AllByRecursion IsPlacedWithin (elim b [
            | true ↦ compressed_steps db k (bracketed ts)
            | false ↦ normal_steps db k (t ∷ ts)
          ])
      by_bracket true = compressed_are_within (bracketed ts)
      by_bracket false = normal_are_within (t ∷ ts)

  placed_are_within : AllByRecursion IsPlacedWithin (steps_at db k)
  placed_are_within = by_statement (slice_get db k)
    where
      by_statement : (o : Option Statement)
          → AllByRecursion IsPlacedWithin
          (elim o [ Some (provable l p xs e ps d) ↦ steps db k ps | _ ↦ [] ])
      by_statement None = tt
      by_statement (Some (provable l p xs e ps d)) = words_are_within ps
      by_statement (Some (constants p xs d)) = tt
      by_statement (Some (variables p xs d)) = tt
      by_statement (Some (disjoint p xs d)) = tt
      by_statement (Some (floating l p xs d)) = tt
      by_statement (Some (essential l p xs d)) = tt
      by_statement (Some (axiomatic l p xs d)) = tt
      by_statement (Some (opening p)) = tt
      by_statement (Some (closing p)) = tt

  bare_are_within : (ps : List PlacedStep) → AllByRecursion IsPlacedWithin ps
      → AllByRecursion (IsStepWithin db) (map (λ p. p.step) ps)
  bare_are_within [] each = tt
  bare_are_within (p ∷ ps) each = (each.0, bare_are_within ps each.1)

  -- the steps of the proof of a statement of the database
  pub steps_are_within : AreStepsWithin db (proof_steps db k)
  steps_are_within =
      All-from_recursion (IsStepWithin db) _ (bare_are_within (steps_at db k) placed_are_within)
