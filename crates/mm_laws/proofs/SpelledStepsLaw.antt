-- The steps of a proof are what its numbers or its labels name.
use Rattle.std.proofs.lemmas.Grind.{common_steps}
use Rattle.std.proofs.Common.{◌≡◌, ℕ, zero, Bool, true, List, ◌++◌, Some, refl, subst, arith, rules}
use Rattle.std.proofs.Common.{◌≢◌, suc, ◌+◌, ◌-◌, ◌<◌, ◌≤◌, ◌⊎◌, inl, inr, [], ◌∷◌, map, sym, ◌∙◌}
use Rattle.std.proofs.Common.{false, slice_get, true≢false, append_assoc, append-nil, length-append}
use Rattle.std.proofs.Common.{length, flat_map, count_by, Option, nat_le, bytes_eq, codes, leb-true}
use Rattle.std.specs.List.{list_any, range_with_len, AllZip, filter}
use Rattle.std.proofs.lemmas.Bool.{and_parts, or_left, cases_Bool, false_from_ne_true}
use Rattle.std.proofs.lemmas.Bool.Decides.{not_from_Decides}
use Rattle.std.proofs.lemmas.List.Sums.{sum_by-append}
use Rattle.std.proofs.lemmas.Option.{slice_get_cases}
use Rattle.std.proofs.lemmas.Slice.Eq.{bytes_eq-Decides}
use Rattle.mm_spec.specs.Text.{Bytes, Token, fault, is_in}
use Rattle.mm_spec.specs.declared.Fault.{Fault}
use Rattle.mm_spec.specs.Statement.{Statement}
use Rattle.mm_spec.specs.Scope.{Names as KnownNames, names_before, depth, statement_at, label_words}
use Rattle.mm_spec.specs.Lawful.{scope_faults, IsLawful}
use Rattle.mm_spec.specs.Lawful as lawful
use Rattle.mm_spec.specs.Opened.{open_as_axioms}
use Rattle.mm_spec.specs.Frame.{mandatory_hypotheses}
use Rattle.mm_spec.specs.Steps.{Step, PlacedStep, placed, label, marked}
use Rattle.mm_spec.specs.NormalProof.{is_labelled, usable, proof_label_faults, normal_steps}
use Rattle.mm_spec.specs.CompressedProof.{Group, value, starts_at, step_of, group_steps}
use Rattle.mm_spec.specs.CompressedProof.{compressed_faults, compressed_steps}
use Rattle.mm_spec.specs.Proof.{reading_faults, steps}
use Rattle.mm_spec.specs.Lexed.{LexedText}
use Rattle.mm_spec.specs.Output.{IsRead}
use Rattle.mm_laws.specs.Spelling.{Item, number, mark, is_number, is_mark_item, Spells, letters_in}
use Rattle.mm_laws.specs.Spelling.{IsMark, NamesStep, AreSteps, IsUsable}
use Rattle.mm_laws.specs.Laws.Read.{WhereRead}
use Rattle.mm_laws.specs.Laws.NamedSteps.{StepsAreNamed, StepsAreLabels}
use Rattle.mm_spec.specs.declared.Code.TheVariants.{IncompleteProof}
use Rattle.mm_spec.proofs.FindsLaw.{equal_bytes_equal_words, passing_statement}
use Rattle.mm_spec.proofs.FindsLaw.{later_place_knows_declared}
use Rattle.mm_spec.proofs.FaultlessLaw.{both_are_empty, faultless_label_is_new}
use Rattle.mm_spec.proofs.OpenedLaw.{counted_any}
use Rattle.mm_spec.proofs.CompleteLaw.{lawful_is_faultless}
use Rattle.mm_spec.proofs.GoodStepsLaw.{group_value_is_positive}
use Rattle.mm_spec.proofs.GroupsLaw.{AreFaultless}
use Rattle.mm_laws.proofs.ReadLaw.{read_statements_are_lawful}
use Rattle.mm_laws.proofs.SpellingLaw.{compressed_reads, letters_are_faultless, item_of, items_of}
use Rattle.mm_laws.proofs.SpellingLaw.{letters_spell_items, spelled_items_are_unique}
use Rattle.std.proofs.lemmas.Slice.Zip.{AllZip-long}

-- ---- lists

get_append : {X : Type 0} (xs ys : List X) (n : ℕ) (x : X) → slice_get (xs ++ ys) n ≡ Some x
    → (slice_get xs n ≡ Some x) ⊎ ((i : ℕ) × (n ≡ length xs + i) × (slice_get ys i ≡ Some x))
get_append [] ys n x x_is_at_n = inr (n, omega arith, x_is_at_n)
get_append (y ∷ xs) ys zero x x_is_at_n = inl x_is_at_n
get_append (y ∷ xs) ys (suc n) x x_is_at_n = search (rules, arith, (get_append xs ys n x x_is_at_n))

get_only : {X : Type 0} (y x : X) (i : ℕ) → slice_get (y ∷ []) i ≡ Some x → (i ≡ 0) × (y ≡ x)
get_only y x i h1 = grind (arith, common_steps)

pub count_append : (p : Item → Bool) (xs ys : List Item)
    → count_by p (xs ++ ys) ≡ count_by p xs + count_by p ys
count_append p xs ys = sum_by-append _ xs ys

count_with_number : (n : ℕ) (b : List Item)
    → count_by is_number (number n ∷ b) ≡ suc (count_by is_number b)
count_with_number n b = omega (arith, count_append is_number (number n ∷ []) b)

count_with_mark : (b : List Item) → count_by is_number (mark ∷ b) ≡ count_by is_number b
count_with_mark b = omega (arith, count_append is_number (mark ∷ []) b)

-- ---- marks

mark_stays_in_longer : (items added : List Item) (k i : ℕ) → IsMark items k i
    → IsMark (items ++ added) k i
mark_stays_in_longer items added k i is_mark = search (rules, arith, append_assoc)

abbrev AreMarks : List Item → List ℕ → Type 0
AreMarks items_before marks = (k i : ℕ) → slice_get marks k ≡ Some i → IsMark items_before k i

-- the marks are those of the items with one mark more
marks_push : (items_before : List Item) (marks : List ℕ) (count : ℕ) → 0 < count
    → count ≡ count_by is_number items_before → length marks ≡ count_by is_mark_item items_before
    → AreMarks items_before marks → AreMarks (items_before ++ mark ∷ []) (marks ++ (count - 1) ∷ [])
marks_push items_before marks count count_gt_0 count_is mark_count_is are_marks k i i_is_at_k =
    search (rules, arith, get_append, mark_stays_in_longer, get_only)

-- ---- the steps that items name, if other items come before them

module _ (hypotheses labels : List ℕ) where
  -- the steps are those that the items name, if the items `before` come before them
  abbrev AreNamed : List Item → List Item → List Step → Type 0
  AreNamed before [] [] = Unit {0}
  AreNamed before [] (s ∷ ss) = ⊥
  AreNamed before (number n ∷ items) [] = ⊥
  AreNamed before (number n ∷ items) (s ∷ ss) =
      NamesStep hypotheses labels before n s × AreNamed (before ++ number n ∷ []) items ss
  AreNamed before (mark ∷ items) ss = AreNamed (before ++ mark ∷ []) items ss

  as_many_as_numbers : (before items : List Item) (ss : List Step) → AreNamed before items ss
      → length ss ≡ count_by is_number items
  as_many_as_numbers before [] [] are_named = refl
  as_many_as_numbers before [] (s ∷ ss) are_named = absurd are_named
  as_many_as_numbers before (number n ∷ items) [] are_named = absurd are_named
  as_many_as_numbers before (number n ∷ items) (s ∷ ss) are_named =
      let later = as_many_as_numbers (before ++ number n ∷ []) items ss are_named.1 in
      omega (arith, count_append is_number (number n ∷ []) items)
  as_many_as_numbers before (mark ∷ items) ss are_named =
      let later = as_many_as_numbers (before ++ mark ∷ []) items ss are_named in
      omega (arith, count_append is_number (mark ∷ []) items)

  each_is_named : (before b after : List Item) (n : ℕ) (ss : List Step)
      → AreNamed before (b ++ number n ∷ after) ss
      → (s : Step) × (slice_get ss (count_by is_number b) ≡ Some s)
      × NamesStep hypotheses labels (before ++ b) n s
  each_is_named before [] after n [] are_named = absurd are_named
  each_is_named before [] after n (s ∷ ss) are_named = (s, refl, rw append-nil are_named.0)
  each_is_named before (number m ∷ b) after n [] are_named = absurd are_named
  each_is_named before (number m ∷ b) after n (s ∷ ss) are_named =
      let later = each_is_named (before ++ number m ∷ []) b after n ss are_named.1 in (
        later.0,
        rw (count_with_number m b) later.1,
        rw append_assoc at later.2,
      )
  each_is_named before (mark ∷ b) after n ss are_named =
      let later = each_is_named (before ++ mark ∷ []) b after n ss are_named in (
        later.0,
        rw (count_with_mark b) later.1,
        rw append_assoc at later.2,
      )

  -- a number that isn't too large names a step
  number_names_step : (items_before : List Item) (marks : List ℕ) (n : ℕ) → 0 < n
      → n ≤ length hypotheses + length labels + length marks → AreMarks items_before marks
      → (s : Step) × (step_of (hypotheses ++ labels) marks n ≡ s ∷ [])
      × NamesStep hypotheses labels items_before n s
  number_names_step items_before marks zero n_gt_0 n_le_count are_marks = absurd (omega arith)
  number_names_step items_before marks (suc n) n_gt_0 n_le_count are_marks =
      elim (slice_get_cases (hypotheses ++ labels) n).1 [
        | inl is_label ↦ (
          label is_label.0,
          rw (is_label.2, step_of) refl,
          elim (get_append hypotheses labels n is_label.0 is_label.2) [
            | inl in_hypotheses ↦ inl (n, omega arith, in_hypotheses)
            | inr in_labels ↦ inr (in_labels.0, omega (arith, in_labels.1), in_labels.2)
          ],
        )
        | inr no_label ↦ let k = n - length (hypotheses ++ labels) in
            elim (slice_get_cases marks k).1 [
              | inl is_mark ↦ (
                marked is_mark.0,
                rw (no_label.1, is_mark.2, step_of) refl,
                (
                  k,
                  omega (arith, no_label.0, length-append hypotheses labels),
                  are_marks k is_mark.0 is_mark.2,
                ),
              )
              | inr no_mark ↦
                  absurd (omega (arith, no_label.0, no_mark.0, length-append hypotheses labels))
            ]
      ]

  abbrev steps_of : List PlacedStep → List Step
  steps_of ps = map (λ p. p.step) ps

  -- the steps of groups are what their items name
  steps_from_groups : (gs : List Group) (items_before : List Item) (marks : List ℕ) (count : ℕ)
      → count ≡ count_by is_number items_before → length marks ≡ count_by is_mark_item items_before
      → AreMarks items_before marks
      → AreFaultless (length hypotheses + length labels) (length marks) count gs
      → AreNamed items_before (map item_of gs)
      (steps_of (group_steps (hypotheses ++ labels) marks count gs))
  steps_from_groups [] items_before marks count number_count_is mark_count_is are_marks
      are_faultless = tt
  steps_from_groups (g ∷ gs) items_before marks count number_count_is mark_count_is are_marks
      (inl (ends_number, fits, later)) =
      let byte_ge_65 = leb-true 65 g.last.byte
      (and_parts (nat_le 65 g.last.byte) (nat_le g.last.byte 84) ends_number).0 in
      let named = number_names_step items_before marks (value g)
      (group_value_is_positive _ g.last.byte byte_ge_65) fits are_marks in
      rw (ends_number, AreNamed, item_of, group_steps)
      (subst (λ own. AreNamed items_before (number (value g) ∷ map item_of gs)
      (steps_of (map (placed (starts_at g)) own
      ++ group_steps (hypotheses ++ labels) marks (count + 1) gs))) (sym named.1) (
        named.2,
        steps_from_groups gs (items_before ++ number (value g) ∷ []) marks (count + 1)
            (omega (arith, count_append is_number items_before (number (value g) ∷ [])))
            (omega (arith, count_append is_mark_item items_before (number (value g) ∷ [])))
            (λ j i is_at. mark_stays_in_longer items_before (number (value g) ∷ []) j i
            (are_marks j i is_at)) later,
      ))
  steps_from_groups (g ∷ gs) items_before marks count number_count_is mark_count_is are_marks
      (inr (ends_no_number, _, _, count_gt_0, later)) =
      let length_is = length-append marks ((count - 1) ∷ []) in
      rw (ends_no_number, AreNamed, item_of, group_steps)
      (steps_from_groups gs (items_before ++ mark ∷ []) (marks ++ (count - 1) ∷ []) count
      (omega (arith, count_append is_number items_before (mark ∷ [])))
      (omega (arith, count_append is_mark_item items_before (mark ∷ [])))
      (marks_push items_before marks count count_gt_0 number_count_is mark_count_is are_marks)
      (subst (λ z. AreFaultless (length hypotheses + length labels) z count gs) (omega arith)
      later))

  pub groups_name_steps : (gs : List Group)
      → AreFaultless (length hypotheses + length labels) 0 0 gs
      → AreSteps hypotheses labels (map item_of gs)
      (steps_of (group_steps (hypotheses ++ labels) [] 0 gs))
  groups_name_steps gs are_faultless =
      let ss = steps_of (group_steps (hypotheses ++ labels) [] 0 gs) in
      let are_named : AreNamed [] (map item_of gs) ss =
      steps_from_groups gs [] [] 0 refl refl (λ k i is_at. absurd (cc)) are_faultless in
      record {
        step_count_is = as_many_as_numbers [] (map item_of gs) ss are_named;
        each_is_named = λ b after n items_are. each_is_named [] b after n ss
            (subst (λ items. AreNamed [] items ss) items_are are_named);
      }

-- ---- labels

word_is_new : (n : KnownNames) (l : Token) (w : Bytes) (fs : List Fault)
    → bytes_eq l.word w ≡ true → lawful.label_faults n l ++ fs ≡ [] → is_in w n.labels ≡ false
word_is_new n l w fs is_word no_fault =
    search (rules, arith, equal_bytes_equal_words, faultless_label_is_new, both_are_empty)

label_is_new : (n : KnownNames) (d : ℕ) (s : Statement) (w : Bytes) → scope_faults n d s ≡ []
    → is_labelled w s ≡ true → is_in w n.labels ≡ false
label_is_new n d s w h1 h2 = grind (arith, common_steps, word_is_new, true≢false)

label_is_word : (s : Statement) (w : Bytes) → is_labelled w s ≡ true
    → is_in w (label_words s) ≡ true
label_is_word s w has_label =
    search (rules, arith, bytes_eq, or_left, bytes_eq-Decides, equal_bytes_equal_words)

-- the test finds nothing in a range, or one place
at_most_one_in_range : (passes : ℕ → Bool) → ((i j : ℕ) → passes i ≡ true → passes j ≡ true
    → i ≡ j) → (n a : ℕ)
    → (filter passes (range_with_len a n) ≡ [])
    ⊎ ((j : ℕ) × (filter passes (range_with_len a n) ≡ j ∷ []) × (passes j ≡ true) × (a ≤ j))
at_most_one_in_range passes passes_once zero a = inl refl
at_most_one_in_range passes passes_once (suc n) a =
    grind (arith, common_steps, cases_Bool, (at_most_one_in_range passes passes_once n (a + 1)))

abbrev pub HasLabel : List Statement → Bytes → ℕ → Type 0
HasLabel db w j = list_any (is_labelled w) (statement_at db j) ≡ true

-- a label is that of one statement
abbrev pub LabelsDiffer : List Statement → Type 0
LabelsDiffer db = (w : Bytes) (i j : ℕ) → HasLabel db w i → HasLabel db w j → i ≡ j

module _ (db : List Statement) (are_lawful : (k : ℕ) → k < length db → IsLawful db k) where
  label_not_twice : (w : Bytes) (i j : ℕ) → i < j → HasLabel db w i → HasLabel db w j → ⊥
  label_not_twice w i j i_lt_j labels_i labels_j =
      let labelled_i = passing_statement db (is_labelled w) i labels_i in
      let labelled_j = passing_statement db (is_labelled w) j labels_j in
      let is_new : is_in w (names_before db j).labels ≡ false =
      label_is_new (names_before db j) (depth db j) labelled_j.0 w
      (lawful_is_faultless db are_lawful j labelled_j.0 labelled_j.1) labelled_j.2 in
      true≢false (sym (later_place_knows_declared label_words db j i labelled_i.0 w labelled_i.1
      i_lt_j (label_is_word labelled_i.0 w labelled_i.2)) ∙ is_new)

  labels_are_distinct : LabelsDiffer db
  labels_are_distinct w i j labels_i labels_j = search (rules, arith, label_not_twice)

-- the labels of what is read differ, as it counts
pub labels_differ : (len : ℕ) (x : LexedText) (db : List Statement) (fault : Option Fault)
    → IsRead len x db fault → (with_open : Bool) → LabelsDiffer (open_as_axioms with_open db)
labels_differ len x db fault is_read with_open w i j labels_i labels_j =
    let same = counted_any with_open db (is_labelled w) (λ l k xs e ps d. refl) in
    labels_are_distinct db (read_statements_are_lawful len x db fault is_read) w i j
    (sym (same i) ∙ labels_i) (sym (same j) ∙ labels_j)

-- the faults of a word of a normal proof
abbrev pub own_faults : List Statement → ℕ → Token → List Fault
own_faults db k u =
    elim (bytes_eq u.word (codes "?"))
    [ true ↦ fault u.at IncompleteProof ∷ [] | false ↦ proof_label_faults db k u ]

pub no_own_faults : (db : List Statement) (k : ℕ) (u : Token) → own_faults db k u ≡ []
    → (u.word ≢ codes "?") × (proof_label_faults db k u ≡ [])
no_own_faults db k u no_fault =
    search (rules, arith, cases_Bool, bytes_eq, not_from_Decides, bytes_eq-Decides)

-- the words of a normal proof are read as one
pub normal_reads : (db : List Statement) (k end : ℕ) (t : Token) (ts : List Token)
    → t.word ≢ codes "(" → (reading_faults db k end (t ∷ ts) ≡ flat_map (own_faults db k) (t ∷ ts))
    × (steps db k (t ∷ ts) ≡ normal_steps db k (t ∷ ts))
normal_reads db k end t ts no_bracket =
    search (rules, arith, false_from_ne_true, bytes_eq, equal_bytes_equal_words)

module _ (db : List Statement) (labels_differ : LabelsDiffer db) where
  module _ (k : ℕ) where
    pub one_statement_is_usable : (t : Token) → proof_label_faults db k t ≡ []
        → (j : ℕ) × (usable db k t.word ≡ j ∷ []) × IsUsable db k t.word j
    one_statement_is_usable t no_fault =
        search (rules, arith, at_most_one_in_range, labels_differ, and_parts)

    pub labels_are_usable : (ts : List Token) → flat_map (proof_label_faults db k) ts ≡ []
        → (js : List ℕ) × AllZip (λ t j. IsUsable db k t.word j) ts js
        × (flat_map (λ t. usable db k t.word) ts ≡ js)
    labels_are_usable [] no_faults = ([], tt, refl)
    labels_are_usable (t ∷ ts) no_faults =
        let none = both_are_empty (proof_label_faults db k t) _ no_faults in
        let here = one_statement_is_usable t none.0 in
        let later = labels_are_usable ts none.1 in
        (here.0 ∷ later.0, (here.2, later.1), rw (here.1, later.2) refl)

    -- ---- proofs

    steps_are_labels : (ts : List Token) → flat_map (own_faults db k) ts ≡ []
        → AllZip (λ u s. (j : ℕ) × (s ≡ label j) × IsUsable db k u.word j) ts
        (map (λ p. p.step) (normal_steps db k ts))
    steps_are_labels [] no_faults = tt
    steps_are_labels (t ∷ ts) no_faults =
        let none = both_are_empty (own_faults db k t) _ no_faults in
        let here = one_statement_is_usable t (no_own_faults db k t none.0).1 in
        subst (λ js. AllZip (λ u s. (j : ℕ) × (s ≡ label j) × IsUsable db k u.word j) (t ∷ ts)
        (map (λ p. p.step) (map (λ j. placed t.at (label j)) js ++ normal_steps db k ts)))
        (sym here.1) ((here.0, refl, here.2), steps_are_labels ts none.1)

    normal_steps_are_labels : StepsAreLabels db k
    normal_steps_are_labels end t ts no_faults no_bracket =
        let reads = normal_reads db k end t ts no_bracket in
        subst (λ ps. AllZip (λ u s. (j : ℕ) × (s ≡ label j) × IsUsable db k u.word j) (t ∷ ts)
        (map (λ p. p.step) ps)) (sym reads.1) (steps_are_labels (t ∷ ts) (sym reads.0 ∙ no_faults))

    letters_name_steps : (end : ℕ) (labels letters : List Token) (items : List Item)
        → compressed_faults db k end (record { labels = labels; letters = Some letters }) ≡ []
        → Spells (letters_in letters) items
        → (js : List ℕ) × AllZip (λ t j. IsUsable db k t.word j) labels js
        × AreSteps (mandatory_hypotheses db k) js items (map (λ p. p.step)
        (compressed_steps db k (record { labels = labels; letters = Some letters })))
    letters_name_steps end labels letters items no_faults letters_spell =
        search (
          rules,
          arith,
          both_are_empty,
          labels_are_usable,
          letters_are_faultless,
          items_of,
          spelled_items_are_unique,
          letters_spell_items,
          AreFaultless,
          AllZip-long,
          groups_name_steps,
        )

    compressed_steps_are_named : StepsAreNamed db k
    compressed_steps_are_named end ts labels letters items no_faults is_compressed letters_spell =
        let reads = compressed_reads db k end ts labels letters is_compressed in
        subst (λ ps. (js : List ℕ) × AllZip (λ t j. IsUsable db k t.word j) labels js
        × AreSteps (mandatory_hypotheses db k) js items (map (λ p. p.step) ps)) (sym reads.1)
        (letters_name_steps end labels letters items (sym reads.0 ∙ no_faults) letters_spell)

pub steps_are_named : WhereRead StepsAreNamed
steps_are_named len x db fault is_read with_open k =
    search (rules, arith, compressed_steps_are_named, labels_differ)

pub steps_are_labels_where_read : WhereRead StepsAreLabels
steps_are_labels_where_read len x db fault is_read with_open k =
    search (rules, arith, normal_steps_are_labels, labels_differ)
