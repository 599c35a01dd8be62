-- The list of the axioms that are shifted, as it grows by one axiom after the other.
use Rattle.std.proofs.Common.{◌≡◌, ◌∙◌, ℕ, ◌+◌, ◌<◌, ◌≤◌, Bool, true, false, List, []}
use Rattle.std.proofs.Common.{◌∷◌, ◌++◌, length, length-append, get_or, sym, refl, ap, subst}
use Rattle.std.proofs.Common.{arith, None, Option, not}
use Rattle.std.proofs.lemmas.List.{get_or_append_left, get_or-append-add}
use Rattle.std.proofs.Common.{true≢false, eqb-true, eq-eqb, nat_eq, inl, inr}
use Rattle.std.proofs.lemmas.Bool.{or_cases, or_left, or_right, cases_lt}
use Rattle.std.specs.Prelude.{slice_index, Decides}
use Rattle.std.specs.List.{list_any}
use Rattle.std.specs.List.Sorted.{IsStrictlyIncreasing}
use Rattle.mm_spec.specs.Text.{Bytes}
use Rattle.mm_spec.specs.Scope.{statement_at}
use Rattle.mm_spec.specs.Derivation.{is_member}
use Rattle.mm_spec.specs.Assertion.{has_typecode}
use Rattle.mm_spec.specs.Output.{columns}
use Rattle.mm_spec.proofs.MemberLaw.{member_push}
use Rattle.mm_spec.proofs.ListLaw.{element_is_member}
use Rattle.mm_spec.proofs.FindsLaw.{member_filter, filter_member}
use Rattle.mm_cites.specs.Citing.{IsStatementList}
use Rattle.mm_rows.proofs.ColumnLaw.{columns_are_chosen_axioms}
use Rattle.mm_spec.specs.Comparison.{AreShifted, RestsThere}
use Rattle.mm_shifts.specs.Resting.{Resting, Rests, side_in}
use Rattle.mm_shifts.specs.Shifted.{IsShifted, AreShiftedOfFirst}
use Rattle.mm_shifts.proofs.ElementsLaw.{member_has_index}

-- a number above all of an ascending list continues it
rising_push : (xs : List ℕ) (y : ℕ) → IsStrictlyIncreasing xs
    → ((x : ℕ) → is_member xs x ≡ true → x < y) → IsStrictlyIncreasing (xs ++ y ∷ [])
rising_push xs y rises above k k_lt_length =
    let lengths = length-append xs (y ∷ []) in
    elim (cases_lt (k + 1) (length xs)) [
      | inl within ↦ rw (
        get_or_append_left xs (y ∷ []) 0 k (omega arith),
        get_or_append_left xs (y ∷ []) 0 (k + 1) within,
      ) (rises k within)
      | inr at_end ↦ let k_is_last : k + 1 ≡ length xs + 0 = omega arith in
          rw (
            get_or_append_left xs (y ∷ []) 0 k (omega arith),
            k_is_last,
            get_or-append-add xs (y ∷ []) 0 0,
          )
          (above (get_or xs k 0) (element_is_member xs k 0 (omega arith)))
    ]

-- what holds of each element holds of each with one more
pub each_push : {X : Type 0} (P : ℕ → X → Type 0) (xs : List X) (x d : X) (i : ℕ) → length xs ≡ i
    → ((j : ℕ) → j < i → P j (get_or xs j d)) → P i x → (j : ℕ) → j < i + 1
    → P j (get_or (xs ++ x ∷ []) j d)
each_push P xs x d i length_is earlier last j j_lt_end = elim (cases_lt j i) [
  | inl j_lt_i ↦ rw (get_or_append_left xs (x ∷ []) d j (omega arith)) (earlier j j_lt_i)
  | inr i_le_j ↦ let j_is : j ≡ length xs + 0 = omega arith in
      let i_is : i ≡ length xs + 0 = omega arith in
      rw (j_is, get_or-append-add xs (x ∷ []) 0 d) (subst (λ k. P k x) i_is last)
]

module _ (axioms : List ℕ) (rise : IsStatementList axioms) (r other : Resting)
    (only : Option Bytes) (n : ℕ) where
  abbrev UpTo : ℕ → List ℕ → Type 0
  UpTo j list = AreShiftedOfFirst axioms r other only n j list

  pub none_shifted : UpTo 0 []
  none_shifted = record {
    rising = λ k k_lt_length. absurd (omega arith);
    are_shifted = λ a is_one. absurd (true≢false (sym is_one));
    all_are_listed = λ k k_lt_0. absurd (omega arith);
  }

  -- the next axiom is shifted
  pub one_more_shifted : (j : ℕ) (list : List ℕ) → j < length axioms → UpTo j list
      → IsShifted r other only n (slice_index axioms j)
      → UpTo (j + 1) (list ++ slice_index axioms j ∷ [])
  one_more_shifted j list j_lt_length up_to shifted = record {
    rising = rising_push list (slice_index axioms j) up_to.rising (λ x is_one.
        let (k, k_lt_j, found, is_shifted) = up_to.are_shifted x is_one in
        subst (λ z. z < slice_index axioms j) found (rise.rises k j k_lt_j j_lt_length));
    are_shifted = λ a is_one. elim (or_cases (is_member list a) (nat_eq a (slice_index axioms j))
        (sym (member_push list (slice_index axioms j) a) ∙ is_one)) [
          | inl earlier ↦ let (k, k_lt_j, found, is_shifted) = up_to.are_shifted a earlier in
              (k, omega (arith, k_lt_j), found, is_shifted)
          | inr is_last ↦ let equal = eqb-true a (slice_index axioms j) is_last in
              (j, omega arith, sym equal, subst (IsShifted r other only n) (sym equal) shifted)
        ];
    all_are_listed = λ k k_lt_end is_shifted.
        member_push list (slice_index axioms j) (slice_index axioms k)
        ∙ elim (cases_lt k j) [
          | inl k_lt_j ↦ or_left _ _ (up_to.all_are_listed k k_lt_j is_shifted)
          | inr j_le_k ↦ let k_is_j : k ≡ j = omega arith in
              or_right _ _ (eq-eqb _ _ (ap (slice_index axioms) k_is_j))
        ];
  }

  -- the next axiom isn't shifted
  pub no_more_shifted : (j : ℕ) (list : List ℕ) → UpTo j list
      → ¬ IsShifted r other only n (slice_index axioms j) → UpTo (j + 1) list
  no_more_shifted j list up_to not_shifted = record {
    rising = up_to.rising;
    are_shifted = λ a is_one.
        let (k, k_lt_j, found, is_shifted) = up_to.are_shifted a is_one in
        (k, omega (arith, k_lt_j), found, is_shifted);
    all_are_listed = λ k k_lt_end is_shifted. elim (cases_lt k j) [
      | inl k_lt_j ↦ up_to.all_are_listed k k_lt_j is_shifted
      | inr j_le_k ↦ let k_is_j : k ≡ j = omega arith in
          absurd (not_shifted (subst (λ i. IsShifted r other only n (slice_index axioms i)) k_is_j
          is_shifted))
    ];
  }

  -- none of the next axioms is one on which the theorem rests
  pub skip_unmarked : (j k : ℕ) (list : List ℕ) → j ≤ k → UpTo j list
      → ((i : ℕ) → j ≤ i → i < k → ¬ Rests r n (slice_index axioms i)) → UpTo k list
  skip_unmarked j k list j_le_k up_to unmarked = record {
    rising = up_to.rising;
    are_shifted = λ a is_one.
        let (i, i_lt_j, found, is_shifted) = up_to.are_shifted a is_one in
        (i, omega (arith, i_lt_j, j_le_k), found, is_shifted);
    all_are_listed = λ i i_lt_k is_shifted. elim (cases_lt i j) [
      | inl i_lt_j ↦ up_to.all_are_listed i i_lt_j is_shifted
      | inr j_le_i ↦ absurd (unmarked i j_le_i i_lt_k is_shifted.rests)
    ];
  }

-- all axioms were looked at
pub all_are_shifted : (r other : Resting) (only : Option Bytes) (n : ℕ) (list : List ℕ)
    → AreShiftedOfFirst (columns r.contents.statements None) r other only n
    (length (columns r.contents.statements None)) list
    → AreShifted (Rests r) (Rests other) only (side_in r) (side_in other) n list
all_are_shifted r other only n list up_to =
    let db = r.contents.statements in
    let all = columns db None in
    let has_type = λ (j : ℕ). list_any (has_typecode only) (statement_at db j) in
    let chosen = columns_are_chosen_axioms only db in
    record {
      rising = up_to.rising;
      shifted = λ a. (
        λ is_one.
            let (k, k_lt_end, found, is_shifted) = up_to.are_shifted a is_one in (
              ap (λ cs. is_member cs a) (sym chosen)
                  ∙ filter_member has_type all a is_shifted.has_typecode
                  (subst (λ z. is_member all z ≡ true) found
                  (element_is_member all k 0 k_lt_end)),
              is_shifted.rests,
              is_shifted.not_there,
            ),
        λ holds.
            let both = member_filter has_type all a (ap (λ cs. is_member cs a) chosen ∙ holds.0) in
            let (k, k_lt_end, found) = member_has_index all a both.1 in
            subst (λ z. is_member list z ≡ true) found
            (up_to.all_are_listed k k_lt_end (subst (IsShifted r other only n) (sym found)
            (record { has_typecode = both.0; rests = holds.1; not_there = holds.2 }))),
      );
    }

-- what rests here is shifted unless it rests there
pub shifted_unless_there : (r other : Resting) (only : Option Bytes) (n a : ℕ) (b : Bool)
    → Rests r n a → list_any (has_typecode only) (statement_at r.contents.statements a) ≡ true
    → Decides b (RestsThere (Rests other) (side_in r) n a (side_in other))
    → Decides (not b) (IsShifted r other only n a)
shifted_unless_there r other only n a true rests has_type decides = (
  λ is_false. absurd (true≢false (sym is_false)),
  λ shifted. absurd (shifted.not_there (decides.0 refl)),
)
shifted_unless_there r other only n a false rests has_type decides = (
  λ is_true. record {
    has_typecode = has_type;
    rests = rests;
    not_there = λ there. true≢false (sym (decides.1 there));
  },
  λ shifted. refl,
)
