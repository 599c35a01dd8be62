-- The lines of assertions, one piece after the other.
use Rattle.std.proofs.lemmas.Grind.{common_steps, flat_map-append}
use Rattle.std.proofs.Common.{rules, Option, refl, ◌==◌, true≢false, append-nil, ◌≡◌, ◌∙◌, ℕ, suc}
use Rattle.std.proofs.Common.{◌+◌, ◌<◌, Bool, List, [], ◌∷◌, ◌++◌, length, take, get_or, map, sym}
use Rattle.std.proofs.Common.{ap, arith, All, zero-add, true, false}
use Rattle.mm_report.specs.Sent.{Pending, Sent}
use Rattle.mm_report.proofs.SentLaw.{sent_both, sent_equal_text, range_append}
use Rattle.std.proofs.lemmas.List.FromFn.{map-range_with_len_more, length-map-range_with_len}
use Rattle.std.proofs.lemmas.List.FromFn.{get_or-map-range_with_len}
use Rattle.mm_report.proofs.LabelLaw.{numbers_lt_bound}
use Rattle.std.specs.Prelude.{flat_map, codes}
use Rattle.std.specs.List.{filter, range_with_len}
use Rattle.std.proofs.lemmas.List.{flat_map_more, take_more}
use Rattle.std.proofs.lemmas.List.Elements.{All-nil, All-append, All-map, All-filter, All-weaker}
use Rattle.std.proofs.lemmas.List.Elements.{filter-append}
use Rattle.mm_spec.specs.Derivation.{Pair, pair}
use Rattle.mm_spec.specs.Frame.{pairs_below}
use Rattle.mm_spec.specs.Statement.{Statement}
use Rattle.mm_spec.specs.Assertion.{symbols_text, dummies_text, is_told}
use Rattle.mm_spec.specs.Text.{Bytes}
use Rattle.mm_tell.specs.Dummies.{DummyLists, HaveDummies, dummies_before}
use Rattle.mm_tell.specs.Dummies.{told_dummies, told_dummy_pairs}

-- after the texts of the first i elements that of the next was sent
pub sent_next : {X : Type 0} {a b c : Option (List ℕ)} {r s t : Pending} {i : ℕ}
    → (f : X → List ℕ) (xs : List X) (d : X) → i < length xs → Sent a b r s (flat_map f (take i xs))
    → Sent b c s t (f (get_or xs i d)) → Sent a c r t (flat_map f (take (i + 1) xs))
sent_next {i = i} f xs d i_lt_length sent sent_then =
    grind (arith, common_steps, sent_equal_text, flat_map_more, take_more, sent_both)

-- after the lines of the first i rows that of the next was sent
pub sent_row : {X : Type 0} {a b c : Option (List ℕ)} {r s t : Pending} {i : ℕ}
    → (line : X → List ℕ) (f : ℕ → X) → Sent a b r s (flat_map line (map f (range_with_len 0 i)))
    → Sent b c s t (line (f i))
    → Sent a c r t (flat_map line (map f (range_with_len 0 (i + 1))))
sent_row {i = i} line f sent sent_then =
    sent_equal_text _
    (flat_map_more line [] (map f (range_with_len 0 i)) (f i)
    ∙ ap (flat_map line) (sym (map-range_with_len_more f 0 i i (zero-add i))))
    (sent_both sent sent_then)

-- the texts of the selected numbers below n, and then that of n if it is selected, are those of the
-- selected numbers up to n
pub selected_texts_push : (f : ℕ → List ℕ) (p : ℕ → Bool) (n : ℕ)
    → flat_map f (filter p (range_with_len 0 n)) ++ flat_map f (filter p (n ∷ []))
    ≡ flat_map f (filter p (range_with_len 0 (n + 1)))
selected_texts_push f p n =
    search (rules, arith, flat_map-append, filter-append, zero-add, range_append)

-- the text of a number that is selected
pub selected_text : (f : ℕ → List ℕ) (p : ℕ → Bool) (n : ℕ) → p n ≡ true
    → f n ≡ flat_map f (filter p (n ∷ []))
selected_text f p n passes = grind (arith, common_steps, append-nil)

-- a number that isn't selected has no text
pub no_text_unless_selected : (f : ℕ → List ℕ) (p : ℕ → Bool) (n : ℕ) → p n ≡ false
    → [] ≡ flat_map f (filter p (n ∷ []))
no_text_unless_selected f p n fails = grind (arith, common_steps)

-- ---- dummy variables

-- the text of dummy variables, if there are some
pub some_dummies_text : (db : List Statement) (xs : List ℕ) → (length xs == 0) ≡ false
    → (32 ∷ codes "$v") ++ symbols_text db xs ≡ dummies_text db xs
some_dummies_text db xs h1 = grind (arith, common_steps, true≢false)

-- the lists of the statements that are told have the dummy variables of each of these
pub told_have_dummies : (db : List Statement) (only : Option Bytes) (lists : DummyLists) (k : ℕ)
    → lists ≡ dummies_before db only (length db) → k < length db → is_told db only k ≡ true
    → HaveDummies db lists k
told_have_dummies db only lists k are_dummies k_lt_length k_is_told =
    let of_variables = get_or-map-range_with_len (told_dummies db only) 0 (length db) k k []
    k_lt_length (zero-add k) in
    let of_pairs = get_or-map-range_with_len (told_dummy_pairs db only) 0 (length db) k k []
    k_lt_length (zero-add k) in
    rw are_dummies (record {
      variables_listed = rw length-map-range_with_len k_lt_length;
      pairs_listed = rw length-map-range_with_len k_lt_length;
      variables_are = of_variables ∙ rw k_is_told refl;
      pairs_are = of_pairs ∙ rw k_is_told refl;
    })

-- ---- numbers of symbols

-- both numbers of a pair are below n
abbrev pub AreBelow : ℕ → Pair → Type 0
AreBelow n p = (p.low < n) × (p.high < n)

-- the selected pairs of numbers below n are of numbers below n
pub selected_pairs_are_below : (keep : Pair → Bool) (n : ℕ)
    → All (AreBelow n) (filter keep (pairs_below n))
selected_pairs_are_below keep n =
    All-filter keep (AreBelow n) (pairs_below n) (all_pairs (range_with_len 0 n) below)
  where
    below : All (λ k. k < n) (range_with_len 0 n)
    below = numbers_lt_bound n

    with_low : (x : ℕ) → x < n → All (AreBelow n) (map (pair x) (range_with_len 0 n))
    with_low x x_lt_n =
        All-map (AreBelow n) (pair x) (range_with_len 0 n)
        (All-weaker (λ k. k < n) (λ k. AreBelow n (pair x k)) (λ k k_lt_n. (x_lt_n, k_lt_n))
        (range_with_len 0 n) below)

    all_pairs : (xs : List ℕ) → All (λ k. k < n) xs
        → All (AreBelow n) (flat_map (λ x. map (pair x) (range_with_len 0 n)) xs)
    all_pairs [] xs_below = All-nil (AreBelow n)
    all_pairs (x ∷ xs) xs_below =
        All-append (AreBelow n) (map (pair x) (range_with_len 0 n)) _
        (with_low x (xs_below 0 0 (omega arith)))
        (all_pairs xs (λ i d i_lt_length. xs_below (suc i) d (omega (arith, i_lt_length))))
