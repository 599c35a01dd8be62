-- The lists of labels of direct citations.
use Rattle.std.proofs.lemmas.Bool.Decides.{nat_tests}
use Rattle.std.proofs.lemmas.List.Elements.{filter_more}
use Rattle.std.proofs.Common.{◌≡◌, ℕ, ◌+◌, ◌<◌, Bool, true, false, List, [], ◌∷◌, true≢false, ◌++◌}
use Rattle.std.proofs.Common.{length, map, take, get_or, Option, refl, sym, ap, ◌∙◌, arith}
use Rattle.std.proofs.Common.{append_assoc, append-nil}
use Rattle.std.specs.List.{list_any}
use Rattle.std.proofs.lemmas.List.{map-append}
use Rattle.mm_spec.specs.Text.{Bytes}
use Rattle.mm_spec.specs.Statement.{Statement}
use Rattle.mm_spec.specs.Scope.{statement_at}
use Rattle.mm_spec.specs.Assertion.{has_typecode, label_at}
use Rattle.mm_spec.specs.Report.{separated}
use Rattle.mm_report.specs.Rows.{next_label}
use Rattle.mm_report.specs.CitingRows.{listed}

-- a label added to a list of labels, with a space before it unless it is the first
pub separated_push : (xs : List Bytes) (x : Bytes) (is_first_label : Bool)
    → (is_first_label ≡ true → xs ≡ [])
    → (is_first_label ≡ false → 0 < length xs)
    → separated (xs ++ x ∷ []) ≡ separated xs ++ next_label is_first_label x
separated_push xs x true first_label_has_none_before later_label_has_some_before =
    grind (arith, nat_tests)
separated_push [] x false first_label_has_none_before later_label_has_some_before =
    absurd (let xs_has_labels = later_label_has_some_before refl in omega (arith, xs_has_labels))
separated_push (y ∷ []) x false first_label_has_none_before later_label_has_some_before = refl
separated_push (y ∷ z ∷ ys) x false first_label_has_none_before later_label_has_some_before =
    ap (λ u. y ++ 32 ∷ u)
    (separated_push (z ∷ ys) x false (λ false_is_true. absurd (true≢false (sym false_is_true)))
    (λ false_is_false. omega arith))
    ∙ sym (append_assoc y (32 ∷ separated (z ∷ ys)) (32 ∷ x))

module _ (db : List Statement) (only : Option Bytes) (cited : List ℕ) where
  -- the statements that are listed, of the first `i` cited
  abbrev pub listed_before : ℕ → List ℕ
  listed_before i = listed db only (take i cited)

  -- whether a statement has the chosen typecode
  abbrev pub is_listed : ℕ → Bool
  is_listed a = list_any (has_typecode only) (statement_at db a)

  -- a statement that is listed is added
  listed_before_with_listed : (i : ℕ) → i < length cited → is_listed (get_or cited i 0) ≡ true
      → listed_before (i + 1) ≡ listed_before i ++ get_or cited i 0 ∷ []
  listed_before_with_listed i i_lt_length i_is_listed =
      rw i_is_listed at (filter_more is_listed cited i 0 i_lt_length)

  -- a statement that isn't listed adds nothing
  pub listed_before_unchanged : (i : ℕ) → i < length cited → is_listed (get_or cited i 0) ≡ false
      → listed_before (i + 1) ≡ listed_before i
  listed_before_unchanged i i_lt_length i_is_not_listed =
      rw (i_is_not_listed, append-nil) at (filter_more is_listed cited i 0 i_lt_length)

  -- the labels of the first of them
  abbrev pub labels : ℕ → List Bytes
  labels i = map (label_at db) (listed_before i)

  -- the label of a statement that is listed is added
  pub labels_with_listed : (i : ℕ) → i < length cited → is_listed (get_or cited i 0) ≡ true
      → labels (i + 1) ≡ labels i ++ label_at db (get_or cited i 0) ∷ []
  labels_with_listed i i_lt_length i_is_listed =
      ap (map (label_at db)) (listed_before_with_listed i i_lt_length i_is_listed)
      ∙ map-append (label_at db) (listed_before i) (get_or cited i 0 ∷ [])
