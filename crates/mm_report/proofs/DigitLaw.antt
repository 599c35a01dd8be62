-- Digits and cells sent one piece after the other.
use Rattle.std.proofs.lemmas.Grind.{common_steps}
use Rattle.std.proofs.Common.{rules, ◌≡◌, ℕ, ◌+◌, ◌++◌, length, map, ap, ◌∙◌, sym, arith, false}
use Rattle.std.proofs.Common.{zero-add}
use Rattle.std.proofs.lemmas.List.FromFn.{fill_by_all, length-range_with_len}
use Rattle.std.proofs.lemmas.List.FromFn.{get_or-map-range_with_len}
use Rattle.std.specs.List.{range_with_len}
use Rattle.std.proofs.lemmas.List.{map-append, length-map, get_or-map}
use Rattle.mm_spec.specs.Report.{digit_at, hex_digit, digit_of, mark_at}
use Rattle.mm_rows.specs.Marks.{Marks, mark, row_marks}
use Rattle.mm_report.specs.Rows.{marks_of}
use Rattle.mm_report.proofs.SentLaw.{range_append}
use Rattle.mm_report.proofs.UserLaw.{mark_at_range}

-- how digit k of a row is written
abbrev pub digit_text : Marks → ℕ → ℕ → ℕ
digit_text m i k = hex_digit (digit_at k (row_marks m i))

-- the digits from 0 up to `from` and the n after them are those up to `both`
pub digits_append : (f : ℕ → ℕ) (from n both : ℕ) → from + n ≡ both
    → map f (range_with_len 0 from) ++ map f (range_with_len from n) ≡ map f (range_with_len 0 both)
digits_append f from n both from_plus_n_is_both = search (rules, arith, map-append, range_append)

-- a row has as many marks as the table has columns
pub marks_as_many_as_columns : (m : Marks) (i : ℕ) → length (marks_of m i) ≡ m.columns
marks_as_many_as_columns m i = grind (arith, common_steps, length-map, length-range_with_len)

-- how column j of a row is written
abbrev pub cell_text : Marks → ℕ → ℕ → ℕ
cell_text m i j = digit_of (mark_at j (row_marks m i))

-- the cells of all columns are the digits of the marks of the row
pub cells_are_digits_of_marks : (m : Marks) (i : ℕ)
    → map (cell_text m i) (range_with_len 0 m.columns) ≡ map digit_of (marks_of m i)
cells_are_digits_of_marks m i =
    let as_many = marks_as_many_as_columns m i in
    sym (fill_by_all (cell_text m i) (map digit_of (marks_of m i)) m.columns 0
    (length-map (marks_of m i) digit_of ∙ as_many)
    (λ k k_lt_columns. get_or-map digit_of (marks_of m i) k false 0 (omega (arith, as_many))
    ∙ ap digit_of (get_or-map-range_with_len (mark m i) 0 m.columns k k false k_lt_columns
    (zero-add k)
    ∙ sym (mark_at_range (mark m i) 0 m.columns k k_lt_columns
    ∙ ap (mark m i) (zero-add k)))))
