-- What is read off a table.
use Rattle.std.proofs.lemmas.Grind.{common_steps}
use Rattle.std.proofs.lemmas.Bool.Decides.{nat_tests}
use Rattle.std.proofs.Common.{◌≡◌, ℕ, Bool, true, false, List, ◌<◌, ◌≤◌, ◌*◌, length, subst, sym}
use Rattle.std.proofs.Common.{ap₂, refl, arith, Option, count_by, ◌∙◌, ◌-◌, ◌^◌, min, rules}
use Rattle.std.proofs.Common.{◌⊎◌, inl, inr, true≢false}
use Rattle.std.proofs.lemmas.Bool.{cases_lt}
use Rattle.std.proofs.lemmas.List.FromFn.{get_or-map-range_with_len}
use Rattle.std.specs.List.{range_with_len}
use Rattle.mm_rows.specs.Bits.{is_bit, words_for, bit_index, AreTransposed, IsTable}
use Rattle.mm_cites.specs.Citing.{Citing, IsStatementList}
use Rattle.mm_rows.specs.BitRows.{marks, row_at, AreBitRows}
use Rattle.mm_rows.specs.Marks.{Marks, mark, IsAbove, first_after, IsMatrix}
use Rattle.mm_rows.specs.MarkBits.{AreBitsOf, AreBitsOfRow, AreBitsOfColumn, AreBitsOfColumns}
use Rattle.mm_rows.proofs.TransposeLaw.{row_bit_is_table_bit, row_has_width_words, no_bit_past_row}
use Rattle.mm_rows.proofs.CountLaw.{tally, equal_tests_equal_tallies, tally_of_passing_range}
use Rattle.mm_rows.proofs.CountLaw.{saturated_count_is_tally}

-- within a table a mark is its bit
pub mark_is_bit : (rows columns : ℕ) (bits : List ℕ) (i j : ℕ) → i < rows → j < columns
    → mark (marks rows columns bits) i j ≡ is_bit bits (bit_index (words_for columns) i j)
mark_is_bit rows columns bits i j i_lt_rows j_lt_columns =
    search (rules, arith, get_or-map-range_with_len)

-- a row of bits that has these marks
bits_of_row : (is_marked : ℕ → Bool) (n : ℕ) (words : List ℕ) (i count : ℕ) → n < 2 ^ 31
    → i < count → length words ≡ count * words_for n
    → ((j : ℕ) → j < n → is_bit words (bit_index (words_for n) i j) ≡ is_marked j)
    → ((j : ℕ) → n ≤ j → j < 64 * words_for n
    → is_bit words (bit_index (words_for n) i j) ≡ false)
    → AreBitsOf is_marked n (row_at words (words_for n) i)
bits_of_row is_marked n words i count n_lt_2_31 i_lt_count size_is bits_are_marks none_past_end =
    grind (arith, nat_tests, row_has_width_words, row_bit_is_table_bit, cases_lt, no_bit_past_row)

module _ (rows columns : ℕ) (words : List ℕ) (is_table : IsTable rows columns words) where
  pub bits_of_table_row : (i : ℕ) → i < rows
      → AreBitsOfRow (marks rows columns words) i (row_at words (words_for columns) i)
  bits_of_table_row i i_lt_rows =
      bits_of_row (mark (marks rows columns words) i) columns words i rows
      is_table.columns_lt_2_31 i_lt_rows is_table.size_is
      (λ j j_lt_columns. sym (mark_is_bit rows columns words i j i_lt_rows j_lt_columns))
      (λ j. is_table.none_past_columns i j i_lt_rows)

  -- the transposed words are those of all columns
  pub bits_of_transposed : (transposed : List ℕ) → AreTransposed rows columns words transposed
      → AreBitsOfColumns (marks rows columns words) transposed
  bits_of_transposed transposed are_transposed = record {
    size_is = are_transposed.size_is;
    each_has_bits =
        λ j j_lt_columns. bits_of_row (λ i. mark (marks rows columns words) i j) rows transposed j
        columns is_table.rows_lt_2_31 j_lt_columns are_transposed.size_is
        (λ i i_lt_rows. are_transposed.bits_are_transposed i j i_lt_rows j_lt_columns
        ∙ sym (mark_is_bit rows columns words i j i_lt_rows j_lt_columns))
        (λ i rows_le_i i_in_words. are_transposed.none_past_rows i j rows_le_i i_in_words
        j_lt_columns);
  }

-- a count of the bits is one of the marks
pub count_is_marks : (is_marked : ℕ → Bool) (n : ℕ) (bits : List ℕ) (result : ℕ)
    → AreBitsOf is_marked n bits
    → result ≡ min (tally (is_bit bits) (64 * length bits)) (2 ^ 64 - 1)
    → result ≡ count_by is_marked (range_with_len 0 n)
count_is_marks is_marked n bits result are_bits result_is =
    saturated_count_is_tally (is_bit bits) (64 * length bits) result (omega arith) result_is
    ∙ tally_of_passing_range (is_bit bits) n (64 * length bits) (omega arith)
    are_bits.none_past_end
    ∙ equal_tests_equal_tallies (is_bit bits) is_marked n are_bits.bits_are_marks

-- what is above a row is from the first row after it on
pub above_is_from_first : (after : Option ℕ) (k : ℕ) → IsAbove after k → first_after after ≤ k
above_is_from_first after k h1 = grind (arith, common_steps)

pub from_first_is_above : (after : Option ℕ) (k : ℕ) → first_after after ≤ k → IsAbove after k
from_first_is_above after k h1 = grind (arith, common_steps)

-- users are read off the bits of a column
module _ (m : Marks) (j : ℕ) (bits : List ℕ) (are_bits : AreBitsOfColumn m j bits)
    (after : Option ℕ) (from : ℕ) (from_is : from ≡ first_after after) where
  -- the next user: no row between is marked
  pub set_bit_is_next_user : (i : ℕ) → from ≤ i → is_bit bits i ≡ true
      → ((k : ℕ) → from ≤ k → k < i → is_bit bits k ≡ false)
      → (i < m.rows) × IsAbove after i × (mark m i j ≡ true)
      × ((k : ℕ) → IsAbove after k → k < i → mark m k j ≡ false)
  set_bit_is_next_user i from_le_i bit_is_set none_between = grind arith

  pub no_bit_no_user : ((k : ℕ) → from ≤ k → is_bit bits k ≡ false)
      → (k : ℕ) → IsAbove after k → k < m.rows → mark m k j ≡ false
  no_bit_no_user none_is_set k is_above k_lt_rows = grind arith

-- the marks of a row by its bits
module _ (m : Marks) (row : ℕ) (bits : List ℕ) (has_bits : AreBitsOfRow m row bits) (from : ℕ) where
  pub set_bit_is_next_marked : (j : ℕ) → from ≤ j → is_bit bits j ≡ true
      → ((k : ℕ) → from ≤ k → k < j → is_bit bits k ≡ false)
      → (j < m.columns) × (mark m row j ≡ true)
      × ((k : ℕ) → from ≤ k → k < j → mark m row k ≡ false)
  set_bit_is_next_marked j from_le_j bit_is_set none_between =
      by_place (cases_lt j m.columns)
    where
      by_place : (j < m.columns) ⊎ (m.columns ≤ j)
          → (j < m.columns) × (mark m row j ≡ true)
          × ((k : ℕ) → from ≤ k → k < j → mark m row k ≡ false)
      by_place (inl within) = (
        within,
        sym (has_bits.bits_are_marks j within) ∙ bit_is_set,
        λ k from_le_k k_lt_j. sym (has_bits.bits_are_marks k (omega (arith, within, k_lt_j)))
            ∙ none_between k from_le_k k_lt_j,
      )
      by_place (inr past) =
          absurd (true≢false (sym bit_is_set ∙ has_bits.none_past_end j past))

  pub no_bit_no_mark : ((k : ℕ) → from ≤ k → is_bit bits k ≡ false)
      → (k : ℕ) → from ≤ k → k < m.columns → mark m row k ≡ false
  no_bit_no_mark none_is_set k from_le_k k_lt_columns =
      sym (has_bits.bits_are_marks k k_lt_columns) ∙ none_is_set k from_le_k

-- the rows of all theorems are a table
pub bit_rows_are_table : (c : Citing) (axioms bits : List ℕ) (rows columns : ℕ)
    → IsStatementList c.theorems
    → IsStatementList axioms → AreBitRows c axioms (length c.theorems) bits
    → rows ≡ length c.theorems
    → columns ≡ length axioms → IsTable rows columns bits
bit_rows_are_table c axioms bits rows columns theorems_are_list axioms_are_list are_bit_rows rows_is
    columns_is =
    subst (λ n. IsTable n columns bits) (sym rows_is)
    (subst (λ n. IsTable (length c.theorems) n bits) (sym columns_is) record {
      rows_lt_2_31 = theorems_are_list.count_lt_2_31;
      columns_lt_2_31 = axioms_are_list.count_lt_2_31;
      size_is = are_bit_rows.size_is;
      none_past_columns =
          λ i j i_lt_theorems columns_le_j j_in_row.
          sym (row_bit_is_table_bit bits (words_for (length axioms)) i j j_in_row)
          ∙ (are_bit_rows.each_is_bit_row i i_lt_theorems).none_past_columns j columns_le_j;
    })

pub bit_rows_are_matrix : (c : Citing) (axioms bits : List ℕ) (rows columns : ℕ) (m : Marks)
    → AreBitRows c axioms (length c.theorems) bits → rows ≡ length c.theorems
    → columns ≡ length axioms → m ≡ marks rows columns bits → IsMatrix c axioms m
bit_rows_are_matrix c axioms bits rows columns m are_bit_rows rows_is columns_is m_is =
    subst (λ x. IsMatrix c axioms x) (sym (m_is ∙ ap₂ (λ a b. marks a b bits) rows_is columns_is))
    record {
      rows_are = refl;
      columns_are = refl;
      marks_decide =
          λ i j i_lt_theorems j_lt_columns. let row_decides =
          (are_bit_rows.each_is_bit_row i i_lt_theorems).marks_decide j j_lt_columns in
          let bit_is_mark = row_bit_is_table_bit bits (words_for (length axioms)) i j (omega arith)
          ∙ sym (mark_is_bit (length c.theorems) (length axioms) bits i j i_lt_theorems
          j_lt_columns) in (
            (λ is_marked. row_decides.0 (bit_is_mark ∙ is_marked)),
            λ rests. sym bit_is_mark
                ∙ row_decides.1 rests,
          );
    }
