-- Rows one after the other.
use Rattle.std.proofs.Common.{◌≡◌, ℕ, ◌+◌, ◌*◌, List, [], ◌∷◌, ◌++◌, length, subst, sym, arith}
use Rattle.std.proofs.Common.{get_or, refl}
use Rattle.std.proofs.Common.{below_more}
use Rattle.std.proofs.lemmas.List.{length-append, get_or_append_left, get_or_push}
use Rattle.std.proofs.Math.Nat.{add-mul}
use Rattle.std.proofs.lemmas.Grind.{common_steps}
use Rattle.mm_cites.specs.Citing.{Citing, theorem_at}
use Rattle.mm_rows.specs.BitRows.{IsBitRow, AreBitRows, AreEnds, row_at}
use Rattle.mm_rows.specs.Bits.{EndsAt, words_for}
use Rattle.mm_rows.proofs.ChainLaw.{row_of_longer_is_kept}
use Rattle.mm_rows.proofs.TransposeLaw.{row_end_le_length}

pub no_rows_are_bit_rows : (c : Citing) (axioms : List ℕ) → AreBitRows c axioms 0 []
no_rows_are_bit_rows c axioms = grind (arith, common_steps)

-- the row that stands behind those of i theorems
last_row_is : (bits row : List ℕ) (width i : ℕ) → length bits ≡ i * width → length row ≡ width
    → row_at (bits ++ row) width i ≡ row
last_row_is bits row width i bits_have_length row_has_width = grind (arith, common_steps)

pub bit_rows_with_next : (c : Citing) (axioms : List ℕ) (i : ℕ) (bits row : List ℕ)
    → AreBitRows c axioms i bits → IsBitRow c axioms (theorem_at c i) row
    → AreBitRows c axioms (i + 1) (bits ++ row)
bit_rows_with_next c axioms i bits row are_bit_rows is_bit_row =
    let width = words_for (length axioms) in
    record {
      size_is = omega (arith, length-append bits row, is_bit_row.has_words, add-mul i 1 width);
      each_is_bit_row = below_more
          (λ r. IsBitRow c axioms (theorem_at c r) (row_at (bits ++ row) width r)) i
          (λ r r_lt_i. subst (IsBitRow c axioms (theorem_at c r))
          (sym (row_of_longer_is_kept bits row width r
          (row_end_le_length width r i (length bits) r_lt_i are_bit_rows.size_is)))
          (are_bit_rows.each_is_bit_row r r_lt_i))
          (subst (IsBitRow c axioms (theorem_at c i))
          (sym (last_row_is bits row width i are_bit_rows.size_is is_bit_row.has_words))
          is_bit_row);
    }

pub no_rows_end : (width : ℕ) → AreEnds [] width 0 []
no_rows_end width = record {
  count_is = refl;
  each_ends = λ r r_lt_zero. absurd (omega (arith, r_lt_zero));
}

pub ends_with_next : (bits row ends : List ℕ) (width i end : ℕ) → length bits ≡ i * width
    → length row ≡ width → AreEnds bits width i ends → EndsAt row end
    → AreEnds (bits ++ row) width (i + 1) (ends ++ end ∷ [])
ends_with_next bits row ends width i end bits_have_length row_has_width are_ends ends_at = record {
  count_is = omega (arith, length-append ends (end ∷ []), are_ends.count_is);
  each_ends = below_more
      (λ r. EndsAt (row_at (bits ++ row) width r) (get_or (ends ++ end ∷ []) r 0)) i
      (λ r r_lt_i. rw (
        row_of_longer_is_kept bits row width r
            (row_end_le_length width r i (length bits) r_lt_i bits_have_length),
        get_or_append_left ends (end ∷ []) 0 r (omega (arith, r_lt_i, are_ends.count_is)),
      )
      (are_ends.each_ends r r_lt_i))
      (rw (
        last_row_is bits row width i bits_have_length row_has_width,
        get_or_push ends end 0 i are_ends.count_is,
      ) ends_at);
}
