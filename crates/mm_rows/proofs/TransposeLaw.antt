-- The indices of bits in a table.
use Rattle.std.proofs.Common.{◌≡◌, ℕ, false, List, ◌<◌, ◌≤◌, ◌+◌, ◌*◌, ◌/◌, ◌%◌, length, arith}
use Rattle.std.proofs.Math.Nat.{mul_left_comm}
use Rattle.std.proofs.lemmas.Grind.{common_steps}
use Rattle.mm_rows.specs.Bits.{is_bit, bit_index}
use Rattle.mm_rows.specs.BitRows.{row_at}

-- bit j of row i lies in word j / 64 of that row, at j % 64
pub bit_index_word : (width i j : ℕ) → bit_index width i j / 64 ≡ i * width + j / 64
bit_index_word width i j = grind (arith, common_steps, mul_left_comm)

pub bit_index_bit : (width i j : ℕ) → bit_index width i j % 64 ≡ j % 64
bit_index_bit width i j = grind (arith, common_steps, mul_left_comm)

-- a bit of a row is the bit with its index among the bits of all rows
pub row_bit_is_table_bit : (words : List ℕ) (width i j : ℕ) → j < 64 * width
    → is_bit (row_at words width i) j ≡ is_bit words (bit_index width i j)
row_bit_is_table_bit words width i j j_in_row = grind (arith, common_steps)

pub row_has_width_words : (words : List ℕ) (width i n : ℕ) → i < n → length words ≡ n * width
    → length (row_at words width i) ≡ width
row_has_width_words words width i n i_lt_n words_have_size = grind (arith, common_steps)

-- bits past the words of a row are not set
pub no_bit_past_row : (words : List ℕ) (width i n j : ℕ) → i < n → length words ≡ n * width
    → 64 * width ≤ j → is_bit (row_at words width i) j ≡ false
no_bit_past_row words width i n j i_lt_n words_have_size row_le_j = grind (arith, common_steps)

-- a row ends within the words of all rows
pub row_end_le_length : (width i n len : ℕ) → i < n → len ≡ n * width → i * width + width ≤ len
row_end_le_length width i n len i_lt_n length_is = grind arith
