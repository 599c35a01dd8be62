-- Four columns as one digit.
use Rattle.std.proofs.lemmas.Grind.{common_steps}
use Rattle.std.proofs.lemmas.Bool.Decides.{nat_tests}
use Rattle.std.proofs.Common.{◌≡◌, ℕ, Bool, true, false, zero, suc, List, [], ◌∷◌, inl, inr, ◌<◌}
use Rattle.std.proofs.Common.{◌≤◌, ◌+◌, ◌-◌, ◌*◌, ◌/◌, ◌%◌, ◌^◌, length, map, take, drop, get_or}
use Rattle.std.proofs.Common.{bit_and, eqb, subst, sym, ap, ap₂, refl, arith, ◌∙◌, eqb-true, w8}
use Rattle.std.proofs.Common.{rules}
use Rattle.std.proofs.lemmas.Bool.{cases_lt, agree_below_at}
use Rattle.std.proofs.lemmas.Nat.{and_le_r, and_mask}
use Rattle.std.proofs.lemmas.Nat.Bits.{bit_at-lt}
use Rattle.std.proofs.lemmas.List.{ext_get_or, get_or_past, get_or-take, get_or-drop}
use Rattle.std.proofs.lemmas.List.FromFn.{get_or-map-range_with_len, length-map-range_with_len}
use Rattle.std.proofs.lemmas.Simd.{get_or-put_chunk_below, get_or-put_chunk_at, swz_l}
use Rattle.std.proofs.lemmas.Simd.{get_or-swz_l_below, get_or_narrower}
use Rattle.std.specs.Int.{bit_at}
use Rattle.std.specs.List.{range_with_len}
use Rattle.mm_spec.specs.Report.{bit_of, mark_at, digit_at, hex_digit}
use Rattle.mm_rows.specs.Bits.{is_bit, four_at}
use Rattle.mm_rows.specs.MarkBits.{AreBitsOfRow}
use Rattle.mm_rows.specs.Marks.{Marks, row_marks}
use Rattle.mm_rows.proofs.BitLaw.{masked_bit_is}
use Rattle.mm_rows.specs.declared.digits.TheConstants.{NUMBERS, DIGITS}
use Rattle.std.proofs.Math.Nat.{div-div-eq-div-mul}
use lib.Lanes.{put_chunk, number_l, digits_l}

-- the number that bits 4k to 4k + 3 of a word make, the first of them lowest
abbrev pub four : ℕ → ℕ → ℕ
four word k = bit_and (word / 2 ^ (4 * k)) 15

pub four_lt_16 : (word k : ℕ) → four word k < 16
four_lt_16 word k = grind (arith, common_steps, and_le_r)

four_is_low_four : (word k : ℕ) → four_at word k ≡ four_at (four word k) 0
four_is_low_four word k =
    let first_bit_is = masked_bit_is word (4 * k) 4 0 (omega arith) in
    let second_bit_is = masked_bit_is word (4 * k) 4 1 (omega arith) in
    let third_bit_is = masked_bit_is word (4 * k) 4 2 (omega arith) in
    let fourth_bit_is = masked_bit_is word (4 * k) 4 3 (omega arith) in
    let bit_index_is : bit_at word (4 * k + 0) ≡ bit_at word (4 * k) =
    ap (bit_at word) (omega arith) in
    omega (arith, first_bit_is, second_bit_is, third_bit_is, fourth_bit_is, bit_index_is)

-- both lists have the numbers of the four columns
numbers_have_fours : (n : ℕ) → n < 16 → get_or NUMBERS n 0 ≡ four_at n 0
numbers_have_fours n n_lt_16 = grind arith

digits_have_fours : (n : ℕ) → n < 16 → get_or DIGITS n 0 ≡ hex_digit (four_at n 0)
digits_have_fours n n_lt_16 = grind arith

pub number_of_four : (word k : ℕ) → get_or NUMBERS (four word k) 0 ≡ four_at word k
number_of_four word k = grind (arith, nat_tests, numbers_have_fours, four_lt_16, four_is_low_four)

-- the sixteen groups of four bits of a word, as numbers
abbrev pub fours : ℕ → List ℕ
fours word = map (four word) (range_with_len 0 16)

pub lane_is_hex_digit : (word k : ℕ) → k < 16
    → get_or (swz_l w8 16 DIGITS 0 (fours word)) k 0 ≡ hex_digit (four_at word k)
lane_is_hex_digit word k k_lt_16 =
    let four_is : get_or (fours word) k 0 ≡ four word k =
    get_or-map-range_with_len (four word) 0 16 k k 0 k_lt_16 (omega arith) in
    let index_lt_16 = four_lt_16 word k in
    let index_is : 16 * ((0 + k) / 16) + get_or (fours word) k 0 ≡ four word k =
    omega (arith, four_is, k_lt_16) in
    get_or-swz_l_below w8 16 DIGITS 0 (fours word) k k_lt_16 (omega (arith, four_is, index_lt_16))
    ∙ ap (λ n. get_or DIGITS n 0) index_is ∙ digits_have_fours (four word k) index_lt_16
    ∙ ap hex_digit (sym (four_is_low_four word k))

-- the bytes of a word that stands twice in sixteen lanes
abbrev pub byte : ℕ → ℕ → ℕ
byte word j = get_or (digits_l 256 16 (number_l (2 ^ 64) (word ∷ word ∷ []))) j 0

byte_of_word : (word j : ℕ) → word < 2 ^ 64 → j < 8 → byte word j ≡ word / 256 ^ j % 256
byte_of_word word j word_lt_2_64 j_lt_8 =
    let index_is_j : 8 * 0 + j ≡ j = omega arith in
    sym (ap (byte word) index_is_j)
    ∙ get_or_narrower (2 ^ 64) 8 256 16 (word ∷ word ∷ []) 0 j refl
    (word_lt_2_64, (word_lt_2_64, tt)) j_lt_8
    (omega arith)

-- `byte word j` has the groups 2 * j and 2 * j + 1
power_of_256 : (j : ℕ) → j < 8 → (256 ^ j ≡ 2 ^ (4 * (2 * j))) × (256 ^ j * 16 ≡ 2 ^
    (4 * (2 * j + 1)))
power_of_256 j j_lt_8 = (
  eqb-true _ _
      (agree_below_at (λ x. eqb (256 ^ x) (2 ^ (4 * (2 * x)))) (λ x. true) 8 j refl j_lt_8),
  eqb-true _ _ (agree_below_at (λ x. eqb (256 ^ x * 16) (2 ^ (4 * (2 * x + 1)))) (λ x. true) 8 j
      refl j_lt_8),
)

lower_half : (word : ℕ) → word < 2 ^ 64 → (j : ℕ) → j < 8
    → bit_and (byte word j) 15 ≡ four word (2 * j)
lower_half word word_lt_2_64 j j_lt_8 =
    let y = word / 256 ^ j in
    rw (byte_of_word word j word_lt_2_64 j_lt_8, ← (power_of_256 j j_lt_8).0)
    (and_mask (y % 256) 4 ∙ omega arith ∙ sym (and_mask y 4))

higher_half : (word : ℕ) → word < 2 ^ 64 → (j : ℕ) → j < 8
    → byte word j / 2 ^ 4 ≡ four word (2 * j + 1)
higher_half word word_lt_2_64 j j_lt_8 =
    let y = word / 256 ^ j in
    rw (
      byte_of_word word j word_lt_2_64 j_lt_8,
      ← (power_of_256 j j_lt_8).1,
      ← (div-div-eq-div-mul word (256 ^ j) 16),
    ) (omega arith ∙ sym (and_mask (y / 16) 4))

-- the lower half of each byte before the higher one
abbrev pub halves : ℕ → List ℕ
halves word =
    bit_and (byte word 0) 15 ∷ byte word 0 / 2 ^ 4 ∷ bit_and (byte word 1) 15 ∷ byte word 1 / 2 ^ 4
    ∷ bit_and (byte word 2) 15 ∷ byte word 2 / 2 ^ 4 ∷ bit_and (byte word 3) 15
    ∷ byte word 3 / 2 ^ 4 ∷ bit_and (byte word 4) 15 ∷ byte word 4 / 2 ^ 4
    ∷ bit_and (byte word 5) 15 ∷ byte word 5 / 2 ^ 4 ∷ bit_and (byte word 6) 15
    ∷ byte word 6 / 2 ^ 4 ∷ bit_and (byte word 7) 15 ∷ byte word 7 / 2 ^ 4 ∷ []

pub halves_are_fours : (word : ℕ) → word < 2 ^ 64 → halves word ≡ fours word
halves_are_fours word word_lt_2_64 = search (rules, arith, lower_half, higher_half)

pub half_is_hex_digit : (word k : ℕ) → word < 2 ^ 64 → k < 16
    → get_or (swz_l w8 16 DIGITS 0 (halves word)) k 0 ≡ hex_digit (four_at word k)
half_is_hex_digit word k word_lt_2_64 k_lt_16 =
    ap (λ js. get_or (swz_l w8 16 DIGITS 0 js) k 0) (halves_are_fours word word_lt_2_64)
    ∙ lane_is_hex_digit word k k_lt_16

-- the digits of the first w words are written
abbrev pub AreDigits : List ℕ → List ℕ → ℕ → Type 0
AreDigits words into w =
    (i : ℕ) → i < 16 * w → get_or into i 0 ≡ hex_digit (four_at (get_or words (i / 16) 0) (i % 16))

-- one more chunk of values is written
pub next_chunk_is_written : (n : ℕ) (value : ℕ → ℕ) (into lanes : List ℕ) (start : ℕ)
    → length lanes ≡ n → start + n ≤ length into
    → ((k : ℕ) → k < n → get_or lanes k 0 ≡ value (start + k))
    → ((i : ℕ) → i < start → get_or into i 0 ≡ value i)
    → (i : ℕ) → i < start + n → get_or (put_chunk start into lanes) i 0 ≡ value i
next_chunk_is_written n value into lanes start lanes_are_n end_le_length lanes_are before i
    i_lt_end = elim (cases_lt i start) [
      | inl i_lt_start ↦ get_or-put_chunk_below start into lanes i 0 i_lt_start ∙ before i
          i_lt_start
      | inr start_le_i ↦
          let index_is_i : start + (i - start) ≡ i = omega arith in
          subst (λ x. get_or (put_chunk start into lanes) x 0 ≡ value x) index_is_i
          (get_or-put_chunk_at start into lanes (i - start) 0 (omega arith) (omega arith)
          ∙ lanes_are (i - start) (omega arith))
    ]

pub next_digits_are_written : (words into lanes : List ℕ) (w : ℕ) → w < length words
    → length into ≡ 16 * length words → length lanes ≡ 16
    → ((k : ℕ) → k < 16 → get_or lanes k 0 ≡ hex_digit (four_at (get_or words w 0) k))
    → AreDigits words into w → AreDigits words (put_chunk (16 * w) into lanes) (w + 1)
next_digits_are_written words into lanes w w_lt_length into_has_size lanes_are_16 lanes_are_digits
    digits_before i i_lt_end =
    next_chunk_is_written 16 (λ k. hex_digit (four_at (get_or words (k / 16) 0) (k % 16))) into
    lanes (16 * w) lanes_are_16 (omega arith)
    (λ k k_lt_16.
    let word_is : (16 * w + k) / 16 ≡ w = omega arith in
    let digit_is : (16 * w + k) % 16 ≡ k = omega arith in
    rw (word_is, digit_is) (lanes_are_digits k k_lt_16)) digits_before i (omega arith)

-- written values are those of their places
pub written_are_values : (value : ℕ → ℕ) (from : ℕ) (into into_before : List ℕ)
    → length into ≡ length into_before
    → ((k : ℕ) → k < length into_before → get_or into k 0 ≡ value (from + k))
    → into ≡ map value (range_with_len from (length into_before))
written_are_values value from into into_before lengths_equal values_are =
    ext_get_or 0 into (map value (range_with_len from (length into_before)))
    (lengths_equal ∙ sym (length-map-range_with_len value from (length into_before)))
    (λ k k_lt_length.
    let k_lt_before : k < length into_before = omega arith in
    values_are k k_lt_before ∙ sym (get_or-map-range_with_len value from (length into_before) k
    (from + k) 0 k_lt_before refl))

-- mark n of a list is its element n, and past its end nothing is marked
mark_is_element : (n : ℕ) (xs : List Bool) → mark_at n xs ≡ get_or xs n false
mark_is_element n [] = refl
mark_is_element zero (b ∷ bs) = refl
mark_is_element (suc n) (b ∷ bs) = mark_is_element n bs

bit_value_is : (x : ℕ) → x < 2 → x ≡ bit_of (eqb x 1)
bit_value_is x h1 = grind (arith, common_steps)

module _ (m : Marks) (i : ℕ) (row : List ℕ) (are_bits : AreBitsOfRow m i row) where
  -- a bit of a row is a mark, and nothing is marked past the last column
  pub row_bit_is_mark : (j : ℕ) → is_bit row j ≡ mark_at j (row_marks m i)
  row_bit_is_mark j =
      search (
        rules,
        arith,
        get_or-map-range_with_len,
        length-map-range_with_len,
        get_or_past,
        mark_is_element,
      )

  row_bit_value_is_mark : (k b : ℕ) → b < 4
      → bit_at (get_or row (k / 16) 0) (4 * (k % 16) + b)
      ≡ bit_of (mark_at (4 * k + b) (row_marks m i))
  row_bit_value_is_mark k b b_lt_4 =
      let word_is : (4 * k + b) / 64 ≡ k / 16 = omega arith in
      let bit_place_is : (4 * k + b) % 64 ≡ 4 * (k % 16) + b = omega arith in
      sym (ap₂ (λ x y. bit_at (get_or row x 0) y) word_is bit_place_is)
      ∙ bit_value_is _ (bit_at-lt (get_or row ((4 * k + b) / 64) 0) ((4 * k + b) % 64))
      ∙ ap bit_of (row_bit_is_mark (4 * k + b))

  -- the number of four bits of a row is the digit of their columns
  pub row_four_is_digit : (k : ℕ)
      → four_at (get_or row (k / 16) 0) (k % 16) ≡ digit_at k (row_marks m i)
  row_four_is_digit k =
      let first_bit_is = row_bit_value_is_mark k 0 (omega arith) in
      let second_bit_is = row_bit_value_is_mark k 1 (omega arith) in
      let third_bit_is = row_bit_value_is_mark k 2 (omega arith) in
      let fourth_bit_is = row_bit_value_is_mark k 3 (omega arith) in
      let bit_index_is : bit_at (get_or row (k / 16) 0) (4 * (k % 16) + 0)
      ≡ bit_at (get_or row (k / 16) 0) (4 * (k % 16)) = ap (bit_at (get_or row (k / 16) 0))
      (omega arith) in
      let mark_index_is : bit_of (mark_at (4 * k + 0) (row_marks m i))
      ≡ bit_of (mark_at (4 * k) (row_marks m i)) =
      ap (λ n. bit_of (mark_at n (row_marks m i))) (omega arith) in
      omega arith

  -- the digits that were written from word `word` of a row on are those of its columns
  pub written_are_row_digits : (word : ℕ) (into into_before : List ℕ)
      → length into_before % 16 ≡ 0 → length into ≡ length into_before
      → ((k : ℕ) → k < length into_before
      → get_or into k 0
      ≡ hex_digit
      (four_at (get_or (take (word + length into_before / 16 - word) (drop word row)) (k / 16) 0)
      (k % 16)))
      → into ≡ map (λ k. hex_digit (digit_at k (row_marks m i)))
      (range_with_len (16 * word) (length into_before))
  written_are_row_digits word into into_before whole_words lengths_equal digits_written =
      written_are_values (λ k. hex_digit (digit_at k (row_marks m i))) (16 * word) into into_before
      lengths_equal
      (λ k k_lt_length.
      let word_in_part : k / 16 < word + length into_before / 16 - word = omega arith in
      let word_is : word + k / 16 ≡ (16 * word + k) / 16 = omega arith in
      let digit_index_is : k % 16 ≡ (16 * word + k) % 16 = omega arith in
      digits_written k k_lt_length
      ∙ ap (λ n. hex_digit (four_at n (k % 16)))
      (get_or-take (word + length into_before / 16 - word) (drop word row) (k / 16) 0 word_in_part
      ∙ get_or-drop word row (k / 16) 0)
      ∙ ap₂ (λ a b. hex_digit (four_at (get_or row a 0) b)) word_is digit_index_is
      ∙ ap hex_digit (row_four_is_digit (16 * word + k)))
