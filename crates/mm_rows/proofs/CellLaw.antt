-- Cells as digits, a word of them at a time.
use Rattle.std.proofs.lemmas.Grind.{common_steps}
use Rattle.std.proofs.Common.{◌≡◌, ℕ, Bool, true, false, List, [], ◌∷◌, ◌++◌, ◌<◌, ◌+◌, ◌-◌, ◌*◌}
use Rattle.std.proofs.Common.{◌/◌, ◌%◌, ◌^◌, length, map, take, drop, get_or, bit_and, eqb, cond}
use Rattle.std.proofs.Common.{sym, ap, ap₂, refl, arith, ◌∙◌, eqb-true, w8, rules}
use Rattle.std.specs.Prelude.{replicate}
use Rattle.std.specs.Int.{bit_at}
use Rattle.std.specs.List.{range_with_len}
use Rattle.std.proofs.lemmas.Bool.{agree_below_at}
use Rattle.std.proofs.lemmas.Nat.Bits.{bit_at_cat_low}
use Rattle.std.proofs.lemmas.List.{get_or-take, get_or-drop, get_or-map}
use Rattle.std.proofs.lemmas.Simd.{get_or_narrower, tops_compared, get_or-sel_l, get_or-zip2}
use Rattle.std.proofs.lemmas.Simd.{get_or-replicate, pick_l_left}
use Rattle.mm_spec.specs.Report.{digit_of, mark_at}
use Rattle.mm_spec.proofs.BitLaw.{shifted}
use Rattle.mm_rows.specs.Bits.{is_bit}
use Rattle.mm_rows.specs.MarkBits.{AreBitsOfRow}
use Rattle.mm_rows.specs.Marks.{Marks, row_marks}
use Rattle.mm_rows.specs.declared.cells.TheConstants.{BYTES, BITS}
use Rattle.mm_rows.proofs.BitLaw.{bit_of_word_at}
use Rattle.mm_rows.proofs.DigitLaw.{next_chunk_is_written, row_bit_is_mark, written_are_values}
use lib.Lanes.{put_chunk, number_l, digits_l, zip2, sel_l, pick_l, top}

-- a word in each of eight lanes
abbrev pub eight : ℕ → List ℕ
eight word = word ∷ word ∷ word ∷ word ∷ word ∷ word ∷ word ∷ word ∷ []

abbrev pub all_bytes : ℕ → List ℕ
all_bytes word = digits_l 256 64 (number_l (2 ^ 64) (eight word))

byte_of_word : (word j : ℕ) → word < 2 ^ 64 → j < 8
    → get_or (all_bytes word) j 0 ≡ word / 256 ^ j % 256
byte_of_word word j word_lt_2_64 j_lt_8 =
    let index_is_j : 8 * 0 + j ≡ j = omega arith in
    sym (ap (λ n. get_or (all_bytes word) n 0) index_is_j)
    ∙ get_or_narrower (2 ^ 64) 8 256 64 (eight word) 0 j refl (
      word_lt_2_64,
      (
        word_lt_2_64,
        (
          word_lt_2_64,
          (word_lt_2_64, (word_lt_2_64, (word_lt_2_64, (word_lt_2_64, (word_lt_2_64, tt))))),
        ),
      ),
    ) j_lt_8
    (omega arith)

-- lane k takes byte k / 8 of the word, and tests its bit k % 8
lane_takes_byte : (k : ℕ) → k < 64 → get_or BYTES k 0 ≡ k / 8
lane_takes_byte k k_lt_64 =
    eqb-true _ _
    (agree_below_at (λ x. eqb (get_or BYTES x 0) (x / 8)) (λ x. true) 64 k refl k_lt_64)

lane_tests_bit : (k : ℕ) → k < 64 → get_or BITS k 0 ≡ 2 ^ (k % 8)
lane_tests_bit k k_lt_64 =
    eqb-true _ _
    (agree_below_at (λ x. eqb (get_or BITS x 0) (2 ^ (x % 8))) (λ x. true) 64 k refl k_lt_64)

-- a bit is tested by the number that has it alone
bit_test_is : (y b : ℕ) → y < 256 → b < 8 → eqb (bit_and y (2 ^ b)) (2 ^ b) ≡ eqb (bit_at y b) 1
bit_test_is y b y_lt_256 b_lt_8 =
    let quotient_is_y : (8 * y + b) / 8 ≡ y = omega arith in
    let remainder_is_b : (8 * y + b) % 8 ≡ b = omega arith in
    sym (ap₂ (λ m n. eqb (bit_and m (2 ^ n)) (2 ^ n)) quotient_is_y remainder_is_b)
    ∙ agree_below_at (λ n. eqb (bit_and (n / 8) (2 ^ (n % 8))) (2 ^ (n % 8)))
    (λ n. eqb (bit_at (n / 8) (n % 8)) 1) 2048 (8 * y + b) refl (omega arith)
    ∙ ap₂ (λ m n. eqb (bit_at m n) 1) quotient_is_y remainder_is_b

low_byte_bit : (n b : ℕ) → b < 8 → bit_at (n % 256) b ≡ bit_at n b
low_byte_bit n b b_lt_8 =
    let parts_are_n : n / 256 * 2 ^ 8 + n % 256 ≡ n = omega arith in
    sym (bit_at_cat_low (n / 256) 8 (n % 256) b b_lt_8) ∙ ap (λ x. bit_at x b) parts_are_n

power_of_256 : (j : ℕ) → j < 8 → 256 ^ j ≡ 2 ^ (8 * j)
power_of_256 j j_lt_8 =
    eqb-true _ _ (agree_below_at (λ x. eqb (256 ^ x) (2 ^ (8 * x))) (λ x. true) 8 j refl j_lt_8)

byte_bit_is_word_bit : (word k : ℕ) → k < 64
    → bit_at (word / 256 ^ (k / 8) % 256) (k % 8) ≡ bit_at word k
byte_bit_is_word_bit word k k_lt_64 = search (rules, arith, low_byte_bit, power_of_256, shifted)

-- for each of 64 lanes the byte of the word that its cell is in
abbrev pub spread : ℕ → List ℕ
spread word = pick_l 0 (all_bytes word ++ all_bytes word) BYTES

abbrev pub masked : ℕ → List ℕ
masked word = zip2 bit_and (spread word) BITS

abbrev pub lanes : ℕ → List ℕ
lanes word =
    sel_l (map (top 7) (zip2 (λ a b. cond (eqb a b) 255 0) (masked word) BITS)) (replicate 64 49)
    (replicate 64 48)

spread_byte_is : (word k : ℕ) → word < 2 ^ 64 → k < 64
    → get_or (spread word) k 0 ≡ word / 256 ^ (k / 8) % 256
spread_byte_is word k word_lt_2_64 k_lt_64 =
    ap (λ xs. get_or xs k 0) (pick_l_left 0 (all_bytes word) (all_bytes word) 64 BYTES refl tt)
    ∙ get_or-map (λ n. get_or (all_bytes word) n 0) BYTES k 0 0 k_lt_64
    ∙ ap (λ n. get_or (all_bytes word) n 0) (lane_takes_byte k k_lt_64)
    ∙ byte_of_word word (k / 8) word_lt_2_64 (omega arith)

digit_is_shown : (b : Bool) → cond b 49 48 ≡ digit_of b
digit_is_shown b = grind (arith, common_steps)

pub lane_is_digit : (word k : ℕ) → word < 2 ^ 64 → k < 64
    → get_or (lanes word) k 0 ≡ digit_of (eqb (bit_at word k) 1)
lane_is_digit word k word_lt_2_64 k_lt_64 =
    let byte = word / 256 ^ (k / 8) % 256 in
    let masked_byte_is : get_or (masked word) k 0 ≡ bit_and byte (2 ^ (k % 8)) =
    get_or-zip2 bit_and (spread word) BITS k 0 0 0 k_lt_64 k_lt_64
    ∙ ap₂ bit_and (spread_byte_is word k word_lt_2_64 k_lt_64) (lane_tests_bit k k_lt_64) in
    ap (λ ms. get_or (sel_l ms (replicate 64 49) (replicate 64 48)) k 0)
    (tops_compared w8 eqb (masked word) BITS)
    ∙ get_or-sel_l (zip2 eqb (masked word) BITS) (replicate 64 49) (replicate 64 48) k 0 k_lt_64
    k_lt_64 k_lt_64
    ∙ ap₂ (cond (get_or (zip2 eqb (masked word) BITS) k false))
    (get_or-replicate 64 k 49 0 k_lt_64) (get_or-replicate 64 k 48 0 k_lt_64)
    ∙ digit_is_shown (get_or (zip2 eqb (masked word) BITS) k false)
    ∙ ap digit_of
    (get_or-zip2 eqb (masked word) BITS k 0 0 false k_lt_64 k_lt_64
    ∙ ap₂ eqb masked_byte_is (lane_tests_bit k k_lt_64)
    ∙ bit_test_is byte (k % 8) (omega arith) (omega arith)
    ∙ ap (λ n. eqb n 1) (byte_bit_is_word_bit word k k_lt_64))

-- the cells of the first w words are written
abbrev pub AreCells : List ℕ → List ℕ → ℕ → Type 0
AreCells words into w =
    (i : ℕ) → i < 64 * w → get_or into i 0 ≡ digit_of (is_bit words i)

pub next_cells_are_written : (words into lanes : List ℕ) (w : ℕ) → w < length words
    → length into ≡ 64 * length words → length lanes ≡ 64
    → ((k : ℕ) → k < 64 → get_or lanes k 0 ≡ digit_of (eqb (bit_at (get_or words w 0) k) 1))
    → AreCells words into w → AreCells words (put_chunk (64 * w) into lanes) (w + 1)
next_cells_are_written words into lanes w w_lt_length into_has_size lanes_are_64 lanes_are_digits
    cells_before i i_lt_end =
    next_chunk_is_written 64 (λ k. digit_of (is_bit words k)) into lanes (64 * w) lanes_are_64
    (omega arith)
    (λ k k_lt_64. lanes_are_digits k k_lt_64 ∙ sym (ap digit_of (bit_of_word_at words w k k_lt_64)))
    cells_before i (omega arith)

-- the cells that were written from word `word` of a row on are those of its columns
pub written_are_row_cells : (m : Marks) (i : ℕ) (row : List ℕ) → AreBitsOfRow m i row
    → (word : ℕ) (into into_before : List ℕ)
    → length into_before % 64 ≡ 0 → length into ≡ length into_before
    → ((k : ℕ) → k < length into_before
    → get_or into k 0
    ≡ digit_of (is_bit (take (word + length into_before / 64 - word) (drop word row)) k))
    → into ≡ map (λ j. digit_of (mark_at j (row_marks m i)))
    (range_with_len (64 * word) (length into_before))
written_are_row_cells m i row are_bits word into into_before whole_words lengths_equal digits_are =
    written_are_values (λ j. digit_of (mark_at j (row_marks m i))) (64 * word) into into_before
    lengths_equal
    (λ k k_lt_length.
    let word_in_part : k / 64 < word + length into_before / 64 - word = omega arith in
    let word_is : word + k / 64 ≡ (64 * word + k) / 64 = omega arith in
    let bit_is : k % 64 ≡ (64 * word + k) % 64 = omega arith in
    digits_are k k_lt_length
    ∙ ap (λ n. digit_of (eqb (bit_at n (k % 64)) 1))
    (get_or-take (word + length into_before / 64 - word) (drop word row) (k / 64) 0 word_in_part
    ∙ get_or-drop word row (k / 64) 0)
    ∙ ap₂ (λ a b. digit_of (eqb (bit_at (get_or row a 0) b) 1)) word_is bit_is
    ∙ ap digit_of (row_bit_is_mark m i row are_bits (64 * word + k)))
