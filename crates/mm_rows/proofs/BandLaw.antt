-- Bands of 64 rows written as columns.
use Rattle.std.proofs.lemmas.Grind.{common_steps}
use Rattle.std.proofs.Common.{◌≡◌, ℕ, true, false, cond, ◌||◌, List, inl, inr, ◌<◌, ◌≤◌, ◌+◌, ◌*◌}
use Rattle.std.proofs.Common.{◌/◌, ◌%◌, ◌-◌, ◌^◌, min, length, map, subst, sym, ap, ap₂, arith}
use Rattle.std.proofs.Common.{get_or, set, eqb, replicate, bit_and, bit_or, ◌∙◌, rules}
use Rattle.std.proofs.lemmas.Bool.{cases_eq, eq-eqb, ne_eqb, lt-ltb, le-ltb}
use Rattle.std.proofs.lemmas.Nat.{same_from_place, pow_pos}
use Rattle.std.proofs.lemmas.Nat.Bits.{bit_at-lt, and_pow}
use Rattle.std.proofs.lemmas.List.{get_or-set_same, get_or-set_other, get_or-map, length-set}
use Rattle.std.proofs.lemmas.Simd.{length-zip2, get_or-zip2, bit_mask_l, get_or-replicate}
use Rattle.std.proofs.lemmas.Simd.{length-replicate}
use Rattle.std.proofs.Math.Bool.{or-true}
use Rattle.std.specs.Int.{bit_at}
use Rattle.std.proofs.lemmas.Bool.Decides.{nat_tests}
use Rattle.mm_rows.specs.Bits.{is_bit, words_for, bit_index, AreTransposed}
use Rattle.mm_rows.specs.BitRows.{row_at}
use Rattle.mm_rows.specs.Bands.{bit_in_rows, IsColumnWord, AreRowBytes, ColumnsWritten}
use Rattle.mm_rows.proofs.BitLaw.{masked_bit_is, or_bits}
use Rattle.mm_rows.proofs.TransposeLaw.{bit_index_word, bit_index_bit, row_bit_is_table_bit}
use Rattle.mm_rows.proofs.TransposeLaw.{row_has_width_words}
use lib.Lanes.{zip2, mask_l}

-- the test whether a word has the bit of 2 ^ b gives its bit b
test_of_multiple : (x p : ℕ) → x < 2 → 0 < p → cond (eqb (x * p) p) 1 0 ≡ x
test_of_multiple x p h1 h2 = grind (arith, common_steps, ne_eqb, eq-eqb)

power_test_gives_bit : (n b : ℕ) → cond (eqb (bit_and n (2 ^ b)) (2 ^ b)) 1 0 ≡ bit_at n b
power_test_gives_bit n b = grind (arith, nat_tests, and_pow, test_of_multiple, bit_at-lt, pow_pos)

-- bit b of each lane, as the mask of the lanes that have it
pub lane_bit : (v : List ℕ) (n m b k : ℕ) → length v ≡ n → m ≡ 2 ^ b → k < n
    → bit_at (mask_l (map (λ x. eqb x m) (zip2 bit_and v (replicate n m)))) k
    ≡ bit_at (get_or v k 0) b
lane_bit v n m b k length_is_n m_is k_lt_n =
    let masks_length = length-replicate n m in
    let masked_length =
    length-zip2 bit_and v (replicate n m) (omega (arith, masks_length, length_is_n)) in
    bit_mask_l (map (λ x. eqb x m) (zip2 bit_and v (replicate n m))) k
    ∙ ap (λ t. cond t 1 0)
    (get_or-map (λ x. eqb x m) (zip2 bit_and v (replicate n m)) k 0 false
    (omega (arith, masked_length, length_is_n, k_lt_n)))
    ∙ ap (λ x. cond (eqb x m) 1 0)
    (get_or-zip2 bit_and v (replicate n m) k 0 0 0 (omega (arith, length_is_n, k_lt_n))
    (omega (arith, masks_length, k_lt_n))
    ∙ ap (bit_and (get_or v k 0)) (get_or-replicate n k m 0 k_lt_n))
    ∙ ap (λ x. cond (eqb (bit_and (get_or v k 0) x) x) 1 0) m_is
    ∙ power_test_gives_bit (get_or v k 0) b

-- for a row of the table the bit is the one in its words, and past the last row none is set
pub bit_in_rows_is_bit : (rows across : ℕ) (bits : List ℕ) (i j : ℕ) → i < rows
    → bit_in_rows rows across bits i j ≡ is_bit bits (bit_index across i j)
bit_in_rows_is_bit rows across bits i j i_lt_rows = grind (arith, common_steps, lt-ltb)

pub no_bit_past_rows : (rows across : ℕ) (bits : List ℕ) (i j : ℕ) → rows ≤ i
    → bit_in_rows rows across bits i j ≡ false
no_bit_past_rows rows across bits i j rows_le_i = grind (arith, common_steps, le-ltb)

-- the columns of the rows from first up to n are marked
abbrev pub AreMarked : ℕ → List ℕ → List ℕ → ℕ → ℕ → Type 0
AreMarked across bits has_mark first n =
    (i j : ℕ) → first ≤ i → i < n → j < 64 * across → is_bit bits (bit_index across i j) ≡ true
    → is_bit has_mark j ≡ true

pub row_or_marks_columns : (across rows : ℕ) (bits old new : List ℕ) (first n : ℕ) → n < rows
    → length bits ≡ rows * across → length old ≡ across → length new ≡ length old
    → ((k : ℕ) → k < length old
    → get_or new k 0 ≡ bit_or (get_or old k 0) (get_or (row_at bits across n) k 0))
    → AreMarked across bits old first n → AreMarked across bits new first (n + 1)
row_or_marks_columns across rows bits old new first n n_lt_rows bits_have_size marks_have_width
    lengths_equal words_are_ored are_marked
    i j first_le_i i_lt_next j_in_row bit_is_set =
    or_bits new old (row_at bits across n) lengths_equal
    (marks_have_width ∙ sym (row_has_width_words bits across n rows n_lt_rows bits_have_size))
    words_are_ored j
    ∙ elim (cases_eq i n) [
      | inl i_is_n ↦ ap (λ b. is_bit old j || b) (row_bit_is_table_bit bits across n j j_in_row
          ∙ subst (λ x. is_bit bits (bit_index across x j) ≡ true) i_is_n bit_is_set)
          ∙ or-true (is_bit old j)
      | inr i_is_not_n ↦ ap (λ b. b || is_bit (row_at bits across n) j)
          (are_marked i j first_le_i (omega arith) j_in_row bit_is_set)
    ]

pub band_bits_are_marked : (across rows : ℕ) (bits has_mark : List ℕ) (w end : ℕ)
    → min (64 * w + 64) rows ≤ end
    → AreMarked across bits has_mark (64 * w) end → (k j : ℕ) → k < 64 → j < 64 * across
    → bit_in_rows rows across bits (64 * w + k) j ≡ true → is_bit has_mark j ≡ true
band_bits_are_marked across rows bits has_mark w end rows_le_end are_marked k j k_lt_64 j_in_row
    bit_is_set = grind arith

-- byte `byte_index` of row i
abbrev pub byte_of : List ℕ → ℕ → ℕ → ℕ → ℕ
byte_of bits across i byte_index =
    bit_and (get_or bits (i * across + byte_index / 8) 0 / 2 ^ (8 * (byte_index % 8))) 255

-- its bit b is bit 8 * byte_index + b of that row
pub row_byte : (bits : List ℕ) (across i byte_index b : ℕ) → b < 8
    → eqb (bit_at (byte_of bits across i byte_index) b) 1
    ≡ is_bit bits (bit_index across i (8 * byte_index + b))
row_byte bits across i byte_index b b_lt_8 =
    let word_is : (8 * byte_index + b) / 64 ≡ byte_index / 8 = omega arith in
    let bit_is : (8 * byte_index + b) % 64 ≡ 8 * (byte_index % 8) + b = omega arith in
    ap (λ x. eqb x 1)
    (masked_bit_is (get_or bits (i * across + byte_index / 8) 0) (8 * (byte_index % 8)) 8 b b_lt_8)
    ∙ sym (ap₂ (λ x y. eqb (bit_at (get_or bits x 0) y) 1)
    (bit_index_word across i (8 * byte_index + b) ∙ ap (λ x. i * across + x) word_is)
    (bit_index_bit across i (8 * byte_index + b) ∙ bit_is))

-- of the rows from `first` on, the first n have their byte with index `at` among these bytes
pub record BytesTo (across : ℕ) (bits : List ℕ) (byte_index : ℕ) (bytes : List ℕ)
    (first n : ℕ) : Type 0 where
  pub has_64_bytes : length bytes ≡ 64
  pub bytes_are_written : (k b : ℕ) → k < n → b < 8
      → eqb (bit_at (get_or bytes k 0) b) 1
      ≡ is_bit bits (bit_index across (first + k) (8 * byte_index + b))
  pub later_are_zero : (k : ℕ) → n ≤ k → k < 64 → get_or bytes k 0 ≡ 0

pub no_bytes_written : (across : ℕ) (bits : List ℕ) (byte_index first : ℕ)
    → BytesTo across bits byte_index (replicate 64 0) first 0
no_bytes_written across bits byte_index first =
    let zero : ℕ = 0 in
    record {
      has_64_bytes = length-replicate 64 zero;
      bytes_are_written = λ k b k_lt_zero b_lt_8. absurd (omega arith);
      later_are_zero = λ k zero_le_k k_lt_64. get_or-replicate 64 k zero zero k_lt_64;
    }

pub next_byte_is_written : (across : ℕ) (bits : List ℕ) (byte_index : ℕ) (bytes : List ℕ)
    (first n : ℕ) → n < 64 → BytesTo across bits byte_index bytes first n
    → BytesTo across bits byte_index (set bytes n (byte_of bits across (first + n) byte_index))
    first (n + 1)
next_byte_is_written across bits byte_index bytes first n n_lt_64 written_before =
    search (rules, arith, length-set, get_or-set_same, row_byte, get_or-set_other)

pub written_bytes_are_row_bytes : (rows across : ℕ) (bits : List ℕ) (w byte_index : ℕ)
    (bytes : List ℕ) (n : ℕ)
    → min (rows - 64 * w) 64 ≤ n → 64 * w + n ≤ rows
    → BytesTo across bits byte_index bytes (64 * w) n
    → AreRowBytes rows across bits w byte_index bytes
written_bytes_are_row_bytes rows across bits w byte_index bytes n rest_le_n last_le_rows written k b
    k_lt_64 b_lt_8 = grind arith

-- the word of a column whose bits are those of the bytes
pub lane_is_column_word : (rows across : ℕ) (bits : List ℕ) (w byte_index : ℕ) (bytes : List ℕ)
    (j word : ℕ)
    → AreRowBytes rows across bits w byte_index bytes → 8 * byte_index ≤ j → j < 8 * byte_index + 8
    → ((k : ℕ) → k < 64 → bit_at word k ≡ bit_at (get_or bytes k 0) (j % 8))
    → IsColumnWord rows across bits w j word
lane_is_column_word rows across bits w byte_index bytes j word are_row_bytes first_le_j j_lt_last
    bits_equal k k_lt_64 = grind (arith, nat_tests)

-- a word of a column lies within the words
pub word_index_lt_length : (columns down j w len : ℕ) → j < columns → w < down
    → len ≡ columns * down
    → j * down + w < len
word_index_lt_length columns down j w len j_lt_columns w_lt_down length_is = grind arith

module _ (rows columns : ℕ) (bits transposed : List ℕ) (w : ℕ) (w_lt_words : w < words_for rows)
  where
    -- the word of column j that band v makes, among all words
    abbrev IsWordAt : ℕ → ℕ → ℕ → Type 0
    IsWordAt v j word = IsColumnWord rows (words_for columns) bits v j word

    -- after word w of column j was written, band w is written in the columns up to j
    pub next_word_is_written : (j word : ℕ) → j < columns → IsWordAt w j word
        → ColumnsWritten rows columns bits transposed w j
        → ColumnsWritten rows columns bits (set transposed (j * words_for rows + w) word) w (j + 1)
    next_word_is_written j word j_lt_columns is_column_word before = record {
      size_is = length-set transposed (j * words_for rows + w) word ∙ before.size_is;
      earlier_bands = λ l v l_lt_columns v_lt_w v_lt_words.
          rw (kept l v v_lt_words (λ l_is_j v_is_w. omega arith))
          (before.earlier_bands l v l_lt_columns v_lt_w v_lt_words);
      written_below = λ l l_lt_columns l_lt_next. elim (cases_eq l j) [
        | inl l_is_j ↦
            subst (λ x. IsWordAt w x (get_or after (x * words_for rows + w) 0)) (sym l_is_j)
            (subst (IsWordAt w j)
            (sym (get_or-set_same transposed (j * words_for rows + w) word 0
            (word_index_lt_length columns (words_for rows) j w (length transposed) j_lt_columns
            w_lt_words before.size_is))) is_column_word)
        | inr l_is_not_j ↦
            subst (IsWordAt w l) (sym (kept l w w_lt_words (λ l_is_j v_is_w. l_is_not_j l_is_j)))
            (before.written_below l l_lt_columns (omega arith))
      ];
      zero_from = λ l l_lt_columns next_le_l v_lt_words.
          kept l w v_lt_words (λ l_is_j v_is_w. omega arith)
          ∙ before.zero_from l l_lt_columns (omega arith) v_lt_words;
      later_bands = λ l v l_lt_columns w_lt_v v_lt_words.
          kept l v v_lt_words (λ l_is_j v_is_w. omega arith)
          ∙ before.later_bands l v l_lt_columns w_lt_v v_lt_words;
    }
      where
        after : List ℕ
        after = set transposed (j * words_for rows + w) word

        kept : (l v : ℕ) → v < words_for rows → (l ≡ j → v ≡ w → ⊥)
            → get_or after (l * words_for rows + v) 0 ≡ get_or transposed (l * words_for rows + v) 0
        kept l v v_lt_words is_other =
            get_or-set_other transposed (j * words_for rows + w) (l * words_for rows + v) word 0
            (λ places_equal. let indices_equal = same_from_place l v j w (words_for rows) v_lt_words
            w_lt_words places_equal in is_other indices_equal.0 indices_equal.1)

    -- columns without a mark in band w are passed, as their words are zero already
    pub zero_words_are_written : (from to : ℕ)
        → ((j : ℕ) → from ≤ j → j < to → j < columns → IsWordAt w j 0)
        → from ≤ to → ColumnsWritten rows columns bits transposed w from
        → ColumnsWritten rows columns bits transposed w to
    zero_words_are_written from to none_is_marked from_le_to before = grind arith

    pub zero_word_is_written : (j word : ℕ) → IsWordAt w j word → word ≡ 0
        → ColumnsWritten rows columns bits transposed w j
        → ColumnsWritten rows columns bits transposed w (j + 1)
    zero_word_is_written j word is_column_word word_is_zero = grind (arith, nat_tests)

    pub skipped_columns_are_written : (has_mark : List ℕ) (across from to : ℕ)
        → across ≡ words_for columns
        → ((k j : ℕ) → k < 64 → j < 64 * across → bit_in_rows rows across bits (64 * w + k) j ≡ true
        → is_bit has_mark j ≡ true)
        → from ≤ to → ((j : ℕ) → from ≤ j → j < to → is_bit has_mark j ≡ false)
        → ColumnsWritten rows columns bits transposed w from
        → ColumnsWritten rows columns bits transposed w to
    skipped_columns_are_written has_mark across from to across_is set_bits_are_marked from_le_to
        none_is_marked = grind arith

-- where all columns of band w are written, band w + 1 is next
pub next_band_is_begun : (rows columns : ℕ) (bits transposed : List ℕ) (w from : ℕ) → columns ≤ from
    → ColumnsWritten rows columns bits transposed w from
    → ColumnsWritten rows columns bits transposed (w + 1) 0
next_band_is_begun rows columns bits transposed w from columns_le_from before = record {
  size_is = before.size_is;
  earlier_bands = λ j v j_lt_columns v_lt_next v_lt_words. elim (cases_eq v w) [
    | inl v_is_w ↦
        subst (λ x. IsColumnWord rows (words_for columns) bits x j
        (get_or transposed (j * words_for rows + x) 0)) (sym v_is_w)
        (before.written_below j j_lt_columns (omega arith))
    | inr v_is_not_w ↦ before.earlier_bands j v j_lt_columns (omega arith) v_lt_words
  ];
  written_below = λ j j_lt_columns j_lt_zero. absurd (omega arith);
  zero_from = λ j j_lt_columns zero_le_j. before.later_bands j (w + 1) j_lt_columns (omega arith);
  later_bands = λ j v j_lt_columns next_lt_v. before.later_bands j v j_lt_columns (omega arith);
}

-- after all bands, the words are those of the transposed table
pub all_bands_are_transposed : (rows columns : ℕ) (bits transposed : List ℕ) (w : ℕ)
    → words_for rows ≤ w
    → ColumnsWritten rows columns bits transposed w 0 → AreTransposed rows columns bits transposed
all_bands_are_transposed rows columns bits transposed w words_le_w all_written =
    search (rules, arith, bit_in_rows_is_bit, no_bit_past_rows, bit_index_word, bit_index_bit)

-- a word of a row is among the words of all rows
pub row_word_lt_length : (rows across i x n : ℕ) → n ≡ rows * across → i < rows → x < across
    → i * across + x < n
row_word_lt_length rows across i x n length_is i_lt_rows x_lt_across = grind arith
