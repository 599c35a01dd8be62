-- Words of one length and with the same ends are the same, if they have at most 16 bytes.
use Rattle.std.proofs.Common.{◌≡◌, ◌∙◌, ◌+◌, ◌-◌, ◌*◌, ◌/◌, ◌<◌, ◌≤◌, ℕ}
use Rattle.std.proofs.Common.{List, length, slice_index, sym, ap, arith, inl, inr}
use Rattle.std.proofs.lemmas.Grind.{same_number_lists}
use Rattle.std.proofs.lemmas.Bool.{cases_lt, cases_order}
use Rattle.std.proofs.lemmas.Bool.Decides.{nat_tests}
use Rattle.mm_database.specs.Ends.{ends_of, number_at, wide_number_at}

-- all are bytes, and 0 stands behind the last one
abbrev pub AreBytes : List ℕ → Type 0
AreBytes w = (i : ℕ) → slice_index w i < 256

-- a number below 256 is the last digit of what it is added to
last_digit : (a b x y : ℕ) → a < 256 → b < 256 → a + x * 256 ≡ b + y * 256 → (a ≡ b) × (x ≡ y)
last_digit a b x y a_lt b_lt sums = (
  omega (arith, a_lt, b_lt, sums),
  omega (arith, a_lt, b_lt, sums),
)

-- the four digits of a number
four_digits : (a b c d a' b' c' d' : ℕ) → a < 256 → b < 256 → c < 256 → d < 256
    → a' < 256 → b' < 256 → c' < 256 → d' < 256
    → a + b * 256 + c * 65536 + d * 16777216 ≡ a' + b' * 256 + c' * 65536 + d' * 16777216
    → (a ≡ a') × (b ≡ b') × (c ≡ c') × (d ≡ d')
four_digits a b c d a' b' c' d' a_lt b_lt c_lt d_lt a'_lt b'_lt c'_lt d'_lt numbers =
    let first = last_digit a a' (b + c * 256 + d * 65536) (b' + c' * 256 + d' * 65536) a_lt a'_lt
    (omega (arith, numbers)) in
    let second = last_digit b b' (c + d * 256) (c' + d' * 256) b_lt b'_lt
    (omega (arith, first.1)) in
    let third = last_digit c c' d d' c_lt c'_lt (second.1) in
    (first.0, second.0, third.0, third.1)

-- four bytes are told by their number
pub same_four : (v w : List ℕ) (i k : ℕ) → AreBytes v → AreBytes w
    → number_at v i ≡ number_at w i → k < 4 → slice_index v (i + k) ≡ slice_index w (i + k)
same_four v w i k v_bytes w_bytes numbers k_lt =
    let digits = four_digits (slice_index v i) (slice_index v (i + 1)) (slice_index v (i + 2))
    (slice_index v (i + 3)) (slice_index w i) (slice_index w (i + 1)) (slice_index w (i + 2))
    (slice_index w (i + 3)) (v_bytes i) (v_bytes (i + 1)) (v_bytes (i + 2)) (v_bytes (i + 3))
    (w_bytes i) (w_bytes (i + 1)) (w_bytes (i + 2)) (w_bytes (i + 3)) numbers in
    elim (cases_order k 1) [
      | inl k_is ↦ rw k_is digits.1
      | inr (inl k_lt_1) ↦ (let first_is : i + k ≡ i = omega (arith, k_lt_1) in
          rw first_is digits.0)
      | inr (inr k_gt_1) ↦ elim (cases_lt k 3) [
        | inl k_lt_3 ↦ (let k_is : k ≡ 2 = omega (arith, k_gt_1, k_lt_3) in rw k_is digits.2)
        | inr k_ge_3 ↦ (let k_is : k ≡ 3 = omega (arith, k_lt, k_ge_3) in rw k_is digits.3)
      ]
    ]

-- a number of four bytes
number_lt : (w : List ℕ) (i : ℕ) → AreBytes w → number_at w i < 4294967296
number_lt w i bytes = omega (arith, bytes i, bytes (i + 1), bytes (i + 2), bytes (i + 3))

-- eight bytes are told by their number
pub same_eight : (v w : List ℕ) (i k : ℕ) → AreBytes v → AreBytes w
    → wide_number_at v i ≡ wide_number_at w i → k < 8
    → slice_index v (i + k) ≡ slice_index w (i + k)
same_eight v w i k v_bytes w_bytes numbers k_lt =
    let low : number_at v i ≡ number_at w i =
    halves_0 (number_at v i) (number_at w i) (number_at v (i + 4)) (number_at w (i + 4))
    (number_lt v i v_bytes) (number_lt w i w_bytes) numbers in
    let high : number_at v (i + 4) ≡ number_at w (i + 4) =
    halves_1 (number_at v i) (number_at w i) (number_at v (i + 4)) (number_at w (i + 4))
    (number_lt v i v_bytes) (number_lt w i w_bytes) numbers in
    elim (cases_lt k 4) [
      | inl k_lt_4 ↦ same_four v w i k v_bytes w_bytes low k_lt_4
      | inr k_ge_4 ↦ (let k_is : i + 4 + (k - 4) ≡ i + k = omega (arith, k_ge_4) in
          ap (slice_index v) (sym k_is)
          ∙ same_four v w (i + 4) (k - 4) v_bytes w_bytes high (omega (arith, k_lt, k_ge_4))
          ∙ ap (slice_index w) k_is)
    ]
  where
    halves_0 : (a b x y : ℕ) → a < 4294967296 → b < 4294967296
        → a + x * 4294967296 ≡ b + y * 4294967296 → a ≡ b
    halves_0 a b x y a_lt b_lt sums = omega (arith, a_lt, b_lt, sums)

    halves_1 : (a b x y : ℕ) → a < 4294967296 → b < 4294967296
        → a + x * 4294967296 ≡ b + y * 4294967296 → x ≡ y
    halves_1 a b x y a_lt b_lt sums = omega (arith, a_lt, b_lt, sums)

-- an index that one of both ends reaches
reached : (v w : List ℕ) (width i : ℕ) → length v ≡ length w → width ≤ length v
    → length v ≤ width + width
    → ((k : ℕ) → k < width → slice_index v (0 + k) ≡ slice_index w (0 + k))
    → ((k : ℕ) → k < width
    → slice_index v (length v - width + k) ≡ slice_index w (length w - width + k))
    → i < length v → slice_index v i ≡ slice_index w i
reached v w width i lengths width_le le_twice front back i_lt = elim (cases_lt i width) [
  | inl i_lt_width ↦ (let i_is : 0 + i ≡ i = omega arith in
      ap (slice_index v) (sym i_is) ∙ front i i_lt_width ∙ ap (slice_index w) i_is)
  | inr width_le_i ↦
      (let v_is : length v - width + (i - (length v - width)) ≡ i = omega arith in
      let w_is : length w - width + (i - (length v - width)) ≡ i = omega (arith, lengths) in
      ap (slice_index v) (sym v_is)
      ∙ back (i - (length v - width)) (omega (arith, i_lt, width_le))
      ∙ ap (slice_index w) w_is)
]

-- the ends by the length
ends_of_long : (w : List ℕ) → 8 ≤ length w
    → ends_of w ≡ (wide_number_at w 0, wide_number_at w (length w - 8))
ends_of_long w long = grind (arith, nat_tests)

ends_of_middle : (w : List ℕ) → 4 ≤ length w → length w < 8
    → ends_of w ≡ (number_at w 0, number_at w (length w - 4))
ends_of_middle w le lt = grind (arith, nat_tests)

ends_of_short : (w : List ℕ) → 0 < length w → length w < 4
    → ends_of w ≡ (
      slice_index w 0,
      slice_index w (length w / 2) * 256 + slice_index w (length w - 1),
    )
ends_of_short w some few = grind (arith, nat_tests)

-- two words of one length and with the same ends have the same bytes
same_at : (v w : List ℕ) (i : ℕ) → AreBytes v → AreBytes w → length v ≡ length w
    → length v ≤ 16 → ends_of v ≡ ends_of w → i < length v → slice_index v i ≡ slice_index w i
same_at v w i v_bytes w_bytes lengths few ends i_lt = elim (cases_lt (length v) 8) [
  | inr long ↦
      (let both = sym (ends_of_long v long) ∙ ends
      ∙ ends_of_long w (omega (arith, long, lengths)) in
      reached v w 8 i lengths long (omega (arith, few))
      (λ k k_lt. same_eight v w 0 k v_bytes w_bytes (ap (λ p. p.0) both) k_lt)
      (λ k k_lt. back_eight (length v - 8) (length w - 8) k (omega (arith, lengths)) k_lt
      (ap (λ p. p.1) both)) i_lt)
  | inl lt_8 ↦ elim (cases_lt (length v) 4) [
    | inr le_4 ↦
        (let both = sym (ends_of_middle v le_4 lt_8) ∙ ends
        ∙ ends_of_middle w (omega (arith, le_4, lengths)) (omega (arith, lt_8, lengths)) in
        reached v w 4 i lengths le_4 (omega (arith, lt_8))
        (λ k k_lt. same_four v w 0 k v_bytes w_bytes (ap (λ p. p.0) both) k_lt)
        (λ k k_lt. back_four (length v - 4) (length w - 4) k (omega (arith, lengths)) k_lt
        (ap (λ p. p.1) both)) i_lt)
    | inl lt_4 ↦
        (let both = sym (ends_of_short v (omega (arith, i_lt)) lt_4) ∙ ends
        ∙ ends_of_short w (omega (arith, i_lt, lengths)) (omega (arith, lt_4, lengths)) in
        in_short i_lt lt_4 (ap (λ p. p.0) both) (ap (λ p. p.1) both))
  ]
]
  where
    back_eight : (a b k : ℕ) → a ≡ b → k < 8 → wide_number_at v a ≡ wide_number_at w b
        → slice_index v (a + k) ≡ slice_index w (b + k)
    back_eight a b k a_is k_lt numbers =
        same_eight v w a k v_bytes w_bytes (numbers ∙ ap (wide_number_at w) (sym a_is)) k_lt
        ∙ ap (λ n. slice_index w (n + k)) a_is

    back_four : (a b k : ℕ) → a ≡ b → k < 4 → number_at v a ≡ number_at w b
        → slice_index v (a + k) ≡ slice_index w (b + k)
    back_four a b k a_is k_lt numbers =
        same_four v w a k v_bytes w_bytes (numbers ∙ ap (number_at w) (sym a_is)) k_lt
        ∙ ap (λ n. slice_index w (n + k)) a_is

    -- of at most three bytes each is the first, the middle or the last one
    in_short : i < length v → length v < 4 → slice_index v 0 ≡ slice_index w 0
        → slice_index v (length v / 2) * 256 + slice_index v (length v - 1)
        ≡ slice_index w (length w / 2) * 256 + slice_index w (length w - 1)
        → slice_index v i ≡ slice_index w i
    in_short i_lt lt_4 first last = elim (cases_order i (length v / 2)) [
      | inl i_is ↦ ap (slice_index v) i_is ∙ halves.1
          ∙ ap (slice_index w) (ap (λ n. n / 2) (sym lengths) ∙ sym i_is)
      | inr (inl i_before) ↦ (let i_is : i ≡ 0 = omega (arith, i_before, lt_4) in
          ap (slice_index v) i_is ∙ first ∙ ap (slice_index w) (sym i_is))
      | inr (inr i_behind) ↦ (let i_is : i ≡ length v - 1 = omega (arith, i_behind, i_lt, lt_4) in
          ap (slice_index v) i_is ∙ halves.0
          ∙ ap (slice_index w) (ap (λ n. n - 1) (sym lengths) ∙ sym i_is))
    ]
      where
        halves : (slice_index v (length v - 1) ≡ slice_index w (length w - 1))
            × (slice_index v (length v / 2) ≡ slice_index w (length w / 2))
        halves = last_digit (slice_index v (length v - 1)) (slice_index w (length w - 1))
            (slice_index v (length v / 2)) (slice_index w (length w / 2))
            (v_bytes (length v - 1)) (w_bytes (length w - 1)) (omega (arith, last))

-- two words of one length, of at most 16 bytes, are the same if their ends are
pub same_by_ends : (v w : List ℕ) → AreBytes v → AreBytes w → length v ≡ length w
    → length v ≤ 16 → ends_of v ≡ ends_of w → v ≡ w
same_by_ends v w v_bytes w_bytes lengths few ends = same_number_lists v w lengths
    (λ k k_lt. same_at v w k v_bytes w_bytes lengths few ends k_lt)
