-- A mask that is computed lane by lane is held to a predicate at each of the 256 bytes.
use Rattle.std.proofs.Common.{◌≡◌, ℕ, zero, suc, ◌+◌, ◌*◌, ◌%◌, ◌^◌, ◌<◌, ◌≤◌, ltb, Bool, true}
use Rattle.std.proofs.Common.{false, cond, eqb, ◌&&◌, T, List, [], ◌∷◌, ◌++◌, map, replicate}
use Rattle.std.proofs.Common.{length, refl, sym, ap, ap₂, ◌∙◌, arith, subst, ◌⊎◌, inl, inr}
use Rattle.std.proofs.Common.{not-suc-le-zero, w8, Fits}
use Rattle.std.proofs.lemmas.Simd.{mask_l-mod, zip2_of_maps}
use Rattle.std.proofs.lemmas.List.{length-map}
use Rattle.std.proofs.lemmas.Bool.{cases_order}
use lib.Bits.{bit_or, bit_xor}
use lib.Lanes.{zip2, mask_l, top, Each1}
use mir.Val.{bool_byte}

-- what a lane gets where two vectors are compared: all bits if the bytes are equal, otherwise none
abbrev pub equal_lane : ℕ → ℕ → ℕ
equal_lane a b = cond (eqb a b) 255 0

-- the same for: the first byte is less
abbrev pub less_lane : ℕ → ℕ → ℕ
less_lane a b = cond (ltb a b) 255 0

-- whether the test passes for each number below n
abbrev pub all_below : (ℕ → Bool) → ℕ → Bool
all_below p zero = true
all_below p (suc n) = p n && all_below p n

pub at_most_one : (b : Bool) → bool_byte b ≤ 1
at_most_one false = omega arith
at_most_one true = omega arith

each_is_true : (a b : Bool) → T (a && b) → T a × T b
each_is_true true b both_hold = (tt, both_hold)
each_is_true false b both_hold = absurd both_hold

all_below_gives_each : (p : ℕ → Bool) (n : ℕ) → T (all_below p n) → (i : ℕ) → i < n → T (p i)
all_below_gives_each p zero passes_below_n i i_lt_n = absurd (not-suc-le-zero i_lt_n)
all_below_gives_each p (suc n) passes_below_n i i_lt_n =
    i_passes_by_order
    (all_below_gives_each p n (each_is_true (p n) (all_below p n) passes_below_n).1 i)
    (cases_order i n)
  where
    i_passes_by_order : (i < n → T (p i)) → (i ≡ n) ⊎ ((i < n) ⊎ (n < i)) → T (p i)
    i_passes_by_order below_n_passes (inl i_is_n) =
        subst (λ x. T (p x)) (sym i_is_n) (each_is_true (p n) (all_below p n) passes_below_n).0
    i_passes_by_order below_n_passes (inr (inl i_lt_n)) = below_n_passes i_lt_n
    i_passes_by_order below_n_passes (inr (inr n_lt_i)) =
        let absurdity : ⊥ = omega arith in absurd absurdity

-- whether two truth values are equal
abbrev pub are_equal : Bool → Bool → Bool
are_equal true b = b
are_equal false true = false
are_equal false false = true

tested_equal_is_equal : (a b : Bool) → T (are_equal a b) → a ≡ b
tested_equal_is_equal true true tested_equal = refl
tested_equal_is_equal false false tested_equal = refl
tested_equal_is_equal true false tested_equal = absurd tested_equal
tested_equal_is_equal false true tested_equal = absurd tested_equal

top_bits_are_set : (f : ℕ → ℕ) (p : ℕ → Bool)
    → T (all_below (λ x. are_equal (top 7 (f x)) (p x)) 256)
    → (lanes : List ℕ)
    → Each1 (Fits w8) lanes → map (top 7) (map f lanes) ≡ map p lanes
top_bits_are_set f p tested_at_each_byte [] lanes_are_bytes = refl
top_bits_are_set f p tested_at_each_byte (x ∷ xs) lanes_are_bytes =
    ap₂ (λ a b. a ∷ b)
    (tested_equal_is_equal _ _
    (all_below_gives_each (λ y. are_equal (top 7 (f y)) (p y)) 256 tested_at_each_byte x
    lanes_are_bytes.0.fits))
    (top_bits_are_set f p tested_at_each_byte xs lanes_are_bytes.1)

-- The mask of a vector that is f of each lane, where the top bit of f x is p x at each of the 256
-- bytes.
pub mask_of_lanes : (f : ℕ → ℕ) (p : ℕ → Bool) (lanes mask_lanes : List ℕ) → length lanes ≤ 64
    → Each1 (Fits w8) lanes
    → mask_lanes ≡ map f lanes → T (all_below (λ x. are_equal (top 7 (f x)) (p x)) 256)
    → mask_l (map (top 7) mask_lanes) % 2 ^ 64 ≡ mask_l (map p lanes)
mask_of_lanes f p lanes mask_lanes lanes_le_64 lanes_are_bytes mask_lanes_is_f tested_at_each_byte =
    ap (λ l. mask_l l % 2 ^ 64)
    (ap (map (top 7)) mask_lanes_is_f
    ∙ top_bits_are_set f p tested_at_each_byte lanes lanes_are_bytes)
    ∙ mask_l-mod (map p lanes) 64 (omega (arith, length-map lanes p))

-- Two vectors that were computed lane by lane, by `|`.
pub lanes_or : (f g : ℕ → ℕ) (lanes : List ℕ) {a b : List ℕ} → a ≡ map f lanes → b ≡ map g lanes
    → zip2 bit_or a b ≡ map (λ x. bit_or (f x) (g x)) lanes
lanes_or f g lanes a_is_f b_is_g = zip2_of_maps bit_or f g lanes a_is_f b_is_g

-- The same, by `^`.
pub lanes_xor : (f g : ℕ → ℕ) (lanes : List ℕ) {a b : List ℕ} → a ≡ map f lanes → b ≡ map g lanes
    → zip2 bit_xor a b ≡ map (λ x. bit_xor (f x) (g x)) lanes
lanes_xor f g lanes a_is_f b_is_g = zip2_of_maps bit_xor f g lanes a_is_f b_is_g

-- The bytes after others add nothing to their mask where they aren't in the set.
pub mask_padded : (p : ℕ → Bool) (bytes : List ℕ) (n b : ℕ) → p b ≡ false
    → mask_l (map p (bytes ++ replicate n b)) ≡ mask_l (map p bytes)
mask_padded p [] zero b b_not_in_set = refl
mask_padded p [] (suc n) b b_not_in_set = rw (b_not_in_set, mask_padded p [] n b b_not_in_set) refl
mask_padded p (x ∷ bytes) n b b_not_in_set =
    ap (λ m. cond (p x) 1 0 + 2 * m) (mask_padded p bytes n b b_not_in_set)
