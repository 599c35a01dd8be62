-- Pairs of the elements of filtered lists.
use Rattle.std.proofs.Common.{inr, inl, arith, ◌≡◌, ℕ, Bool, true, false, ◌&&◌, List, [], ◌∷◌, map}
use Rattle.std.proofs.Common.{refl, ap, ◌||◌, true≢false, length, nat_lt}
use Rattle.std.proofs.lemmas.Bool.{cases_Bool, and_parts, or_right}
use Rattle.std.proofs.lemmas.Grind.{common_steps}
use Rattle.std.specs.Prelude.{flat_map, if◌then◌else◌}
use Rattle.std.specs.List.{filter, range_with_len}
use Rattle.std.proofs.lemmas.List.Elements.{filter-append}
use Rattle.std.proofs.lemmas.List.Folds.{list_any-append}
use Rattle.mm_spec.specs.Statement.{Statement}
use Rattle.mm_spec.specs.Derivation.{Pair, pair, is_member}
use Rattle.mm_spec.specs.Frame.{symbol_names}
use Rattle.mm_spec.specs.Assertion.{is_variable_of, dummy_floats}
use Rattle.mm_spec.specs.Assertion.{dummies, used, is_used, is_with_dummy}
use Rattle.mm_spec.proofs.MemberLaw.{member_flat}
use Rattle.mm_spec.proofs.FindsLaw as finds

module _ (u : ℕ → Bool) (keep : Pair → Bool) where
  -- whether a pair is kept and both of its elements pass the test
  abbrev both : Pair → Bool
  both p = u p.low && (u p.high && keep p)

  none_with_low : (x : ℕ) (ys : List ℕ) → u x ≡ false → filter both (map (pair x) ys) ≡ []
  none_with_low x [] fails = refl
  none_with_low x (y ∷ ys) fails = rw fails (none_with_low x ys fails)

  filtered_high : (x : ℕ) (ys : List ℕ) → u x ≡ true
      → filter both (map (pair x) ys) ≡ filter keep (map (pair x) (filter u ys))
  filtered_high x [] passes = refl
  filtered_high x (y ∷ ys) passes =
      let rest_is = filtered_high x ys passes in
      elim (cases_Bool (u y)) [
        | inr fails ↦ rw (passes, fails) rest_is
        | inl high_passes ↦ elim (cases_Bool (keep (pair x y))) [
          | inl kept ↦ rw (passes, high_passes, kept) (ap (λ ps. pair x y ∷ ps) rest_is)
          | inr dropped ↦ rw (passes, high_passes, dropped) rest_is
        ]
      ]

  -- the pairs that are kept, of elements that pass the test, are those kept of the elements that
  -- pass
  pub pairs_of_filtered : (xs ys : List ℕ)
      → filter both (flat_map (λ x. map (pair x) ys) xs)
      ≡ filter keep (flat_map (λ x. map (pair x) (filter u ys)) (filter u xs))
  pairs_of_filtered [] ys = refl
  pairs_of_filtered (x ∷ xs) ys =
      rw (filter-append both (map (pair x) ys), pairs_of_filtered xs ys)
      (elim (cases_Bool (u x)) [
        | inr fails ↦ rw (none_with_low x ys fails, fails) refl
        | inl passes ↦ rw (filtered_high x ys passes, passes, filter-append) refl
      ])

-- if the second elements of all pairs that are kept pass the stronger of two tests, the elements
-- that pass it are enough
pub pairs_of_stronger : (u d : ℕ → Bool) (keep : Pair → Bool) (x : ℕ)
    → ((y : ℕ) → d y ≡ true → u y ≡ true) → ((y : ℕ) → keep (pair x y) ≡ true → d y ≡ true)
    → (ys : List ℕ)
    → filter keep (map (pair x) (filter d ys)) ≡ filter keep (map (pair x) (filter u ys))
pairs_of_stronger u d keep x is_stronger kept_pass [] = refl
pairs_of_stronger u d keep x is_stronger kept_pass (y ∷ ys) =
    grind (arith, common_steps, true≢false, (pairs_of_stronger u d keep x is_stronger kept_pass ys))

-- a dummy variable is used
dummy_is_used : (db : List Statement) (k y : ℕ) → is_variable_of db (dummy_floats db k) y ≡ true
    → is_used db k y ≡ true
dummy_is_used db k y is_dummy = grind (arith, common_steps, member_flat, list_any-append, or_right)

-- the pairs of a variable with a dummy are those with its partners
pub partners_suffice : (db : List Statement) (k x : ℕ)
    → filter (is_with_dummy db k)
    (map (pair x) (if is_member (dummies db k) x then used db k else dummies db k))
    ≡ filter (is_with_dummy db k) (map (pair x) (used db k))
partners_suffice db k x = elim (cases_Bool (is_member (dummies db k) x)) [
  | inl is_dummy ↦ rw is_dummy refl
  | inr no_dummy ↦ rw no_dummy (pairs_of_stronger (is_used db k)
      (is_variable_of db (dummy_floats db k)) (is_with_dummy db k) x (dummy_is_used db k)
      (λ y kept.
      let some_dummy = is_member (dummies db k) x || is_member (dummies db k) y in
      let one_is = (and_parts some_dummy _ (and_parts (nat_lt x y) _ kept).1).0 in
      (finds.member_filter (is_variable_of db (dummy_floats db k)) _ y (rw no_dummy at one_is)).0)
      (range_with_len 0 (length (symbol_names db))))
]
