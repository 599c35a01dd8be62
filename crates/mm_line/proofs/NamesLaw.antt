-- Whether all names of a text are known, by the first that isn't.
use Rattle.std.proofs.Common.{◌≡◌, List, [], ◌∷◌, Bool, true, false, Some, None, refl}
use Rattle.std.specs.Prelude.{find, not}
use Rattle.std.specs.List.{list_all}

module _ {X : Type 0} (p : X → Bool) where
  pub all_pass : (xs : List X) → find (λ x. not (p x)) xs ≡ None → list_all p xs ≡ true
  all_pass [] none = refl
  all_pass (x ∷ xs) none = by_first (p x) refl (all_pass xs)
    where
      by_first : (b : Bool) → p x ≡ b
          → (find (λ y. not (p y)) xs ≡ None → list_all p xs ≡ true)
          → list_all p (x ∷ xs) ≡ true
      by_first true passes later_pass =
          let later : find (λ y. not (p y)) xs ≡ None = rw passes at none in
          rw (passes, later_pass later) refl
      by_first false fails later_pass =
          let found : Some x ≡ None = rw fails at none in absurd (cc)

  pub one_fails : (xs : List X) (y : X) → find (λ x. not (p x)) xs ≡ Some y
      → list_all p xs ≡ false
  one_fails [] y found = absurd (cc)
  one_fails (x ∷ xs) y found = by_first (p x) refl (one_fails xs y)
    where
      by_first : (b : Bool) → p x ≡ b
          → (find (λ z. not (p z)) xs ≡ Some y → list_all p xs ≡ false)
          → list_all p (x ∷ xs) ≡ false
      by_first true passes later_fail =
          let later : find (λ z. not (p z)) xs ≡ Some y = rw passes at found in
          rw (passes, later_fail later) refl
      by_first false fails later_fail = rw fails refl
