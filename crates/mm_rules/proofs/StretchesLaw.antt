-- What is made of each stretch.
use Rattle.std.proofs.Common.{List, [], ◌∷◌, All}
use Rattle.std.specs.List.{AllZip, AllByRecursion}
use Rattle.std.proofs.lemmas.List.Elements.{All-from_recursion}

module _ {X Y : Type 0} (P : Y → Type 0) where
  zipped_by_recursion : (xs : List X) (ys : List Y) → AllZip (λ x y. P y) xs ys
      → AllByRecursion P ys
  zipped_by_recursion [] [] zipped = tt
  zipped_by_recursion [] (y ∷ ys) zipped = absurd zipped
  zipped_by_recursion (x ∷ xs) [] zipped = absurd zipped
  zipped_by_recursion (x ∷ xs) (y ∷ ys) zipped = (zipped.0, zipped_by_recursion xs ys zipped.1)

  -- what holds of each item beside any other list holds of each item
  pub each_of_zipped : (xs : List X) (ys : List Y) → AllZip (λ x y. P y) xs ys → All P ys
  each_of_zipped xs ys zipped = All-from_recursion P ys (zipped_by_recursion xs ys zipped)
