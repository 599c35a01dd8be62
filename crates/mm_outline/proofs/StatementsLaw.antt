-- The statements of outlines, one by one.
use Rattle.std.proofs.lemmas.Grind.{common_steps}
use Rattle.std.proofs.Common.{◌≡◌, ℕ, zero, suc, ◌<◌, Bool, true, List, [], ◌∷◌, length, map}
use Rattle.std.proofs.Common.{get_or, slice_get, Some, arith}
use Rattle.std.specs.List.{list_any}
use Rattle.mm_spec.specs.Statement.{Statement}
use Rattle.mm_spec.specs.Scope.{statement_at}
use Rattle.mm_spec.specs.declared.Word.{Word}
use Rattle.mm_outline.specs.Parts.{statement_of}
use Rattle.mm_outline.specs.Statements.{statements}
use Rattle.mm_outline.proofs.ActiveLaw.{get_of_map}
use Rattle.mm_outline.specs.declared.parts.Outline.{Outline}

module _ (text : List ℕ) (ws : List Word) where
  pub statement_of_outline_is : (os : List Outline) (k : ℕ) (d : Outline) → k < length os
      → slice_get (statements text ws os) k ≡ Some (statement_of text ws (get_or os k d))
  statement_of_outline_is os k d k_lt_length =
      get_of_map (statement_of text ws) os k d k_lt_length

-- a statement that is there stands below the length
pub passing_lt_length : (p : Statement → Bool) (db : List Statement) (k : ℕ)
    → list_any p (statement_at db k) ≡ true → k < length db
passing_lt_length p [] zero passes_at_k = grind (arith, common_steps)
passing_lt_length p [] (suc k) passes_at_k = grind (arith, common_steps)
passing_lt_length p (s ∷ db) zero passes_at_k = omega arith
passing_lt_length p (s ∷ db) (suc k) passes_at_k =
    let k_lt_later = passing_lt_length p db k passes_at_k in omega (arith, k_lt_later)

-- an element of a mapped list
pub element_of_mapped : {X Y : Type 0} (f : X → Y) (xs : List X) (i : ℕ) (d : X) (e : Y)
    → i < length xs
    → get_or (map f xs) i e ≡ f (get_or xs i d)
element_of_mapped f xs i d e h1 = grind (arith, common_steps)
