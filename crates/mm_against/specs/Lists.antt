-- The lists that are found of two databases.
use Rattle.std.specs.Prelude.{◌≡◌, ℕ, List, length, Option}
use Rattle.mm_spec.specs.Text.{Bytes}
use Rattle.mm_spec.specs.Output.{theorems}
use Rattle.mm_tell.specs.Dummies.{DummyLists, dummies_before}
use Rattle.mm_spec.specs.Comparison.{only_in}
use Rattle.mm_shifts.specs.Resting.{Resting, side_in}
use Rattle.mm_shifts.specs.Shifted.{AreAllShifted}

pub record AreListsOf (r other : Resting) (only : Option Bytes) (own : List ℕ)
    (dummy_lists : DummyLists) (shifts : List (List ℕ)) : Type 0 where
  pub own_is : own ≡ only_in (side_in r) only (side_in other)
  pub are_dummies : dummy_lists
      ≡ dummies_before r.contents.statements only (length r.contents.statements)
  pub are_shifted : AreAllShifted r other only (theorems r.contents.statements) shifts
