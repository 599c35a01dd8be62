-- What was found of two databases without a fault, and that its bytes are those of the definitions.
use Rattle.std.specs.Prelude.{◌≡◌, ℕ, Bool, List, ◌↔◌}
use Rattle.mm_spec.specs.Request.{Request}
use Rattle.mm_spec.specs.Citation as proof
use Rattle.mm_spec.specs.Output.{theorems}
use Rattle.mm_cites.specs.Citing.{HasCitation}
use Rattle.mm_spec.specs.Comparison.{only_in, differences, AreDifferences}
use Rattle.mm_shifts.specs.Resting.{Resting, side_in}
use Rattle.mm_shifts.specs.Shifted.{AreAllShifted}
use Rattle.mm_report.specs.Differences.{lines_of, shift_lines}

-- the citations are those of the proofs of the database
abbrev pub AreItsCitations : (by_essential : Bool) → Resting → Type 0
AreItsCitations by_essential r =
    (t a : ℕ) → HasCitation r.citing t a ↔ proof.Cites r.contents.statements by_essential t a

-- the lists are what the one has and the other hasn't, by the citations that were found
pub record AreFound (request : Request) (r other : Resting) (own : List ℕ)
    (shifts : List (List ℕ)) : Type 0 where
  pub are_citations : AreItsCitations request.essential r
  pub own_is : own ≡ only_in (side_in r) request.only (side_in other)
  pub are_shifted : AreAllShifted r other request.only (theorems r.contents.statements) shifts

-- what is written of what was found are the differences between the two databases
abbrev pub FoundAreDifferences : Type 0
FoundAreDifferences =
    (request : Request) (old new : Resting) (new_own gone : List ℕ)
    (gained lost : List (List ℕ))
    → AreFound request new old new_own gained → AreFound request old new gone lost
    → AreDifferences request (side_in old) (side_in new)
    (differences (lines_of new.contents new_own) (lines_of old.contents gone)
    (shift_lines new.contents gained) (shift_lines old.contents lost))
