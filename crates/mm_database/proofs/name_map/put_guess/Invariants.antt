use Rattle.std.proofs.Common.{◌≡◌, ◌≤◌}
use Rattle.mm_database.proofs.GuessesLaw.{AreTaken}
use Rattle.mm_database.proofs.name_map.put_guess.Given as goal

abbrev pub invariant-loop-place : goal.invariant-loop-place
invariant-loop-place g l =
    (l.first ≤ l.place) × (l.guesses ≡ l.initial.guesses)
    × AreTaken l.guesses.items l.first l.place
