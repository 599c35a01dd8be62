use Rattle.std.proofs.Common.{◌≤◌}
use Rattle.mm_database.specs.Names.{names_of}
use Rattle.mm_database.proofs.GuessesLaw.{HaveOthers}
use Rattle.mm_database.proofs.name_map.NameMap.looked_up.Given as goal

abbrev pub invariant-loop-place : goal.invariant-loop-place
invariant-loop-place g l =
    (l.first ≤ l.place)
    × HaveOthers (names_of l.self) l.self-inside.guesses.items l.word.bytes.now l.first l.place
