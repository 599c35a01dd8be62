use Rattle.std.proofs.Common.{◌≡◌, ◌++◌}
use Rattle.mm_outline.specs.Parts.{between}
use Rattle.mm_scope.specs.Formulas.{numbers_in}
use Rattle.mm_database.specs.Names.{names_of}
use Rattle.mm_scope.proofs.numbering.number_words.Given as goal

abbrev pub invariant-loop-token_index : goal.invariant-loop-token_index
invariant-loop-token_index g l =
    l.numbers.items
    ≡ l.initial.numbers.items
    ++ numbers_in (names_of l.names) (between l.text l.tokens l.from l.token_index)
