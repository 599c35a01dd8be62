use Rattle.std.proofs.Common.{◌≡◌, ◌++◌, ℕ, List}
use Rattle.mm_database.specs.Names.{names_of}
use Rattle.mm_scope.specs.Numbering.{numbers_up_to}
use Rattle.mm_scope.proofs.numbering.number_between.Given as goal

abbrev pub invariant-loop-index : goal.invariant-loop-index
invariant-loop-index g l =
    (before : List ℕ)
    → before ++ l.initial.numbers.items
    ≡ numbers_up_to (names_of l.names) l.text l.tokens l.outlines l.from
    → before ++ l.numbers.items
    ≡ numbers_up_to (names_of l.names) l.text l.tokens l.outlines l.index
