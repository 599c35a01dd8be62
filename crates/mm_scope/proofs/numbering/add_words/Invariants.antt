use Rattle.std.proofs.Common.{◌≡◌, ℕ, List, [], ◌++◌}
use Rattle.mm_spec.specs.Text.{words}
use Rattle.mm_spec.specs.Frame.{first_occurrences}
use Rattle.mm_outline.specs.Parts.{between}
use Rattle.mm_database.specs.Names.{names_of}
use Rattle.mm_scope.proofs.numbering.add_words.Given as goal

abbrev pub invariant-loop-token_index : goal.invariant-loop-token_index
invariant-loop-token_index g l =
    (d : List (List ℕ)) → names_of l.initial.names ≡ first_occurrences [] d
    → names_of l.names
    ≡ first_occurrences [] (d ++ words (between l.text l.tokens l.from l.token_index))
