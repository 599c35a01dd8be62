use Rattle.std.proofs.Common.{◌≡◌, take}
use Rattle.mm_spec.specs.Frame.{symbol_names}
use Rattle.mm_outline.specs.Statements.{statements}
use Rattle.mm_database.specs.Names.{names_of}
use Rattle.mm_scope.proofs.numbering.declared_names.Given as goal

abbrev pub invariant-loop-outline : goal.invariant-loop-outline
invariant-loop-outline g l =
    names_of l.names ≡ symbol_names (statements l.text l.tokens (take l.outline-index l.outlines))
