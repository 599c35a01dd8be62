use Rattle.std.proofs.Common.{◌≡◌, map, take}
use Rattle.mm_spec.specs.Opened.{open_as_axioms}
use Rattle.mm_outline.specs.Statements.{statements}
use Rattle.mm_database.specs.Kinds.{kind_of}
use Rattle.mm_stmt.proofs.kinds.kinds_of.Given as goal

abbrev pub invariant-loop-outline : goal.invariant-loop-outline
invariant-loop-outline g l =
    l.kinds.items
    ≡ map kind_of
    (open_as_axioms l.with_open (statements l.text l.tokens (take l.outline-index l.outlines)))
