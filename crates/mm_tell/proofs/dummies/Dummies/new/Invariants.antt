use Rattle.std.proofs.Common.{◌≡◌}
use Rattle.std.specs.Option.{option_copied}
use Rattle.mm_tell.specs.Dummies.{dummies_before}
use Rattle.mm_tell.proofs.dummies.Dummies.new.Given as goal

abbrev pub invariant-loop-statement : goal.invariant-loop-statement
invariant-loop-statement g l =
    l.dummies ≡ dummies_before l.database.statements (option_copied l.only) l.statement
