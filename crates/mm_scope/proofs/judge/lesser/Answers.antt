use Rattle.std.proofs.Common.{arith}
use Rattle.std.proofs.lemmas.Bool.Decides.{nat_tests}
use Rattle.mm_scope.proofs.JudgeLaw.{lesser_of_least_is_least}
use Rattle.mm_scope.proofs.judge.lesser.Goals as goal

pub returns-then-number : goal.returns-then-number
returns-then-number c =
    lesser_of_least_is_least c.args.first c.args.second _ (grind (arith, nat_tests))

pub returns-else-number : goal.returns-else-number
returns-else-number c =
    lesser_of_least_is_least c.args.first c.args.second _ (grind (arith, nat_tests))

pub returns-in_default : goal.returns-in_default
returns-in_default c =
    lesser_of_least_is_least c.args.first c.args.second _ (grind (arith, nat_tests))

pub returns-in-None : goal.returns-in-None
returns-in-None c =
    lesser_of_least_is_least c.args.first c.args.second _ (grind (arith, nat_tests))
