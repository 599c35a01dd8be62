use Rattle.std.proofs.Common.{arith}
use Rattle.std.proofs.lemmas.Grind.{common_steps}
use Rattle.mm_rules.proofs.rules.Rules.find.Goals as goal

pub returns-then-index-assertion : goal.returns-then-index-assertion
returns-then-index-assertion g c = grind (arith, common_steps)
