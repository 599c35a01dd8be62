use Rattle.std.proofs.Common.{arith}
use Rattle.std.proofs.lemmas.Grind.{common_steps}
use Rattle.std.proofs.lemmas.List.{take_all}
use Rattle.mm_rules.proofs.RuleLaw.{map_take_more}
use Rattle.mm_rules.proofs.compile.compile_pairs.Goals as goal

pub loop-pair-preserved : goal.loop-pair-preserved
loop-pair-preserved g c = grind (arith, common_steps, map_take_more)

pub returns : goal.returns
returns g c = grind (arith, common_steps, take_all, c.loop-pair.invariant, c.loop-pair-test.false)
