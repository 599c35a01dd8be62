use Rattle.std.proofs.Common.{arith, take_all}
use Rattle.std.proofs.lemmas.Grind.{common_steps}
use Rattle.std.proofs.lemmas.Bool.Decides.{nat_tests}
use Rattle.mm_database.specs.Pairs.{has_pair}
use Rattle.mm_frame.proofs.LoopsLaw.{none_so_far, active_with_next_symbol}
use Rattle.mm_frame.proofs.disjoint.append_all_active_wide.Goals as goal

pub loop-symbol-init : goal.loop-symbol-init
loop-symbol-init g c = λ j y. none_so_far (has_pair c.args.by_statement.now.items j y)

pub loop-symbol-preserved : goal.loop-symbol-preserved
loop-symbol-preserved g c = grind (arith, common_steps, active_with_next_symbol)

pub returns : goal.returns
returns g c = grind (arith, nat_tests, take_all, c.loop-symbol.invariant, c.loop-symbol-test.false)
