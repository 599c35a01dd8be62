use Rattle.std.proofs.Common.{rules, arith, take_all}
use Rattle.std.proofs.lemmas.Grind.{common_steps}
use Rattle.std.proofs.lemmas.Bool.Decides.{nat_tests}
use Rattle.mm_spec.specs.Derivation.{is_member}
use Rattle.mm_frame.proofs.LoopsLaw.{none_so_far, any_with_next_element, floats_with_open_float}
use Rattle.mm_frame.proofs.LoopsLaw.{floats_without_closed_float, floats_without_float}
use Rattle.std.proofs.lemmas.Bool.{ne_eqb, eq-eqb}
use Rattle.mm_frame.proofs.hypotheses.add_floats.Goals.{then-floating+then-is_block_open+in_ok-push}
use Rattle.mm_frame.proofs.hypotheses.add_floats.Goals.{then-floating+else-is_block_open}
use Rattle.mm_frame.proofs.hypotheses.add_floats.Goals.{else-floating}
use Rattle.mm_frame.proofs.hypotheses.add_floats.Goals as goal

pub loop-symbol-init : goal.loop-symbol-init
loop-symbol-init g c = λ j. none_so_far (is_member c.args.hypotheses.now.items j)

pub bounds-last_floats-number : goal.bounds-last_floats-number
bounds-last_floats-number g c = search (rules, arith)

pub is_block_open-requires-clause-statement_lt_at :
    goal.is_block_open-requires-clause-statement_lt_at
is_block_open-requires-clause-statement_lt_at g c = search (rules, arith)

pub is_block_open-requires-clause-at_le_length : goal.is_block_open-requires-clause-at_le_length
is_block_open-requires-clause-at_le_length g c = search (rules, arith)

pub loop-symbol-preserved : goal.loop-symbol-preserved
loop-symbol-preserved g c =
    grind (
      arith,
      common_steps,
      then-floating+then-is_block_open+in_ok-push,
      floats_with_open_float,
      ne_eqb,
      then-floating+else-is_block_open,
      floats_without_closed_float,
      else-floating,
      floats_without_float,
      eq-eqb,
      any_with_next_element,
    )

pub returns : goal.returns
returns g c = grind (arith, nat_tests, take_all, c.loop-symbol.invariant, c.loop-symbol-test.false)
