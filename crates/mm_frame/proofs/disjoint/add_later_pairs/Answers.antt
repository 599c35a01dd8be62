use Rattle.std.proofs.Common.{rules, arith}
use Rattle.std.proofs.lemmas.Grind.{common_steps}
use Rattle.mm_frame.proofs.MandatoryPairsLaw.{adds_later_at_end, adds_later_at_start}
use Rattle.mm_frame.proofs.MandatoryPairsLaw.{adds_later_with_pair}
use Rattle.mm_frame.proofs.disjoint.add_later_pairs.Goals as goal

pub returns-else-by_statement-later : goal.returns-else-by_statement-later
returns-else-by_statement-later g c = search (rules, arith, adds_later_at_end)

pub returns-after-loop-later : goal.returns-after-loop-later
returns-after-loop-later g c =
    let length_le_later = c.loop-later-test.false in
    adds_later_at_end c.args.by_statement.now c.requires.rising c.args.index
    c.requires.index_lt_length c.loop-later.later
    c.args.pairs.now.items c.loop-later.pairs.items c.loop-later.invariant
    (λ later_lt_length. absurd (omega (arith, later_lt_length, length_le_later)))

pub loop-later-init : goal.loop-later-init
loop-later-init g c = search (rules, arith, adds_later_at_start)

pub loop-later-preserved : goal.loop-later-preserved
loop-later-preserved g c = grind (arith, common_steps, adds_later_with_pair)
