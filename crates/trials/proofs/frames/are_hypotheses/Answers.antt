use Rattle.trials.proofs.frames.are_hypotheses.Goals as goal

pub next-requires : goal.next-requires
next-requires c = c.loop-statement.invariant.0
