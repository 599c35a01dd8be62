use Rattle.trials.proofs.frames.are_hypotheses.Given as goal

abbrev pub invariant-loop-statement : goal.invariant-loop-statement
invariant-loop-statement l =
    (goal.iterator-loop-statement).can_next l.expected
    × (goal.iterator-loop-statement).is_finite l.expected
