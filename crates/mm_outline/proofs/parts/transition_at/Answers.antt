use Rattle.std.proofs.Common.{rules, arith}
use Rattle.mm_outline.proofs.parts.transition_at.Goals as goal

pub transition_for-requires-clause-label_is_told : goal.transition_for-requires-clause-label_is_told
transition_for-requires-clause-label_is_told c = search (rules, arith)

pub returns-clause-transition_is : goal.returns-clause-transition_is
returns-clause-transition_is c = search (rules, arith)
