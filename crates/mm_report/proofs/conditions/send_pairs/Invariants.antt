use Rattle.std.proofs.Common.{take}
use Rattle.std.specs.Prelude.{flat_map}
use Rattle.mm_spec.specs.Derivation.{pair}
use Rattle.mm_spec.specs.Assertion.{pair_text}
use Rattle.mm_report.specs.Sent.{Sent}
use Rattle.mm_report.proofs.conditions.send_pairs.Given as goal

abbrev pub invariant-loop-variables : goal.invariant-loop-variables
invariant-loop-variables g l =
    Sent (g.W.Write.contents l.fn.to) (g.W.Write.contents l.to) l.fn.sink l.sink
    (flat_map (λ p. pair_text l.database.statements (pair p.0 p.1))
    (take l.variables-index l.pairs))
