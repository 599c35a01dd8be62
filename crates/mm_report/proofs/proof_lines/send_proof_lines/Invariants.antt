use Rattle.std.proofs.Common.{take}
use Rattle.std.specs.Prelude.{flat_map}
use Rattle.mm_spec.specs.Output.{theorems}
use Rattle.mm_spec.specs.ProofLine.{proof_line}
use Rattle.mm_report.specs.Sent.{Sent}
use Rattle.mm_report.proofs.proof_lines.send_proof_lines.Given as goal

abbrev pub invariant-loop-row : goal.invariant-loop-row
invariant-loop-row g l =
    Sent (g.W.Write.contents l.fn.to) (g.W.Write.contents l.to) l.fn.sink l.sink
    (flat_map (proof_line l.database.statements)
    (take l.row (theorems l.database.statements)))
