use Rattle.std.proofs.Common.{◌≡◌, ◌<◌, true, false, map, take}
use Rattle.mm_spec.specs.Report.{separated}
use Rattle.mm_spec.specs.ProofLine.{step_text}
use Rattle.mm_steps.specs.TheoremSteps.{as_step}
use Rattle.mm_report.specs.Sent.{Sent}
use Rattle.mm_report.proofs.proof_lines.send_steps.Given as goal

abbrev pub invariant-loop-step : goal.invariant-loop-step
invariant-loop-step g l = record {
  first_has_none_before : l.is_first_step ≡ true → l.step-index ≡ 0;
  later_has_some_before : l.is_first_step ≡ false → 0 < l.step-index;
  sent : Sent (g.W.Write.contents l.fn.to) (g.W.Write.contents l.to) l.fn.sink l.sink
      (separated
      (map (step_text l.database.statements) (take l.step-index (map as_step l.steps))));
}
