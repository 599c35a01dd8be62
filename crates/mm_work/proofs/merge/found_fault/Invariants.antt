use Rattle.std.proofs.Common.{◌≡◌, Some}
use Rattle.std.specs.List.{AllWithin}
use Rattle.mm_work.specs.Workers.{faulty_index}
use Rattle.mm_work.proofs.merge.found_fault.Given as goal

abbrev pub invariant-loop-findings : goal.invariant-loop-findings
invariant-loop-findings g l =
    AllWithin (λ f. faulty_index f.faulty ≡ Some l.index → ⊥) l.all_findings 0 l.findings-index
