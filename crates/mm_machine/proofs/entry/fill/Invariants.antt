use Rattle.std.proofs.Common.{◌≤◌, ◌+◌, All, take}
use Rattle.mm_spec.specs.Limits.{formula_limit}
use Rattle.mm_machine.specs.Masks.{IncludesPart}
use Rattle.mm_machine.proofs.FilledLaw.{IsWritten}
use Rattle.mm_machine.proofs.entry.fill.Given as goal

abbrev pub invariant-loop-part : goal.invariant-loop-part
invariant-loop-part g l = record {
  is_written : IsWritten l._nodes l.premises l.parts l.list l.count (l.count + l.more) l.greatest
      l.part-index;
  more_le_limit : l.more ≤ formula_limit;
  includes_masks : All (IncludesPart l.premises l.mask) (take l.part-index l.parts);
}
