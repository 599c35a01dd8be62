use Rattle.std.proofs.Common.{vec_len}
use Rattle.std.specs.List.{All}
use Rattle.std.specs.Prelude.{IfOk}
use Rattle.mm_scope.specs.Outlines.{AreOutlinesBefore}
use Rattle.mm_scope.specs.Stretches.{IsStretch}
use Rattle.mm_scope.proofs.stretches.joined_outlines.Given as goal

abbrev pub invariant-joining : goal.invariant-joining
invariant-joining g l = record {
  are_before : AreOutlinesBefore l.text l.tokens l.joined;
  are_stretches : All (λ r. IfOk r (IsStretch l.text l.tokens)) l.unjoined.items;
}

abbrev pub decreases-joining : goal.decreases-joining
decreases-joining g l = vec_len l.unjoined
