use Rattle.std.proofs.Common.{◌≡◌, length, take}
use Rattle.mm_frame.specs.Rows.{AreAllKnown, AddsListToRows}
use Rattle.mm_frame.proofs.disjoint_rows.add_list_to_rows.Given as goal

abbrev pub invariant-loop-pair : goal.invariant-loop-pair
invariant-loop-pair g l = record {
  count : length l.rows ≡ length l.initial.rows;
  are_known : AreAllKnown l.blocks l.rows;
  adds : AddsListToRows l.blocks l.high (take l.pair-index l.list) l.initial.rows l.rows;
}
