use Rattle.std.proofs.Common.{◌≡◌, ◌&&◌, length, take, nat_lt}
use Rattle.mm_spec.specs.Derivation.{is_member}
use Rattle.mm_frame.specs.LowerLists.{AddsToLists}
use Rattle.mm_frame.proofs.lower_lists.add_all_pairs.Given as goal

abbrev pub invariant-loop-low : goal.invariant-loop-low
invariant-loop-low g l = record {
  count : length l.lists ≡ length l.initial.lists;
  adds : AddsToLists
      (λ y x. is_member (take l.low-index l.symbols) x && (nat_lt x y && is_member l.symbols y))
      l.statement l.initial.lists l.lists;
}
