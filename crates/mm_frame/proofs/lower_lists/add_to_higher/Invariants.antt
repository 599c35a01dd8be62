use Rattle.std.proofs.Common.{◌≡◌, ◌&&◌, length, take, nat_eq, nat_lt}
use Rattle.mm_spec.specs.Derivation.{is_member}
use Rattle.mm_frame.specs.LowerLists.{AddsToLists}
use Rattle.mm_frame.proofs.lower_lists.add_to_higher.Given as goal

abbrev pub invariant-loop-symbol : goal.invariant-loop-symbol
invariant-loop-symbol g l = record {
  count : length l.lists ≡ length l.initial.lists;
  adds : AddsToLists
      (λ y x. nat_eq x l.low && (nat_lt x y && is_member (take l.symbol-index l.symbols) y))
      l.statement l.initial.lists l.lists;
}
