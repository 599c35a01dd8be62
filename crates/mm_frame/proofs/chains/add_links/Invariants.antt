use Rattle.std.proofs.Common.{◌≡◌, length, take}
use Rattle.mm_spec.specs.Derivation.{is_member}
use Rattle.mm_frame.specs.Chains.{AreLinked, AddsInFront}
use Rattle.mm_frame.proofs.chains.add_links.Given as goal

abbrev pub invariant-loop-symbol : goal.invariant-loop-symbol
invariant-loop-symbol g l = record {
  count : length l.chains.heads.items ≡ length l.initial.chains.heads.items;
  linked : AreLinked l.chains.heads.items l.chains.links.items;
  chains : AddsInFront (λ x. is_member (take l.symbol-index l.symbols) x)
      l.fn.statement l.initial.chains l.chains;
}
