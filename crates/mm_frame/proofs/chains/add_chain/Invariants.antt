use Rattle.std.proofs.Common.{ℕ, ◌≤◌, List, length, get_or}
use Rattle.mm_frame.specs.Chains.{IsLinkChain}
use Rattle.mm_frame.proofs.ChainsLaw.{IsRest}
use Rattle.mm_frame.proofs.chains.add_chain.Given as goal

abbrev pub invariant-loop-link : goal.invariant-loop-link
invariant-loop-link g l = record {
  link_le_length : l.link ≤ length l.chains.links.items;
  rest_is_chain : (statements : List ℕ)
      → IsLinkChain l.chains.links.items (get_or l.chains.heads.items l.symbol 0) statements
      → IsRest l.chains.links.items l.symbol l.link l.initial.by_symbol.items l.by_symbol.items
      statements;
}

abbrev pub decreases-loop-link : goal.decreases-loop-link
decreases-loop-link g l = l.link
