use Rattle.std.proofs.Common.{◌≡◌, ℕ, List, length, sym, subst}
use Rattle.mm_nodes.specs.Strings.{string_of, joined_string_of}
use Rattle.mm_nodes.proofs.nodes.Nodes.is_equal_by_symbols.Goals as goal

pub append_and_compare-answer-requires-clause-are_nodes :
    goal.append_and_compare-answer-requires-clause-are_nodes
append_and_compare-answer-requires-clause-are_nodes g c =
    rw c.deref.ensures.value c.self.invariant.are_nodes

pub append_and_compare-answer-requires-clause-lengths_equal :
    goal.append_and_compare-answer-requires-clause-lengths_equal
append_and_compare-answer-requires-clause-lengths_equal g c =
    rw c.deref.ensures.value
    (subst (λ (ns : List (List ℕ)). length (joined_string_of ns c.args.wanted.now)
    ≡ length (string_of ns c.args.body)) (sym c.self.view_is) c.requires.lengths_equal)
