use Rattle.std.proofs.Common.{◌≡◌, ◌++◌, ◌∙◌, ℕ, List, [], length, ap, sym, subst, arith}
use Rattle.std.proofs.Common.{append-nil}
use Rattle.mm_nodes.specs.Strings.{string_of}
use Rattle.mm_nodes.specs.declared.heads.Head.{Head}
use Rattle.mm_nodes.specs.Store.{IsSegmentOf, segment_string}
use Rattle.mm_nodes.proofs.StoreLaw.{no_string, length_nodes}
use Rattle.mm_nodes.proofs.WalkLaw.{segment_is_in, node_is_opened}
use Rattle.mm_nodes.proofs.nodes.Nodes.append_symbols.Goals as goal

pub returns-then-index-len-clause-symbols_are : goal.returns-then-index-len-clause-symbols_are
returns-then-index-len-clause-symbols_are g c =
    let count = length_nodes c.self.inside.bodies c.self.inside.heads.items in
    let same = ap length c.self.view_is in
    sym (ap (λ u. c.args.list.now.items ++ u)
    (no_string c.args.self.now c.args.body c.in-Some.index c.in-Some.ensures.is_node
    (omega (arith, count, same, c.self.inside.heads.ok.0)))
    ∙ append-nil c.args.list.now.items)

pub append_all-requires-clause-are_nodes : goal.append_all-requires-clause-are_nodes
append_all-requires-clause-are_nodes g c =
    rw (c.as_slice-bodies.ensures, c.deref-in-Some.ensures.value) c.self.invariant.are_nodes

pub append_all-requires-clause-is_segment : goal.append_all-requires-clause-is_segment
append_all-requires-clause-is_segment g c =
    rw (c.as_slice-bodies.ensures, c.deref-in-Some.ensures.value)
    (segment_is_in c.self.inside.bodies c.self.inside.heads.items c.in-Some.index
    c.segment_of-opened.result c.self.invariant.are_nodes (omega (arith, c.self.inside.heads.ok.0))
    (subst (λ (hs : List Head). IsSegmentOf hs c.in-Some.index c.segment_of-opened.result)
    c.deref.ensures.value c.segment_of-opened.ensures))

pub returns-else-index-len-clause-symbols_are : goal.returns-else-index-len-clause-symbols_are
returns-else-index-len-clause-symbols_are g c =
    let bodies = c.self.inside.bodies in
    let heads = c.self.inside.heads.items in
    let string_is : segment_string bodies heads c.segment_of-opened.result
    ≡ string_of c.args.self.now c.args.body =
    sym (node_is_opened [] bodies heads c.self.invariant.are_nodes c.args.body c.in-Some.index
    c.segment_of-opened.result c.in-Some.ensures.is_node (omega (arith, c.self.inside.heads.ok.0))
    (subst (λ (hs : List Head). IsSegmentOf hs c.in-Some.index c.segment_of-opened.result)
    c.deref.ensures.value c.segment_of-opened.ensures))
    ∙ ap (λ (ns : List (List ℕ)). string_of ns c.args.body) c.self.view_is in
    rw (c.as_slice-bodies.ensures, c.deref-in-Some.ensures.value, string_is)
    at c.append_all.ensures
