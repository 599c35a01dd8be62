use Rattle.std.proofs.Common.{◌∙◌, length, ap, sym, arith}
use Rattle.std.specs.List.{list_all}
use Rattle.mm_nodes.proofs.StoreLaw.{no_string, length_nodes}
use Rattle.mm_nodes.proofs.nodes.Nodes.list_symbols.Goals as goal

pub returns-then-index-len-clause-symbols_are_same :
    goal.returns-then-index-len-clause-symbols_are_same
returns-then-index-len-clause-symbols_are_same g c = λ test.
    let count = length_nodes c.self.inside.bodies c.self.inside.heads.items in
    let same = ap length c.self.view_is in
    ap (list_all test)
    (no_string c.args.self.now c.args.body c.in-Some.index c.in-Some.ensures.is_node
    (omega (arith, count, same, c.self.inside.heads.ok.0)) ∙ sym c.clear.ensures.items)

pub list_symbols-requires-clause-are_nodes : goal.list_symbols-requires-clause-are_nodes
list_symbols-requires-clause-are_nodes g c =
    rw (c.as_slice-bodies.ensures, c.deref.ensures.value) c.self.invariant.are_nodes
