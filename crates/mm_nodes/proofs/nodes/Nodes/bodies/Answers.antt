use Rattle.std.proofs.Common.{◌∙◌, sym, ap, ap₂, arith, ◌<◌, length, get_or, [], List, ℕ, ◌≡◌}
use Rattle.mm_nodes.specs.declared.heads.Head.{Head}
use Rattle.mm_nodes.specs.Strings.{joined_string_of, string_of}
use Rattle.mm_nodes.specs.Store.{nodes_of}
use Rattle.mm_nodes.proofs.StoreLaw.{listed_string}
use Rattle.mm_nodes.proofs.nodes.Nodes.bodies.Goals as goal

pub bodies_of-requires-clause-are_nodes : goal.bodies_of-requires-clause-are_nodes
bodies_of-requires-clause-are_nodes g c =
    rw (c.as_slice.ensures, c.deref.ensures.value) c.self.invariant.are_nodes

pub returns-else-index-len : goal.returns-else-index-len
returns-else-index-len g c =
    let bodies = c.self.inside.bodies in
    let heads = c.self.inside.heads.items in
    let i_lt : c.in-Some.index < length heads = omega (arith, c.self.inside.heads.ok.0) in
    let bodies_are : get_or (nodes_of bodies heads) c.in-Some.index [] ≡ c.bodies_of.result.now =
    ap₂ (λ (bs : List ℕ) (hs : List Head). get_or (nodes_of bs hs) c.in-Some.index [])
    (sym c.as_slice.ensures) (sym c.deref.ensures.value) ∙ sym c.bodies_of.ensures in
    sym (ap (λ (ns : List (List ℕ)). string_of ns c.args.body) c.self.view_is)
    ∙ listed_string bodies heads c.self.invariant.are_nodes c.args.body c.in-Some.index
    c.in-Some.ensures.is_node i_lt
    ∙ ap (joined_string_of (nodes_of bodies heads)) bodies_are
    ∙ ap (λ (ns : List (List ℕ)). joined_string_of ns c.bodies_of.result.now) c.self.view_is
