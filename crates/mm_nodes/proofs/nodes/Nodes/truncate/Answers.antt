use Rattle.std.proofs.Common.{rules, ◌<◌, ◌∙◌, ap, arith, length}
use Rattle.std.proofs.lemmas.List.{get_or_default}
use Rattle.mm_nodes.specs.Store.{no_head}
use Rattle.mm_nodes.proofs.StoreLaw.{store_cut, nodes_cut}
use Rattle.mm_nodes.proofs.nodes.Nodes.truncate.Goals as goal

pub invariant_of-self : goal.invariant_of-self
invariant_of-self g c =
    let heads = c.self.inside.heads.items in
    let count_lt : c.args.count < length heads = omega (arith, c.self.inside.heads.ok.0) in
    rw (c.truncate-then-count-len.ensures, c.truncate.ensures.items)
    (store_cut c.self.inside.bodies heads c.args.count c.index.result.now.start c.self.invariant
    count_lt (ap (λ h. h.start)
    (c.index.ensures ∙ get_or_default heads c.args.count c.index.result.now no_head count_lt)))

pub returns-then-count-len-clause-nodes_are_taken :
    goal.returns-then-count-len-clause-nodes_are_taken
returns-then-count-len-clause-nodes_are_taken g c = search (rules, arith, nodes_cut, get_or_default)
