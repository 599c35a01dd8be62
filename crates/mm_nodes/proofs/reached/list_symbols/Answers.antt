use Rattle.std.proofs.Common.{◌<◌, ◌+◌, ◌∙◌, ℕ, List, [], length, get_or, All, ap, sym, subst, arith}
use Rattle.mm_nodes.specs.Strings.{first_node}
use Rattle.mm_nodes.specs.Store.{AreNodes, nodes_of}
use Rattle.mm_nodes.specs.Reached.{ReachesToo, ReachesBodies}
use Rattle.mm_nodes.specs.declared.heads.Head.{Head}
use Rattle.mm_nodes.proofs.StoreLaw.{length_nodes}
use Rattle.mm_nodes.proofs.ReachedLaw.{walk_begins, walks_on, all_is_walked, next_lt, HasWalked}
use Rattle.mm_nodes.proofs.reached.list_symbols.Goals as goal

below : (bodies : List ℕ) (heads : List Head) → AreNodes bodies heads → (n : ℕ)
    → n < length (nodes_of bodies heads)
    → All (λ b. b < first_node + n) (get_or (nodes_of bodies heads) n [])
below bodies heads are_nodes n n_lt =
    (are_nodes n (omega (arith, n_lt, length_nodes bodies heads))).bodies_below

pub loop-index-init : goal.loop-index-init
loop-index-init g c =
    let bodies = c.args.bodies.now in
    let heads = c.args.heads.now in
    subst (HasWalked (nodes_of bodies heads) c.args.node 0 c.add.new.self)
    (sym c.requires.list_empty)
    (walk_begins (nodes_of bodies heads) (below bodies heads c.requires.are_nodes) c.args.node
    c.add.new.self (omega (arith, c.requires.node_lt_length, length_nodes bodies heads))
    (subst (λ w. ReachesToo c.args.node w c.add.new.self) c.requires.none_reached
    c.in_ok-add.ensures))

pub len-requires : goal.len-requires
len-requires g c =
    rw (length_nodes c.args.bodies.now c.args.heads.now) at c.loop-index.invariant.all_below

pub bodies_of-requires-clause-index_lt_length : goal.bodies_of-requires-clause-index_lt_length
bodies_of-requires-clause-index_lt_length g c =
    let bodies = c.args.bodies.now in
    let heads = c.args.heads.now in
    let lt = next_lt (nodes_of bodies heads) (below bodies heads c.requires.are_nodes)
    c.args.node c.loop-index.index c.loop-index.reached c.loop-index.list.items
    c.loop-index.invariant
    (omega (arith, c.loop-index-test.true, c.len.ensures.is_length)) in
    omega (arith, lt, c.at-next.ensures, length_nodes bodies heads)

pub loop-index-preserved : goal.loop-index-preserved
loop-index-preserved g c =
    let bodies = c.args.bodies.now in
    let heads = c.args.heads.now in
    let parts_are = c.bodies_of.ensures ∙ ap (λ n. get_or (nodes_of bodies heads) n [])
    c.at-next.ensures in
    walks_on (nodes_of bodies heads) (below bodies heads c.requires.are_nodes) c.args.node
    c.loop-index.index c.loop-index.reached c.loop-index.list.items c.loop-index.invariant
    (omega (arith, c.loop-index-test.true, c.len.ensures.is_length)) c.reach_bodies.new.reached
    c.reach_bodies.new.list.items
    (subst (λ (bs : List ℕ). ReachesBodies bs c.loop-index.reached c.loop-index.list.items
    c.reach_bodies.new.reached c.reach_bodies.new.list.items) parts_are
    c.in_ok-reach_bodies.ensures)

pub returns : goal.returns
returns g c =
    let bodies = c.args.bodies.now in
    let heads = c.args.heads.now in
    all_is_walked (nodes_of bodies heads) (below bodies heads c.requires.are_nodes) c.args.node
    c.loop-index.index c.loop-index.reached c.loop-index.list.items c.loop-index.invariant
    (omega (arith, c.loop-index-test.false, c.len.ensures.is_length))
