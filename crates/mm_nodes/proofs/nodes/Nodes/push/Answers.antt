use Rattle.std.proofs.Common.{◌≡◌, ◌<◌, ◌+◌, ◌++◌, ◌∷◌, [], ℕ, List, ◌∙◌, sym, ap, subst, arith}
use Rattle.std.proofs.Common.{length, All}
use Rattle.mm_nodes.specs.Strings.{first_node, joined_string_of, IsBody, IsMade}
use Rattle.mm_nodes.specs.Store.{head, nodes_of}
use Rattle.mm_nodes.proofs.StoreLaw.{length_nodes, store_pushed, nodes_pushed, made_by_push}
use Rattle.mm_nodes.proofs.nodes.Nodes.push.Goals as goal

pub invariant_of-self-in-Ok : goal.invariant_of-self-in-Ok
invariant_of-self-in-Ok g c =
    let bodies = c.self.inside.bodies in
    let heads = c.self.inside.heads.items in
    rw (c.in_ok-append.ensures.appends_bodies, c.in-Ok.ensures.items)
    (store_pushed bodies heads c.args.bodies.now
    (head c.len-start.result c.len.result c.args.symbol_count) c.self.invariant c.len-start.ensures
    (c.len.ensures ∙ ap length c.in_ok-append.ensures.appends_bodies)
    (subst (λ (ns : List (List ℕ)). c.args.symbol_count
    ≡ length (joined_string_of ns c.args.bodies.now)) (sym c.self.view_is) c.requires.length_is)
    (subst (λ (ns : List (List ℕ)). All (IsBody ns) c.args.bodies.now) (sym c.self.view_is)
    c.requires.are_bodies)
    (omega (arith, length_nodes bodies heads, ap length c.self.view_is, c.requires.has_room)))

pub returns-in-Ok-clause-nodes_stay : goal.returns-in-Ok-clause-nodes_stay
returns-in-Ok-clause-nodes_stay g c =
    let bodies = c.self.inside.bodies in
    let heads = c.self.inside.heads.items in (
      c.args.bodies.now ∷ [],
      rw (c.in_ok-append.ensures.appends_bodies, c.in-Ok.ensures.items)
          (nodes_pushed bodies heads c.args.bodies.now
          (head c.len-start.result c.len.result c.args.symbol_count) c.self.invariant
          c.len-start.ensures
          (c.len.ensures ∙ ap length c.in_ok-append.ensures.appends_bodies)
          (subst (λ (ns : List (List ℕ)). c.args.symbol_count
          ≡ length (joined_string_of ns c.args.bodies.now)) (sym c.self.view_is)
          c.requires.length_is)
          (subst (λ (ns : List (List ℕ)). All (IsBody ns) c.args.bodies.now) (sym c.self.view_is)
          c.requires.are_bodies)
          (omega (arith, length_nodes bodies heads, ap length c.self.view_is, c.requires.has_room))
          ∙ ap (λ (ns : List (List ℕ)). ns ++ c.args.bodies.now ∷ []) c.self.view_is),
    )

pub returns-in-Ok-clause-is_made : goal.returns-in-Ok-clause-is_made
returns-in-Ok-clause-is_made g c =
    let bodies = c.self.inside.bodies in
    let heads = c.self.inside.heads.items in
    let h = head c.len-start.result c.len.result c.args.symbol_count in
    let end_is : c.len.result ≡ length (bodies ++ c.args.bodies.now) =
    c.len.ensures ∙ ap length c.in_ok-append.ensures.appends_bodies in
    let length_is : c.args.symbol_count
    ≡ length (joined_string_of (nodes_of bodies heads) c.args.bodies.now) =
    subst (λ (ns : List (List ℕ)). c.args.symbol_count
    ≡ length (joined_string_of ns c.args.bodies.now)) (sym c.self.view_is) c.requires.length_is in
    let are_bodies : All (IsBody (nodes_of bodies heads)) c.args.bodies.now =
    subst (λ (ns : List (List ℕ)). All (IsBody ns) c.args.bodies.now) (sym c.self.view_is)
    c.requires.are_bodies in
    let count_lt : length heads + 1 < first_node =
    omega (arith, length_nodes bodies heads, ap length c.self.view_is, c.requires.has_room) in
    subst (λ (ns : List (List ℕ)). IsMade ns (nodes_of c.append.new.self c.push.new.self.items)
    c.args.bodies.now c.node.result) c.self.view_is
    (made_by_push bodies heads c.args.bodies.now h c.self.invariant c.len-start.ensures end_is
    length_is are_bodies count_lt c.requires.has_bodies
    (nodes_of c.append.new.self c.push.new.self.items) c.node.result
    (rw (c.in_ok-append.ensures.appends_bodies, c.in-Ok.ensures.items)
    (nodes_pushed bodies heads c.args.bodies.now h c.self.invariant c.len-start.ensures end_is
    length_is are_bodies count_lt))
    (omega (arith, c.node.ensures, c.self.inside.heads.ok.0)))
