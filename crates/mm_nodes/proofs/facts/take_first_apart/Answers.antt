use Rattle.std.proofs.Common.{arith}
use Rattle.mm_nodes.proofs.StoreLaw.{length_nodes}
use Rattle.mm_nodes.proofs.WalkLaw.{segment_is_in}
use Rattle.mm_nodes.proofs.OverlapLaw.{first_apart, on_ok}
use Rattle.mm_nodes.proofs.facts.take_first_apart.Goals as goal

pub require_parts-requires-clause-are_parts : goal.require_parts-requires-clause-are_parts
require_parts-requires-clause-are_parts g c =
    segment_is_in c.args.bodies.now c.args.heads.now c.args.index c.segment_of-opened.result
    c.requires.are_nodes
    (omega (
      arith,
      c.requires.is_node,
      c.requires.is_overlap.first_is_body,
      length_nodes c.args.bodies.now c.args.heads.now,
    )) c.segment_of-opened.ensures

pub returns : goal.returns
returns g c =
    on_ok c.require_parts.result
    (λ comes.
    first_apart c.args.bodies.now c.args.heads.now c.requires.are_nodes c.args.overlap c.args.index
    (omega (
      arith,
      c.requires.is_node,
      c.requires.is_overlap.first_is_body,
      length_nodes c.args.bodies.now c.args.heads.now,
    )) c.segment_of-opened.result c.segment_of-opened.ensures c.requires.is_node
    comes)
    c.require_parts.ensures
