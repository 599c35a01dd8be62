use Rattle.std.proofs.Common.{◌<◌, length, [], sym, arith}
use Rattle.mm_nodes.proofs.StoreLaw.{length_nodes}
use Rattle.mm_nodes.proofs.WalkLaw.{segment_is_in, node_is_opened}
use Rattle.mm_nodes.proofs.nodes.place_of.Goals as goal

pub returns-in-Some-clause-is_segment : goal.returns-in-Some-clause-is_segment
returns-in-Some-clause-is_segment g c =
    let bodies = c.args.bodies.now in
    let heads = c.args.heads.now in
    let count = length_nodes bodies heads in
    let index_lt : c.in-Some.index < length heads =
    omega (arith, count, c.requires.is_body, c.in-Some.ensures.is_node) in
    segment_is_in bodies heads c.in-Some.index c.segment_of.result c.requires.are_nodes index_lt
    c.segment_of.ensures

pub returns-in-Some-clause-has_string : goal.returns-in-Some-clause-has_string
returns-in-Some-clause-has_string g c =
    let bodies = c.args.bodies.now in
    let heads = c.args.heads.now in
    let count = length_nodes bodies heads in
    let index_lt : c.in-Some.index < length heads =
    omega (arith, count, c.requires.is_body, c.in-Some.ensures.is_node) in
    sym (node_is_opened [] bodies heads c.requires.are_nodes c.args.body c.in-Some.index
    c.segment_of.result c.in-Some.ensures.is_node index_lt c.segment_of.ensures)
