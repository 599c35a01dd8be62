use Rattle.mm_nodes.proofs.WalkLaw.{are_nodes_before, is_body_before, are_nodes_behind}
use Rattle.mm_nodes.proofs.WalkLaw.{is_body_behind, first_string, first_is_segment, second_string}
use Rattle.mm_nodes.proofs.WalkLaw.{second_is_body}
use Rattle.mm_nodes.proofs.nodes.append_and_compare.Goals as goal

pub place_of-requires-clause-are_nodes : goal.place_of-requires-clause-are_nodes
place_of-requires-clause-are_nodes g c =
    are_nodes_before c.args.bodies.now c.args.wanted.now c.args.body c.args.heads.now
    c.requires.are_nodes c.requires.are_bodies c.requires.is_body c.append.new.self
    c.in_ok-append.ensures.appends_bodies

pub place_of-requires-clause-is_body : goal.place_of-requires-clause-is_body
place_of-requires-clause-is_body g c =
    is_body_before c.args.bodies.now c.args.wanted.now c.args.body c.args.heads.now
    c.requires.are_nodes c.requires.are_bodies c.requires.is_body c.append.new.self
    c.in_ok-append.ensures.appends_bodies

pub compare-requires-clause-are_nodes : goal.compare-requires-clause-are_nodes
compare-requires-clause-are_nodes g c =
    let bodies = c.args.bodies.now in
    let wanted = c.args.wanted.now in
    let heads = c.args.heads.now in
    let more = c.in_ok-second.ensures.bodies_stay.0 in
    let all_is = c.in_ok-second.ensures.bodies_stay.1 in
    rw c.as_slice.ensures (are_nodes_behind bodies wanted c.args.body heads
    c.requires.are_nodes c.requires.are_bodies c.requires.is_body c.append.new.self
    c.in_ok-append.ensures.appends_bodies more c.place_of.new.bodies c.len-start.result
    c.len.result all_is c.len-start.ensures c.len.ensures)

pub compare-requires-clause-is_body : goal.compare-requires-clause-is_body
compare-requires-clause-is_body g c =
    let bodies = c.args.bodies.now in
    let wanted = c.args.wanted.now in
    let heads = c.args.heads.now in
    let more = c.in_ok-second.ensures.bodies_stay.0 in
    let all_is = c.in_ok-second.ensures.bodies_stay.1 in
    rw c.as_slice.ensures (is_body_behind bodies wanted c.args.body heads
    c.requires.are_nodes c.requires.are_bodies c.requires.is_body c.append.new.self
    c.in_ok-append.ensures.appends_bodies more c.place_of.new.bodies c.len-start.result
    c.len.result all_is c.len-start.ensures c.len.ensures)

pub compare-requires-clause-first_is_segment : goal.compare-requires-clause-first_is_segment
compare-requires-clause-first_is_segment g c =
    let bodies = c.args.bodies.now in
    let wanted = c.args.wanted.now in
    let heads = c.args.heads.now in
    let more = c.in_ok-second.ensures.bodies_stay.0 in
    let all_is = c.in_ok-second.ensures.bodies_stay.1 in
    rw c.as_slice.ensures (first_is_segment bodies wanted c.args.body heads
    c.requires.are_nodes c.requires.are_bodies c.requires.is_body c.append.new.self
    c.in_ok-append.ensures.appends_bodies more c.place_of.new.bodies c.len-start.result
    c.len.result all_is c.len-start.ensures c.len.ensures)

pub compare-requires-clause-second_is_body : goal.compare-requires-clause-second_is_body
compare-requires-clause-second_is_body g c =
    let bodies = c.args.bodies.now in
    let wanted = c.args.wanted.now in
    let heads = c.args.heads.now in
    let more = c.in_ok-second.ensures.bodies_stay.0 in
    let all_is = c.in_ok-second.ensures.bodies_stay.1 in
    rw c.as_slice.ensures (second_is_body bodies wanted c.args.body heads
    c.requires.are_nodes c.requires.are_bodies c.requires.is_body c.append.new.self
    c.in_ok-append.ensures.appends_bodies more c.place_of.new.bodies c.len-start.result
    c.len.result all_is c.len-start.ensures c.len.ensures c.in_ok-second.second
    c.in_ok-second.ensures.has_string)

pub compare-requires-clause-lengths_equal : goal.compare-requires-clause-lengths_equal
compare-requires-clause-lengths_equal g c =
    let bodies = c.args.bodies.now in
    let wanted = c.args.wanted.now in
    let heads = c.args.heads.now in
    let more = c.in_ok-second.ensures.bodies_stay.0 in
    let all_is = c.in_ok-second.ensures.bodies_stay.1 in
    rw (
      c.as_slice.ensures,
      first_string bodies wanted c.args.body heads
          c.requires.are_nodes c.requires.are_bodies c.requires.is_body c.append.new.self
          c.in_ok-append.ensures.appends_bodies more c.place_of.new.bodies c.len-start.result
          c.len.result all_is c.len-start.ensures c.len.ensures,
      second_string bodies wanted c.args.body heads
          c.requires.are_nodes c.requires.are_bodies c.requires.is_body c.append.new.self
          c.in_ok-append.ensures.appends_bodies more c.place_of.new.bodies c.len-start.result
          c.len.result all_is c.len-start.ensures c.len.ensures c.in_ok-second.second
          c.in_ok-second.ensures.has_string,
    ) c.requires.lengths_equal

pub returns-clause-tells_equal : goal.returns-clause-tells_equal
returns-clause-tells_equal g c =
    let bodies = c.args.bodies.now in
    let wanted = c.args.wanted.now in
    let heads = c.args.heads.now in
    let more = c.in_ok-second.ensures.bodies_stay.0 in
    let all_is = c.in_ok-second.ensures.bodies_stay.1 in
    rw (
      c.as_slice.ensures,
      first_string bodies wanted c.args.body heads
          c.requires.are_nodes c.requires.are_bodies c.requires.is_body c.append.new.self
          c.in_ok-append.ensures.appends_bodies more c.place_of.new.bodies c.len-start.result
          c.len.result all_is c.len-start.ensures c.len.ensures,
      second_string bodies wanted c.args.body heads
          c.requires.are_nodes c.requires.are_bodies c.requires.is_body c.append.new.self
          c.in_ok-append.ensures.appends_bodies more c.place_of.new.bodies c.len-start.result
          c.len.result all_is c.len-start.ensures c.len.ensures c.in_ok-second.second
          c.in_ok-second.ensures.has_string,
    ) at c.compare.ensures
