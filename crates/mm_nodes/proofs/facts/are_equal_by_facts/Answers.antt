use Rattle.std.proofs.Common.{◌<◌, ◌+◌, All, length, sym, subst, arith}
use Rattle.std.proofs.lemmas.List.Elements.{All-weaker, All-nil}
use Rattle.mm_nodes.specs.Strings.{string_of, first_node}
use Rattle.mm_nodes.specs.Store.{nodes_of, segment_string, segment_bodies}
use Rattle.mm_nodes.specs.Overlaps.{Agree, Holds, IsOverlap}
use Rattle.mm_nodes.proofs.WalkLaw.{nil_if_no_length}
use Rattle.mm_nodes.proofs.OverlapLaw.{pending_first, pending_next, same_if_agree}
use Rattle.mm_nodes.proofs.OverlapLaw.{different_if_not_agree, ComesToPending, all_last}
use Rattle.mm_nodes.proofs.facts.are_equal_by_facts.Goals as goal

pub loop-overlap-init : goal.loop-overlap-init
loop-overlap-init g c = record {
  comes = pending_first c.requires.none_pending c.requires.seen_hold (c.in_ok-require_parts.ensures
      (first_node + length c.args.heads.now + c.args.body)
      (All-weaker (λ b. b < first_node + length c.args.heads.now)
      (λ b. b + c.args.body < first_node + length c.args.heads.now + c.args.body)
      (λ b b_lt. omega (arith, b_lt)) (segment_bodies c.args.bodies.now c.args.parts)
      c.requires.are_parts.are_bodies));
}

pub take_apart-requires-clause-is_overlap : goal.take_apart-requires-clause-is_overlap
take_apart-requires-clause-is_overlap g c =
    all_last (IsOverlap (nodes_of c.args.bodies.now c.args.heads.now)) c.loop-overlap.pending.items
    c.pop.new.self.items c.in-Some.overlap c.in-Some.ensures.items
    c.loop-overlap.invariant.comes.are_overlaps

pub returns-then-not-branch : goal.returns-then-not-branch
returns-then-not-branch g c =
    different_if_not_agree (segment_string c.args.bodies.now c.args.heads.now c.args.parts)
    (string_of (nodes_of c.args.bodies.now c.args.heads.now) c.args.body)
    (λ agree.
    c.in_ok-take_apart.ensures.does_not_hold c.if-not-branch.true
    (all_last (Holds (nodes_of c.args.bodies.now c.args.heads.now)) c.loop-overlap.pending.items
    c.pop.new.self.items c.in-Some.overlap c.in-Some.ensures.items
    (c.loop-overlap.invariant.comes.is_needed agree)))

pub loop-overlap-preserved : goal.loop-overlap-preserved
loop-overlap-preserved g c = record {
  comes = pending_next c.in-Some.overlap (subst (λ os. ComesToPending
      (nodes_of c.args.bodies.now c.args.heads.now)
      (Agree (segment_string c.args.bodies.now c.args.heads.now c.args.parts) 0
      (string_of (nodes_of c.args.bodies.now c.args.heads.now) c.args.body) 0) os
      c.loop-overlap.seen) c.in-Some.ensures.items c.loop-overlap.invariant.comes)
      (c.in_ok-take_apart.ensures.comes_to_parts c.if-not-branch.false);
}

pub returns : goal.returns
returns g c =
    same_if_agree (segment_string c.args.bodies.now c.args.heads.now c.args.parts)
    (string_of (nodes_of c.args.bodies.now c.args.heads.now) c.args.body) c.requires.lengths_equal
    (c.loop-overlap.invariant.comes.is_enough
    (subst (All (Holds (nodes_of c.args.bodies.now c.args.heads.now)))
    (sym (nil_if_no_length c.loop-overlap.pending.items
    (omega (arith, c.in_default.ensures.cases.0, c.loop-overlap.pending.ok.0))))
    (All-nil (Holds (nodes_of c.args.bodies.now c.args.heads.now)))))
