use Rattle.std.proofs.Common.{◌<◌, ◌≤◌, ◌+◌, ℕ, ap, arith, ◌∙◌, ◌⊎◌, inl, inr}
use Rattle.std.proofs.lemmas.List.{get_or_default}
use Rattle.mm_nodes.proofs.OverlapLaw.{no_parts_before, part_apart, part_over, all_parts}
use Rattle.mm_nodes.proofs.facts.require_parts.Goals as goal
use Rattle.mm_nodes.proofs.facts.require_parts.Goals.{
  then-at-end+then-other_start-end+in_ok-require,
  else-at-end,
}

pub loop-rest-init : goal.loop-rest-init
loop-rest-init g c = record {
  parts_before = no_parts_before c.requires.are_parts;
}

pub loop-rest-preserved : goal.loop-rest-preserved
loop-rest-preserved g c =
    let done = c.loop-rest.invariant.parts_before in
    let b_is = c.index-bodies-rest.is
    ∙ get_or_default c.args.bodies.now c.loop-rest.rest.start c.index-bodies-rest.result 0
    (omega (arith, done.is_segment.end_le_length)) in
    let at_is = ap (λ x. c.loop-rest.at + x) c.length_of-in-loop-rest.ensures in
    elim c.if-at-end.branch [
      | then-at-end+then-other_start-end+in_ok-require w ↦ rw (w.seen-is, w.pending-is) (record {
        parts_before = part_over done c.loop-rest-test.true c.index-bodies-rest.result b_is
            (c.loop-rest.at + c.length_of-in-loop-rest.result) at_is w.between.result
            c.requires.is_body
            w.between.ensures.begins_first w.between.ensures.begins_second
            w.if-other_start-end.true
            (omega (arith, c.if-at-other_end.true, c.length_of.ensures)) w.in_ok-require.ensures;
      })
      | else-at-end w ↦ rw (w.seen-is, w.pending-is) (record {
        parts_before = part_apart done
            c.loop-rest-test.true c.index-bodies-rest.result b_is
            (c.loop-rest.at + c.length_of-in-loop-rest.result) at_is (λ n at_le n_lt other_le.
            no_place n at_le n_lt other_le w.else-at-end.either);
      })
    ]
  where
    no_place : {at end other_start : ℕ} (n : ℕ) → at ≤ n → n < end → other_start ≤ n
        → (at < end × end ≤ other_start) ⊎ (end ≤ at) → ⊥
    no_place n at_le n_lt other_le (inl before) = absurd (omega (arith, n_lt, other_le, before.1))
    no_place n at_le n_lt other_le (inr empty) = absurd (omega (arith, at_le, n_lt, empty))

pub returns-else-at-other_end : goal.returns-else-at-other_end
returns-else-at-other_end g c =
    all_parts c.loop-rest.invariant.parts_before
    (inr (omega (arith, c.if-at-other_end.false, c.length_of.ensures)))
