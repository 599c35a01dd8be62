use Rattle.std.proofs.Common.{rules, ◌∙◌, sym, arith, append-nil, length-append}
use Rattle.std.proofs.lemmas.Grind.{common_steps}
use Rattle.mm_database.proofs.FrameIndicesLaw.{frames_at_joined, joined_indices, all_are_shifted}
use Rattle.mm_database.proofs.FrameIndicesLaw.{shifted_with_next_index}
use Rattle.mm_database.proofs.FrameIndicesLaw.{few_frames_of_few_statements}
use Rattle.mm_database.proofs.frames.Frames.joined.Goals as goal

pub loop-index-init : goal.loop-index-init
loop-index-init g c = sym (append-nil c.self.inside.indices.items)

pub loop-index-preserved : goal.loop-index-preserved
loop-index-preserved g c = search (rules, arith, shifted_with_next_index)

pub invariant_of-result : goal.invariant_of-result
invariant_of-result g c =
    let few = few_frames_of_few_statements _ _ _ _ c.args.self c.args.later c.self.view_is
    c.later.view_is c.self.invariant c.later.invariant c.requires in
    let indices_are = all_are_shifted _ _ _ _ _ _ _ c.loop-index.invariant (omega arith)
    c.deref-index-items.ensures.value (c.len-shift.ensures ∙ c.self.inside.list.ok.0) in
    rw (c.in_ok-append.ensures.items, length-append, indices_are)
    (joined_indices _ _ _ _ few c.self.invariant c.later.invariant)

pub returns : goal.returns
returns g c =
    grind (arith, common_steps, few_frames_of_few_statements, all_are_shifted, frames_at_joined)
