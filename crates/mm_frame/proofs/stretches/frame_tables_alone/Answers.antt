use Rattle.std.proofs.Common.{◌∙◌, sym, subst, arith}
use Rattle.mm_spec.specs.Frame.{is_essential}
use Rattle.mm_frame.specs.Latest.{AreLatest, is_frame_part}
use Rattle.mm_frame.proofs.StretchesLaw.{frames_of_all}
use Rattle.mm_frame.proofs.stretches.frame_tables_alone.Goals as goal

pub frames_between-requires-clause-are_sources : goal.frames_between-requires-clause-are_sources
frames_between-requires-clause-are_sources g c = record {
  sound = c.len.ensures.is_sound;
  essentials_are =
      subst (λ xs. AreLatest is_essential c.args.statements.now.list xs) (sym c.deref.ensures.value)
      c.in_ok-essentials.ensures;
  frame_parts_are =
      subst (λ xs. AreLatest is_frame_part c.args.statements.now.list xs)
      (sym c.deref-2.ensures.value) c.in_ok-frame_parts.ensures;
  index_is = c.in_ok-disjoint_index.ensures;
}

pub frames_between-requires-clause-to_le_length : goal.frames_between-requires-clause-to_le_length
frames_between-requires-clause-to_le_length g c =
    let len_is = c.len.ensures.len in omega (arith, len_is)

pub returns : goal.returns
returns g c = record {
  disjoint_index = c.in_ok-disjoint_index.ensures;
  frames =
      c.in_ok-frames.ensures
      ∙ frames_of_all c.args.statements.now.list c.len.result c.len.ensures.len;
}
