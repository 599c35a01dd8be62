use Rattle.std.proofs.Common.{sym, subst}
use Rattle.mm_spec.specs.Frame.{is_essential}
use Rattle.mm_frame.specs.Latest.{AreLatest, is_frame_part}
use Rattle.mm_frame.proofs.stretches.frame_tables_of.Goals as goal

pub frames_in_stretches-requires-clause-are_sources :
    goal.frames_in_stretches-requires-clause-are_sources
frames_in_stretches-requires-clause-are_sources g c κs within = record {
  sound = c.len.ensures.is_sound;
  essentials_are =
      subst (λ xs. AreLatest is_essential c.args.statements.now.list xs) (sym c.deref.ensures.value)
      c.in_ok-essentials.ensures;
  frame_parts_are =
      subst (λ xs. AreLatest is_frame_part c.args.statements.now.list xs)
      (sym c.deref-2.ensures.value) c.in_ok-frame_parts.ensures;
  index_is = c.in_ok-disjoint_index.ensures;
}
