use Rattle.std.proofs.Common.{sym, subst, refl}
use Rattle.mm_frame.specs.Hypotheses.{IsFresh}
use Rattle.mm_frame.proofs.frames.Scratch.new.Goals as goal

pub returns : goal.returns
returns g c = λ db from count_is. record {
  essential_stamps_are_fresh =
      subst (λ n. IsFresh n from c.in_ok-essential_lists.essential_lists.stamps.items)
      (sym count_is) (c.in_ok-essential_lists.ensures from);
  frame_stamps_are_fresh =
      subst (λ n. IsFresh n from c.in_ok-lists.lists.stamps.items) (sym count_is)
      (c.in_ok-lists.ensures from);
  previous_is_assertion = λ is_some. absurd (is_some refl);
  previous_is_known = λ is_some. absurd (is_some refl);
}
