use Rattle.std.proofs.Common.{refl, ap, ◌∙◌}
use Rattle.mm_spec.specs.Bytes.{is_white, is_printable}
use Rattle.mm_bytes.specs.Masks.{is_bad, mask}
use Rattle.mm_bytes.proofs.MaskLaw.{mask_padded}
use Rattle.mm_bytes.proofs.classes.class_tail.Goals as goal

pub returns-clause-white_is : goal.returns-clause-white_is
unfolding is_white
returns-clause-white_is c =
    c.class_block.ensures.white_is ∙ ap (mask is_white) c.padded.ensures
    ∙ mask_padded is_white c.args.bytes.now _ 97 refl

pub returns-clause-bad_is : goal.returns-clause-bad_is
unfolding is_white is_printable is_bad
returns-clause-bad_is c =
    c.class_block.ensures.bad_is ∙ ap (mask is_bad) c.padded.ensures
    ∙ mask_padded is_bad c.args.bytes.now _ 97 refl
