use Rattle.std.proofs.Common.{◌==◌, refl, ap, ◌∙◌}
use Rattle.mm_bytes.specs.Masks.{mask}
use Rattle.mm_bytes.proofs.MaskLaw.{mask_padded}
use Rattle.mm_bytes.proofs.classes.dollars_tail.Goals as goal

pub returns : goal.returns
returns c =
    c.dollars_block.ensures ∙ ap (mask (λ b. b == 36)) c.padded.ensures
    ∙ mask_padded (λ b. b == 36) c.args.bytes.now _ 97 refl
