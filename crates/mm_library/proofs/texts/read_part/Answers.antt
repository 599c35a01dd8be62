use Rattle.std.proofs.Common.{◌∙◌, ℕ, ap, take}
use Rattle.std.proofs.lemmas.List.{take_min}
use Rattle.mm_spec.specs.Ends.{reading_limit}
use Rattle.mm_library.proofs.texts.read_part.Goals as goal

pub returns-clause-part_is : goal.returns-clause-part_is
returns-clause-part_is c =
    ap (λ (n : ℕ). take n c.args.text.now) c.min.ensures ∙ take_min reading_limit c.args.text.now
