use Rattle.std.proofs.Common.{◌∙◌, ◌++◌, ◌∷◌, [], sym, ap₂}
use Rattle.mm_outline.specs.Parts.{outline}
use Rattle.mm_outline.specs.declared.parts.Kind.TheVariants.{Constants}
use Rattle.mm_database.proofs.KindsLaw.{kinds_push}
use Rattle.mm_stmt.proofs.kinds.kinds_of.Goals as goal

pub loop-outline-preserved : goal.loop-outline-preserved
loop-outline-preserved g c =
    c.in_ok-push.ensures.items
    ∙ ap₂ (λ xs x. xs ++ x ∷ []) c.loop-outline.invariant c.counted_kind.ensures
    ∙ sym (kinds_push c.args.text.now c.args.tokens.now c.args.outlines.now c.args.with_open
    c.loop-outline.outline-index (outline Constants 0 0 0) c.loop-outline-test.true)
