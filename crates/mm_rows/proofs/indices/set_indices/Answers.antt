use Rattle.std.proofs.Common.{refl, arith, ◌∙◌}
use Rattle.std.proofs.lemmas.List.{length-set}
use Rattle.mm_rows.proofs.IndicesLaw.{nothing_is_indexed, next_is_indexed}
use Rattle.mm_rows.proofs.indices.set_indices.Goals as goal

pub loop-index-init : goal.loop-index-init
loop-index-init c =
    (refl, nothing_is_indexed c.args.statements.now c.args.indices.now c.requires.none_set)

pub loop-index-preserved : goal.loop-index-preserved
loop-index-preserved c =
    let size_is_kept = c.loop-index.invariant.0 in
    let statement_has_room = c.requires.fits c.loop-index.index c.loop-index-test.true in (
      length-set c.loop-index.indices _ _ ∙ size_is_kept,
      next_is_indexed c.args.statements.now c.loop-index.indices c.loop-index.index
          c.requires.statements_rise
          c.loop-index-test.true (omega (arith, statement_has_room, size_is_kept))
          c.loop-index.invariant.1,
    )
