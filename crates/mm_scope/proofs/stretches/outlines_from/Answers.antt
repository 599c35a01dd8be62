use Rattle.mm_scope.proofs.StretchesLaw.{stretch_with_next}
use Rattle.mm_scope.proofs.stretches.outlines_from.Goals as goal
use Rattle.mm_scope.proofs.stretches.outlines_from.Goals.{in-Whole+in_ok-push+then-outline-end+then-ends_with_dot}
use Rattle.mm_scope.proofs.stretches.outlines_from.Goals.{in_default}

pub statements-preserved : goal.statements-preserved
statements-preserved g c =
    rw (c.in_ok-push.ensures.items, c.blocks_with-blocks.ensures)
    (stretch_with_next c.args.text.now c.args.tokens.now c.requires.are_tokens
    c.requires.tokens_rise c.statements.blocks c.args.from c.statements.outlines.items
    c.statements.to c.statements.invariant c.in-Whole.outline c.in-Whole.ensures)

pub returns : goal.returns
returns g c =
    elim c.match-next_statement.branch [
      | in-Whole+in_ok-push+then-outline-end+then-ends_with_dot w ↦
          let so_far =
          stretch_with_next c.args.text.now c.args.tokens.now c.requires.are_tokens
          c.requires.tokens_rise c.statements.blocks c.args.from c.statements.outlines.items
          c.statements.to c.statements.invariant w.in-Whole.outline w.in-Whole.ensures in
          rw (w.outlines-is, w.blocks-is, w.to-is) (record {
            to_le_count = so_far.to_le_count;
            are_found =
                rw (w.in_ok-push.ensures.items, w.blocks_with-blocks.ensures) so_far.are_found;
          })
      | in_default w ↦
          let so_far = c.statements.invariant in
          rw (w.outlines-is, w.blocks-is, w.to-is)
          (record { to_le_count = so_far.to_le_count; are_found = so_far.are_found })
    ]
