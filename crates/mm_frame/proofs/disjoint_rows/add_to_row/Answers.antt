use Rattle.mm_frame.proofs.DisjointRowsLaw.{row_with_pair, row_without_pair, pushed_have_blocks}
use Rattle.mm_frame.proofs.disjoint_rows.add_to_row.Goals as goal

pub returns-in_ok-push-clause-row_has_blocks : goal.returns-in_ok-push-clause-row_has_blocks
returns-in_ok-push-clause-row_has_blocks g c =
    pushed_have_blocks c.args.blocks.now c.args.pair c.args.row.now.items c.push.new.self.items
    c.in_ok-push.ensures.items c.requires.row_has_blocks c.requires.pair_has_block

pub returns-in_ok-push-clause-adds_to_row : goal.returns-in_ok-push-clause-adds_to_row
returns-in_ok-push-clause-adds_to_row g c passes is_last is_row_for =
    row_with_pair c.args.blocks.now c.args.pair c.args.row.now.items c.requires.pair_has_block
    (rw c.deref.ensures.value at c.is_covered_by_last.ensures.ends_later_if_false
    c.if-not-is_covered_by_last.true)
    passes is_last is_row_for c.push.new.self.items c.in_ok-push.ensures.items

pub returns-else-not-is_covered_by_last-clause-adds_to_row :
    goal.returns-else-not-is_covered_by_last-clause-adds_to_row
returns-else-not-is_covered_by_last-clause-adds_to_row g c passes is_last is_row_for =
    let covered = rw c.deref.ensures.value at c.is_covered_by_last.ensures.covered_if_true
    c.if-not-is_covered_by_last.false in
    row_without_pair c.args.blocks.now c.args.pair c.args.row.now.items covered.0 covered.1
    covered.2 passes is_last is_row_for
