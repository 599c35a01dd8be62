use Rattle.std.proofs.Common.{◌≡◌, ◌≤◌, arith, rules}
use Rattle.mm_scope.proofs.StretchesLaw.{found_with_stretch, depth_with_stretch_le}
use Rattle.mm_scope.proofs.stretches.with_stretch.Goals as goal
use Rattle.mm_scope.proofs.stretches.with_stretch.Goals.{then-stretch-both+then-blocks-both+in_ok-extend_from_slice}
use Rattle.mm_scope.proofs.stretches.with_stretch.Goals.{else-stretch-both}

pub overflow_add-both : goal.overflow_add-both
overflow_add-both g c =
    let before = c.args.before in
    let stretch = c.args.stretch in
    let is_before = c.requires.are_before in
    let is_stretch = c.requires.is_stretch in
    let same : stretch.from ≡ before.token_index = search rules in
    let closed_le : stretch.blocks.closed ≤ before.depth = search rules in
    let le =
    depth_with_stretch_le c.args._text.now c.args._tokens.now before.outlines.items before.depth
    before.token_index is_before.are_found stretch.blocks stretch.from stretch.outlines.items
    stretch.to is_stretch.are_found same closed_le in
    let to_le = is_stretch.to_le_count in
    omega (arith, le, to_le)

pub returns : goal.returns
returns g c =
    let before = c.args.before in
    let stretch = c.args.stretch in
    let is_before = c.requires.are_before in
    let is_stretch = c.requires.is_stretch in
    elim c.if-stretch-both.branch [
      | then-stretch-both+then-blocks-both+in_ok-extend_from_slice w ↦
          let same : stretch.from ≡ before.token_index = search rules in
          let closed_le : stretch.blocks.closed ≤ before.depth = search rules in
          rw w.both-is (record {
            index_le_count = is_stretch.to_le_count;
            are_found =
                rw (w.in_ok-extend_from_slice.ensures.items, w.deref.ensures.value)
                (found_with_stretch c.args._text.now c.args._tokens.now before.outlines.items
                before.depth before.token_index is_before.are_found stretch.blocks stretch.from
                stretch.outlines.items stretch.to is_stretch.are_found same closed_le);
          })
      | else-stretch-both w ↦ rw w.both-is is_before
    ]
