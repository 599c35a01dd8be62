use Rattle.std.proofs.Common.{◌≤◌, length, slice_index, subst, arith, eqb-true}
use Rattle.mm_frame.specs.Latest.{is_frame_part, IsLatest}
use Rattle.mm_frame.proofs.NeighboursLaw.{same_scope_of_latest}
use Rattle.mm_frame.proofs.neighbours.is_same_scope.Goals as goal

pub returns : goal.returns
returns g c = λ is_equal.
    let db = c.args.sources.now.statements.now.list in
    let parts = c.args.sources.now.frame_parts.now in
    let p = c.args.previous in
    let k = c.args.assertion in
    let latest = c.requires.are_sources.frame_parts_are in
    let k_lt_length = c.requires.assertion_lt_length in
    let is_some = c.if-previous-eq-NEVER.false in
    let p_lt_k = c.requires.previous_lt_assertion is_some in
    let same_part = eqb-true (slice_index parts p) (slice_index parts k) is_equal in
    let p_le_length : p ≤ length db = omega (arith, p_lt_k, k_lt_length) in (
      is_some,
      same_scope_of_latest db p k (slice_index parts k) p_lt_k
          (subst (IsLatest is_frame_part db p) same_part (latest.each_is_latest p p_le_length))
          (latest.each_is_latest k (omega (arith, k_lt_length))),
    )
