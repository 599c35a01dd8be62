use Rattle.std.proofs.Common.{◌≤◌, ℕ, List, [], None, length, length-append, arith}
use Rattle.std.specs.Prelude.{slice_index}
use Rattle.std.specs.Option.{option_copied}
use Rattle.mm_spec.specs.Output.{theorems, columns}
use Rattle.mm_spec.specs.Comparison.{AreShifted}
use Rattle.mm_shifts.specs.Resting.{Rests, side_in}
use Rattle.mm_shifts.proofs.ShiftedLaw.{each_push, all_are_shifted}
use Rattle.mm_shifts.proofs.shifts.list_shifts.Goals as goal

pub loop-row-preserved : goal.loop-row-preserved
loop-row-preserved g c =
    let r = c.args.this.now in
    let other = c.args.other.now in
    let only = option_copied c.args.only in
    let axioms = columns r.contents.statements None in
    let pushed = c.in_ok-push.ensures.list_is_added in
    let count = c.loop-row.invariant.count_is in
    let listed = c.in_ok-list_theorem.ensures in
    record {
      count_is = rw (pushed, length-append) (omega (arith, count));
      each_is_shifted = rw (pushed, c.deref-in-loop-row.ensures.value)
          (each_push (λ (i : ℕ) (list : List ℕ). AreShifted (Rests r) (Rests other) only
          (side_in r) (side_in other) (slice_index (theorems r.contents.statements) i) list)
          c.loop-row.lists c.list_theorem.new.into.items [] c.loop-row.row count
          c.loop-row.invariant.each_is_shifted
          (all_are_shifted r other only
          (slice_index (theorems r.contents.statements) c.loop-row.row)
          c.list_theorem.new.into.items listed));
    }

pub returns : goal.returns
returns g c =
    let r = c.args.this.now in
    let theorem_count : length (theorems r.contents.statements) ≤ c.loop-row.row =
    rw c.theorems-row-end.ensures.theorems_are at c.loop-row-test.false in
    let at_most : c.loop-row.row ≤ length (theorems r.contents.statements) =
    rw c.theorems-row-end.ensures.theorems_are at c.loop-row.auto.row-end in
    let count = c.loop-row.invariant.count_is in
    record {
      count_is = omega (arith, count);
      each_is_shifted = λ i i_lt_length. c.loop-row.invariant.each_is_shifted i (omega arith);
    }
