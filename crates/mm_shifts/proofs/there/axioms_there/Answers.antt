use Rattle.std.proofs.Common.{ℕ, Option, None, length-append, arith}
use Rattle.std.specs.Prelude.{slice_index}
use Rattle.mm_spec.specs.Output.{columns}
use Rattle.mm_compare.specs.Sides.{IsTheSame}
use Rattle.mm_shifts.specs.Resting.{side_in}
use Rattle.mm_shifts.proofs.ElementsLaw.{element_is_assertion, element_lt_length}
use Rattle.mm_shifts.proofs.ShiftedLaw.{each_push}
use Rattle.mm_shifts.proofs.there.axioms_there.Goals as goal

pub find_same-requires-clause-k_lt_length : goal.find_same-requires-clause-k_lt_length
find_same-requires-clause-k_lt_length g c =
    rw (c.database.ensures, c.axioms-axioms.ensures.axioms_are)
    (element_lt_length c.args.this.now.contents.statements c.loop-i.i
    (rw c.axioms-axioms.ensures.axioms_are at c.loop-i-test.true))

pub find_same-requires-clause-is_assertion : goal.find_same-requires-clause-is_assertion
find_same-requires-clause-is_assertion g c =
    rw (c.database.ensures, c.axioms-axioms.ensures.axioms_are)
    (element_is_assertion c.args.this.now.contents.statements c.loop-i.i
    (rw c.axioms-axioms.ensures.axioms_are at c.loop-i-test.true))

pub find_same-requires-clause-are_known : goal.find_same-requires-clause-are_known
find_same-requires-clause-are_known g c =
    rw (c.database.ensures, c.database-in-loop-i.ensures) c.loop-i.invariant.are_known

pub loop-i-preserved : goal.loop-i-preserved
loop-i-preserved g c =
    let axioms = columns c.args.this.now.contents.statements None in
    let pushed = c.in_ok-push.ensures.items in
    let same : IsTheSame (side_in c.args.this.now) (slice_index axioms c.loop-i.i)
    (side_in c.args.other.now) c.find_same.result =
    rw (c.database.ensures, c.database-in-loop-i.ensures, c.axioms-axioms.ensures.axioms_are)
    at c.find_same.ensures.is_the_same in
    let count = c.loop-i.invariant.count_is in
    record {
      are_known = rw (c.database.ensures, c.database-in-loop-i.ensures)
          at c.find_same.ensures.are_known;
      count_is = rw (pushed, length-append) (omega (arith, count));
      each_is_same = rw pushed
          (each_push (λ (j : ℕ) (x : Option ℕ). IsTheSame (side_in c.args.this.now)
          (slice_index axioms j) (side_in c.args.other.now) x) c.loop-i.there.items
          c.find_same.result None c.loop-i.i count c.loop-i.invariant.each_is_same same);
    }
