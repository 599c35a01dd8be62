use Rattle.std.proofs.Common.{◌<◌, ◌≤◌, ◌+◌, ◌∙◌, sym, subst, arith, Option, Some, None, length}
use Rattle.std.proofs.Common.{true≢false, List, ℕ}
use Rattle.mm_cites.specs.Citing.{IsStatementList}
use Rattle.std.specs.Option.{option_copied}
use Rattle.std.specs.Prelude.{slice_index}
use Rattle.mm_spec.specs.Output.{theorems, columns}
use Rattle.mm_shifts.specs.Resting.{IsNextMarked}
use Rattle.mm_shifts.proofs.ElementsLaw.{theorem_lt_length}
use Rattle.mm_shifts.proofs.ShiftedLaw.{one_more_shifted, no_more_shifted, skip_unmarked}
use Rattle.mm_shifts.proofs.shifts.list_theorem.Goals.{then-is_shifted+in_ok-push, else-is_shifted}
use Rattle.mm_shifts.proofs.shifts.list_theorem.Goals as goal

pub namesake-theorem_there-requires : goal.namesake-theorem_there-requires
namesake-theorem_there-requires g c =
    rw (c.theorems.ensures.theorems_are)
    (theorem_lt_length c.args.this.now.contents.statements c.args.row c.requires.row_lt_count)

pub loop-marked-preserved : goal.loop-marked-preserved
loop-marked-preserved g c =
    let this = c.args.this.now in
    let other = c.args.other.now in
    let axioms = columns this.contents.statements None in
    let n = slice_index (theorems this.contents.statements) c.args.row in
    let only = option_copied c.args.only in
    let column = c.loop-marked.column in
    let marked = c.in-Some.marked in
    let items = c.loop-marked.into.items in
    let rise : IsStatementList axioms =
    rw c.axioms-axioms.ensures.axioms_are at c.axioms-axioms.ensures.axioms_rise in
    let next : IsNextMarked this c.args.row column (Some marked) =
    subst (IsNextMarked this c.args.row column) c.in-Some.is c.next_marked.ensures in
    let up_to =
    skip_unmarked axioms rise this other only n column marked items next.0
    c.loop-marked.invariant.up_to next.3 in
    let within : marked + 1 ≤ length axioms = omega (arith, next.1) in
    elim c.if-is_shifted.branch [
      | then-is_shifted+in_ok-push w ↦
          rw (w.into-is, w.in_ok-push.ensures.items, c.axioms-axioms.ensures.axioms_are) (record {
            within = within;
            up_to = one_more_shifted axioms rise this other only n marked items next.1 up_to
                (c.is_shifted.ensures.0 w.if-is_shifted.true);
          })
      | else-is_shifted w ↦
          rw w.into-is (record {
            within = within;
            up_to = no_more_shifted axioms rise this other only n marked items up_to
                (λ shifted. true≢false (sym (c.is_shifted.ensures.1 shifted)
                ∙ w.if-is_shifted.false));
          })
    ]

pub returns : goal.returns
returns g c =
    let this = c.args.this.now in
    let axioms = columns this.contents.statements None in
    let column = c.loop-marked.column in
    let rise : IsStatementList axioms =
    rw c.axioms-axioms.ensures.axioms_are at c.axioms-axioms.ensures.axioms_rise in
    let none : IsNextMarked this c.args.row column None =
    subst (IsNextMarked this c.args.row column) c.in_default.is c.next_marked.ensures in
    skip_unmarked axioms rise this c.args.other.now (option_copied c.args.only)
    (slice_index (theorems this.contents.statements) c.args.row) column (length axioms)
    c.loop-marked.into.items c.loop-marked.invariant.within c.loop-marked.invariant.up_to none
