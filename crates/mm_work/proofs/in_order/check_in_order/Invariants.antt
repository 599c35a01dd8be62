use Rattle.mm_check.specs.Checker.{IsMadeFor}
use Rattle.mm_spec.specs.Output.{theorems}
use Rattle.mm_work.specs.Judged.{HaveCitationsUpTo}
use Rattle.mm_work.proofs.in_order.check_in_order.Given as goal

abbrev pub invariant-loop-theorem : goal.invariant-loop-theorem
invariant-loop-theorem g l = record {
  made_for : IsMadeFor l.database.statements l.checker;
  have_citations : HaveCitationsUpTo l.database.statements l.essential
      (theorems l.database.statements) l.theorem-index l.lists;
}
