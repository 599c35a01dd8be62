use Rattle.std.proofs.Common.{rules, arith, set}
use Rattle.std.proofs.lemmas.Grind.{common_steps}
use Rattle.std.proofs.lemmas.Bool.Decides.{nat_tests}
use Rattle.mm_spec.proofs.MemberLaw.{member_push}
use Rattle.mm_frame.proofs.StampsLaw.{stamps_with_symbol, stamped_is_member, listed_with_new}
use Rattle.mm_frame.proofs.StampsLaw.{listed_is_unchanged, not_listed_is_unchanged}
use Rattle.mm_frame.proofs.hypotheses.add_variable.Goals as goal

pub returns-in_ok-push-clause-are_stamps : goal.returns-in_ok-push-clause-are_stamps
returns-in_ok-push-clause-are_stamps g c = grind (arith, common_steps, set, stamps_with_symbol)

pub returns-in_ok-push-clause-variable_is_added : goal.returns-in_ok-push-clause-variable_is_added
returns-in_ok-push-clause-variable_is_added g c =
    search (rules, arith, member_push, listed_with_new)

pub returns-else-index-stamp-clause-variable_is_added :
    goal.returns-else-index-stamp-clause-variable_is_added
returns-else-index-stamp-clause-variable_is_added g c =
    grind (arith, common_steps, listed_is_unchanged, stamped_is_member)

pub returns-else-is_variable-clause-variable_is_added :
    goal.returns-else-is_variable-clause-variable_is_added
returns-else-is_variable-clause-variable_is_added g c =
    grind (arith, nat_tests, not_listed_is_unchanged, c.is_variable.ensures, c.if-is_variable.false)
