use Rattle.std.proofs.Common.{rules, arith}
use Rattle.mm_check.proofs.EndLaw.{many_entries_code, other_formula_code}
use Rattle.mm_check.proofs.checker.test_end.Goals as goal

pub returns-then-not-has_one_entry-clause-is_end_refusal :
    goal.returns-then-not-has_one_entry-clause-is_end_refusal
returns-then-not-has_one_entry-clause-is_end_refusal g c = search (rules, arith, many_entries_code)

pub returns-then-not-is_only-clause-is_end_refusal :
    goal.returns-then-not-is_only-clause-is_end_refusal
returns-then-not-is_only-clause-is_end_refusal g c = search (rules, arith, other_formula_code)
