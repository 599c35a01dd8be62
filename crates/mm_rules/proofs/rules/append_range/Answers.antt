use Rattle.std.proofs.Common.{rules, arith}
use Rattle.std.proofs.lemmas.Result.{IfOk-from_err}
use Rattle.mm_rules.proofs.rules.append_range.Goals as goal

pub returns-in_err-extend_from_slice-clause-appends_elements :
    goal.returns-in_err-extend_from_slice-clause-appends_elements
returns-in_err-extend_from_slice-clause-appends_elements g c = search (rules, arith, IfOk-from_err)

pub returns-in_err-extend_from_slice-clause-start_is :
    goal.returns-in_err-extend_from_slice-clause-start_is
returns-in_err-extend_from_slice-clause-start_is g c = search (rules, arith, IfOk-from_err)
