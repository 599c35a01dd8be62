use Rattle.mm_machine.proofs.MarksLaw.{present_is_found}
use Rattle.mm_machine.proofs.distinct.index_of_body.Goals as goal

pub returns-in-Err-clause-index_lt_length : goal.returns-in-Err-clause-index_lt_length
returns-in-Err-clause-index_lt_length c =
    absurd (present_is_found c.args.listed.now c.args.body c.in-Err.gap c.in-Err.ensures.position
    c.requires.listed_rise c.requires.is_listed)

pub returns-in-Err-clause-finds_body : goal.returns-in-Err-clause-finds_body
returns-in-Err-clause-finds_body c =
    absurd (present_is_found c.args.listed.now c.args.body c.in-Err.gap c.in-Err.ensures.position
    c.requires.listed_rise c.requires.is_listed)
