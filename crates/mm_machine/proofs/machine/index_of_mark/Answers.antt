use Rattle.mm_machine.proofs.MarksLaw.{present_is_found}
use Rattle.mm_machine.proofs.machine.index_of_mark.Goals as goal

pub returns-in-Err-clause-index_lt_length : goal.returns-in-Err-clause-index_lt_length
returns-in-Err-clause-index_lt_length c =
    absurd (present_is_found c.args.marks.now c.args.mark c.in-Err.gap c.in-Err.ensures.position
    c.requires.marks_rise c.requires.has_mark)

pub returns-in-Err-clause-finds_mark : goal.returns-in-Err-clause-finds_mark
returns-in-Err-clause-finds_mark c =
    absurd (present_is_found c.args.marks.now c.args.mark c.in-Err.gap c.in-Err.ensures.position
    c.requires.marks_rise c.requires.has_mark)
