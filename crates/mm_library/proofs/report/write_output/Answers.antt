use Rattle.mm_library.proofs.FrontLaw.{contents_grow}
use Rattle.mm_library.proofs.report.write_output.Goals as goal

pub returns-in-Accepted-clause-name_stays : goal.returns-in-Accepted-clause-name_stays
returns-in-Accepted-clause-name_stays g c =
    (contents_grow _ _ _ _ _ _ _ c.in-Accepted.ensures.1.2).name_stays

pub returns-in-Accepted-clause-before_stays : goal.returns-in-Accepted-clause-before_stays
returns-in-Accepted-clause-before_stays g c =
    (contents_grow _ _ _ _ _ _ _ c.in-Accepted.ensures.1.2).before_stays

pub returns-in-Accepted-clause-appends_output : goal.returns-in-Accepted-clause-appends_output
returns-in-Accepted-clause-appends_output g c =
    let output = c.in-Accepted.ensures.1 in (
      c.in-Accepted.ensures.0,
      (output.0, output.1, (contents_grow _ _ _ _ _ _ _ output.2).written_grows),
    )

pub returns-in-Refused-clause-name_stays : goal.returns-in-Refused-clause-name_stays
returns-in-Refused-clause-name_stays g c =
    (contents_grow _ _ _ _ _ _ _ c.in-Refused.ensures.2).name_stays

pub returns-in-Refused-clause-before_stays : goal.returns-in-Refused-clause-before_stays
returns-in-Refused-clause-before_stays g c =
    (contents_grow _ _ _ _ _ _ _ c.in-Refused.ensures.2).before_stays

pub returns-in-Refused-clause-appends_output : goal.returns-in-Refused-clause-appends_output
returns-in-Refused-clause-appends_output g c =
    let ends = c.in-Refused.ensures in (
      (c.in-Refused.field-0, ends.0),
      (_, ends.1, (contents_grow _ _ _ _ _ _ _ ends.2).written_grows),
    )
