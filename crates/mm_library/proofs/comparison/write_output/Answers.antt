use Rattle.std.proofs.Common.{inl, inr}
use Rattle.mm_library.proofs.RefusalLaw.{new_refusal_is_comparison, old_refusal_is_comparison}
use Rattle.mm_library.proofs.FrontLaw.{contents_grow}
use Rattle.mm_library.proofs.comparison.write_output.Goals as goal

pub returns-in-Compared-clause-name_stays : goal.returns-in-Compared-clause-name_stays
returns-in-Compared-clause-name_stays g c =
    (contents_grow _ _ _ _ _ _ _ c.in-Compared.ensures.2.2).name_stays

pub returns-in-Compared-clause-before_stays : goal.returns-in-Compared-clause-before_stays
returns-in-Compared-clause-before_stays g c =
    (contents_grow _ _ _ _ _ _ _ c.in-Compared.ensures.2.2).before_stays

pub returns-in-Compared-clause-appends_output : goal.returns-in-Compared-clause-appends_output
returns-in-Compared-clause-appends_output g c =
    let ends = c.in-Compared.ensures in (
      (ends.0, ends.1),
      (ends.2.0, ends.2.1, (contents_grow _ _ _ _ _ _ _ ends.2.2).written_grows),
    )

pub returns-in-OldRefused-clause-name_stays : goal.returns-in-OldRefused-clause-name_stays
returns-in-OldRefused-clause-name_stays g c =
    (contents_grow _ _ _ _ _ _ _ c.in-OldRefused.ensures.1).name_stays

pub returns-in-OldRefused-clause-before_stays : goal.returns-in-OldRefused-clause-before_stays
returns-in-OldRefused-clause-before_stays g c =
    (contents_grow _ _ _ _ _ _ _ c.in-OldRefused.ensures.1).before_stays

pub returns-in-OldRefused-clause-appends_output : goal.returns-in-OldRefused-clause-appends_output
returns-in-OldRefused-clause-appends_output g c =
    let ends = c.in-OldRefused.ensures in (
      inl (c.in-OldRefused.field-0, ends.0),
      (
        _,
        old_refusal_is_comparison c.args.old_text.now c.args.new_text.now c.args.request.now
            c.in-OldRefused.field-0 ends.0,
        (contents_grow _ _ _ _ _ _ _ ends.1).written_grows,
      ),
    )

pub returns-in-NewRefused-clause-name_stays : goal.returns-in-NewRefused-clause-name_stays
returns-in-NewRefused-clause-name_stays g c =
    (contents_grow _ _ _ _ _ _ _ c.in-NewRefused.ensures.2).name_stays

pub returns-in-NewRefused-clause-before_stays : goal.returns-in-NewRefused-clause-before_stays
returns-in-NewRefused-clause-before_stays g c =
    (contents_grow _ _ _ _ _ _ _ c.in-NewRefused.ensures.2).before_stays

pub returns-in-NewRefused-clause-appends_output : goal.returns-in-NewRefused-clause-appends_output
returns-in-NewRefused-clause-appends_output g c =
    let ends = c.in-NewRefused.ensures in (
      inr (ends.0, (c.in-NewRefused.field-0, ends.1)),
      (
        _,
        new_refusal_is_comparison c.args.old_text.now c.args.new_text.now c.args.request.now
            c.in-NewRefused.field-0 ends.0 ends.1,
        (contents_grow _ _ _ _ _ _ _ ends.2).written_grows,
      ),
    )
