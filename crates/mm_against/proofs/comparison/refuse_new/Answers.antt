use Rattle.mm_against.proofs.WrittenLaw.{new_refusal_begun}
use Rattle.mm_against.proofs.comparison.refuse_new.Goals as goal

pub returns-in-Err : goal.returns-in-Err
returns-in-Err g c = λ and_report old request old_is_sound is_first.
    let begun = c.in-Err.ensures.prefix_is_written in
    new_refusal_begun and_report old c.args.text.now request c.args.fault begun.0 _ _ old_is_sound
    is_first begun.1
