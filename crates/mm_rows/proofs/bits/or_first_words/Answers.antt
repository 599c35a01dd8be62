use Rattle.mm_rows.proofs.OredLaw.{first_words_are_ored}
use Rattle.mm_rows.proofs.bits.or_first_words.Goals as goal

pub returns : goal.returns
returns c =
    first_words_are_ored c.args.into.now c.args.from.now c.or_row.new.into c.args.end
    c.requires.same_length c.requires.ends_at c.or_row.auto.into c.or_row.ensures
