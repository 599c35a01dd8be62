use Rattle.std.proofs.Common.{◌∙◌, length, ap, sym, subst, refl}
use Rattle.mm_spec.specs.Lexed.{lexed_of}
use Rattle.mm_spec.specs.Output.{IsRead}
use Rattle.mm_database.specs.Database.{Contents}
use Rattle.mm_stmt.proofs.unframed.database_of.Goals as goal

pub new-requires : goal.new-requires
new-requires g c =
    c.requires.is_unframed.frames_complete_it c.args.frame_tables c.requires.are_frame_tables

pub returns : goal.returns
returns g c =
    let text = c.args.text.now in
    let contents_are = c.new.ensures in
    record {
      text_is = ap (λ (d : Contents). d.text) contents_are ∙ c.requires.is_unframed.text_is;
      flag_is = ap (λ (d : Contents). d.with_open) contents_are;
      is_read =
          subst (λ (d : Contents). IsRead (length text) (lexed_of text) d.read d.fault)
          (sym contents_are) c.requires.is_unframed.is_read;
      are_counted = rw contents_are refl;
    }
