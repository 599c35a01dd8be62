use Rattle.std.proofs.Common.{◌≡◌, ◌^◌, ◌<◌, List, sym, ap, subst, length, refl, arith}
use Rattle.std.proofs.lemmas.List.{length-map}
use Rattle.mm_spec.specs.Lexed.{tokens_of as words_of, lexed_of}
use Rattle.mm_spec.specs.declared.Word.{Word}
use Rattle.mm_spec.specs.Output.{IsRead}
use Rattle.mm_outline.specs.Parts.{statement_of}
use Rattle.mm_outline.specs.Statements.{statements}
use Rattle.mm_outline.proofs.TokensLaw.{tokens_are_in_text}
use Rattle.mm_outline.proofs.TokensLaw.{tokens_lt_2_31}
use Rattle.mm_database.specs.Names.{names_of}
use Rattle.mm_database.specs.FrameTables.{AreFrameTables}
use Rattle.mm_database.specs.Database.{IsDatabase, AreStatementLists}
use Rattle.mm_database.specs.declared.reading.Reading.{Reading}
use Rattle.mm_database.proofs.RetainedWordsLaw.{retained_words_are_of_statements}
use Rattle.mm_scope.specs.ReadSoFar.{IsReadSoFar, read_so_far}
use Rattle.mm_database.specs.ParsedStatements.{IsSound}
use Rattle.mm_spec.specs.Opened.{open_as_axioms}
use Rattle.mm_stmt.proofs.AssembleLaw.{lent_words_are_read, names_lt_2_31, statements_are_sound}
use Rattle.mm_stmt.proofs.unframed.unframed_of.Goals as goal

pub reading_of-requires : goal.reading_of-requires
reading_of-requires g c =
    let text = c.args.text.now in
    let ws = c.args.tokens.items in
    let os = c.args.outlined.outlines.items in
    let words_are_tokens = c.requires.are_tokens in
    let read = c.requires.is_read in
    let words_lt_2_31 =
    subst (λ (ws : List Word). length ws < 2 ^ 31) (sym words_are_tokens) (tokens_lt_2_31 text) in
    record {
      sound =
          subst (λ (ws : List Word). IsSound (statements text ws os)) words_are_tokens
          (statements_are_sound text ws os _ _ read.fault_is_read words_lt_2_31 _ _ _
          read.is_read_so_far.knows read.few_outlines);
      is_read_so_far =
          subst (λ (ws : List Word). IsReadSoFar (statements text ws os)
          (read_so_far c.args.outlined)) words_are_tokens read.is_read_so_far;
      few_symbols =
          names_lt_2_31 text ws os _ _ read.fault_is_read words_lt_2_31
          (names_of c.args.outlined.scope.names.symbols) read.is_read_so_far.names_are;
    }

pub returns : goal.returns
returns g c =
    let text = c.args.text.now in
    let words = words_of text in
    let ws = c.args.tokens.items in
    let read = c.requires.is_read in
    let os = c.args.outlined.outlines.items in
    let w = c.args.with_open in
    let words_are_tokens : ws ≡ words = c.requires.are_tokens in
    let is_read_so_far =
    subst (λ (us : List Word). IsReadSoFar (statements text us os) (read_so_far c.args.outlined))
    words_are_tokens read.is_read_so_far in
    let statement_lists =
    subst (λ (us : List Word). AreStatementLists (open_as_axioms w (statements text us os))
    c.args.listed.statement_lists) words_are_tokens read.is_listed.lists_are in
    let is_read_text =
    lent_words_are_read text ws words os _ _ words_are_tokens refl refl read.fault_is_read in
    let reading_is = c.in_ok-reading.ensures in
    record {
      text_is = ap (λ (r : Reading _). r.statements.text) reading_is;
      is_read =
          subst (λ (r : Reading _). IsRead (length text) (lexed_of text)
          r.statements.list r.fault) (sym reading_is) is_read_text;
      frames_complete_it = λ b are_frame_tables.
          subst (λ (r : Reading _). IsDatabase w r (record {
            frame_tables = b;
            statement_lists = c.args.listed.statement_lists;
            retained_words = c.args.listed.retained_words;
          })) (sym reading_is)
          (record {
            few_statements = let outline_count_is = length-map os (statement_of text words) in
                let outlines_are_few = read.few_outlines in
                omega (arith, outline_count_is, outlines_are_few);
            is_read = is_read_text;
            labels_are = is_read_so_far.knows.labels_are;
            names_are = is_read_so_far.names_are;
            frame_tables_are =
                subst (λ (r : Reading _). AreFrameTables r.statements.list r.statements.blocks b)
                reading_is are_frame_tables;
            lists_are = statement_lists;
            retained_are =
                rw (read.is_listed.words_are, words_are_tokens)
                (retained_words_are_of_statements text words (tokens_are_in_text text) os
                (rw (sym words_are_tokens) read.are_outlines));
          });
    }
