use Rattle.std.proofs.Common.{ap, arith, length}
use Rattle.mm_spec.specs.Lexed.{tokens_of as words_of}
use Rattle.mm_outline.specs.Statements.{statements}
use Rattle.mm_database.specs.Names.{names_of}
use Rattle.mm_scope.proofs.NumberedLaw.{formulas_numbered}
use Rattle.mm_stmt.proofs.SoundLaw.{are_symbols}
use Rattle.mm_stmt.proofs.reading.reading_of.Goals as goal

pub into_reading-requires : goal.into_reading-requires
into_reading-requires g c =
    let outlined = c.args.outlined in
    let db = statements c.args.text.now (words_of c.args.text.now) outlined.outlines.items in
    let is_read_so_far = c.requires.is_read_so_far in
    let symbols =
    are_symbols _ _ _ _ is_read_so_far.knows (names_of outlined.scope.names.symbols)
    c.in_ok-variable_flags.variable_flags.items is_read_so_far.names_are
    c.in_ok-variable_flags.ensures.count_is c.in_ok-variable_flags.ensures.flags_are in
    let name_count_is = ap length is_read_so_far.names_are in
    let symbols_are_few = c.requires.few_symbols in
    let flag_count_is = c.in_ok-variable_flags.ensures.count_is in
    record {
      are_places = is_read_so_far.formulas.are_bounds;
      are_parsed_statements = record {
        sound = c.requires.sound;
        blocks = is_read_so_far.knows.blocks;
        numbered = rw is_read_so_far.formulas.cut_is_lists (formulas_numbered db);
        few_symbols = omega (arith, symbols_are_few, flag_count_is);
        count = omega (arith, flag_count_is, name_count_is);
        variable = λ s s_lt_count. symbols.kinds_tell_variables s
            (omega (arith, s_lt_count, name_count_is));
      };
    }
