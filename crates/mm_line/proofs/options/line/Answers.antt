use Rattle.std.proofs.Common.{refl}
use Rattle.mm_line.proofs.LineLaw.{line_is_read}
use Rattle.mm_line.proofs.options.line.Goals as goal

pub returns-clause-is_read : goal.returns-clause-is_read
returns-clause-is_read g c =
    let pieces = c.number_in.ensures in
    let workers = c.number_in-2.ensures in
    line_is_read _ c.in_ok-matches.matches c.in_ok-matches.ensures.are_found _ c.number_in.result
    refl
    pieces.is_number pieces.number_ge_1 pieces.number_le_64 workers.is_number workers.number_ge_1
    workers.number_le_64
    c.in_ok-text_in.ensures c.sections_in.ensures c.form_in.ensures
    (c.get_flag.ensures.none, c.get_flag.ensures.value, c.get_flag.ensures.other)
    (c.get_flag-2.ensures.none, c.get_flag-2.ensures.value, c.get_flag-2.ensures.other)
    (c.get_flag-3.ensures.none, c.get_flag-3.ensures.value, c.get_flag-3.ensures.other)
    c.in_ok-against.ensures c.in_ok-file.ensures
