use Rattle.std.proofs.Common.{rules, arith}
use Rattle.std.proofs.lemmas.Grind.{common_steps}
use Rattle.mm_lex.proofs.CutsLaw.{cut_place_le_length, cut_place_le_next}
use Rattle.mm_lex.proofs.batches.read_batch.Goals as goal

pub lex_piece-requires-clause-from_le_to : goal.lex_piece-requires-clause-from_le_to
lex_piece-requires-clause-from_le_to g c = search (rules, arith, cut_place_le_next)

pub lex_piece-requires-clause-to_le_length : goal.lex_piece-requires-clause-to_le_length
lex_piece-requires-clause-to_le_length g c = search (rules, arith, cut_place_le_length)

pub lex_piece-requires-in-loop-index-clause-from_le_to :
    goal.lex_piece-requires-in-loop-index-clause-from_le_to
lex_piece-requires-in-loop-index-clause-from_le_to g c = search (rules, arith, cut_place_le_next)

pub lex_piece-requires-in-loop-index-clause-to_le_length :
    goal.lex_piece-requires-in-loop-index-clause-to_le_length
lex_piece-requires-in-loop-index-clause-to_le_length g c =
    grind (arith, common_steps, cut_place_le_length, c.cut_place-to.ensures, c.requires.are_cuts)
