use Rattle.std.proofs.Common.{rules, arith}
use Rattle.mm_spec.proofs.LexedLaw.{tokens_of_read, lexical_fault_read}
use Rattle.mm_lex.proofs.PiecesLaw.{reading_of_whole_text}
use Rattle.mm_lex.proofs.pieces.Piece.into_lexed.Goals as goal

pub returns-clause-tokens_are : goal.returns-clause-tokens_are
returns-clause-tokens_are g c text is_whole_text =
    search (rules, arith, tokens_of_read, reading_of_whole_text)

pub returns-clause-fault_is : goal.returns-clause-fault_is
returns-clause-fault_is g c text is_whole_text =
    search (rules, arith, lexical_fault_read, reading_of_whole_text)
