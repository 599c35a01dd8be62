use Rattle.std.proofs.Common.{rules, arith, lt-ltb, le-ltb}
use Rattle.mm_lex.proofs.PiecesLaw.{readings_of_three_lists, append_reading_nil}
use Rattle.mm_lex.proofs.pieces.join_between.Goals as goal
use Rattle.mm_lex.proofs.pieces.join_between.Goals.{then-before-after+in_ok-read_word+in_ok-read_word-2}
use Rattle.mm_lex.proofs.pieces.join_between.Goals.{else-before-after}

pub returns-clause-are_joined : goal.returns-clause-are_joined
returns-clause-are_joined g c ws us readings_before readings_after =
    search (
      rules,
      arith,
      then-before-after+in_ok-read_word+in_ok-read_word-2,
      lt-ltb,
      else-before-after,
      le-ltb,
      append_reading_nil,
      readings_of_three_lists,
    )
