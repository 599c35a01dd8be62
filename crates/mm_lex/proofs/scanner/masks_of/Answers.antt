use Rattle.std.proofs.Common.{rules, arith}
use Rattle.mm_lex.proofs.BlockLaw.{no_stop_is_not_white, no_stop_is_plain}
use Rattle.mm_lex.proofs.scanner.masks_of.Goals as goal

pub returns-clause-others_are_plain : goal.returns-clause-others_are_plain
returns-clause-others_are_plain c = search (rules, arith, no_stop_is_plain)

pub returns-clause-others_not_white : goal.returns-clause-others_not_white
returns-clause-others_not_white c = search (rules, arith, no_stop_is_not_white)
