use Rattle.std.proofs.Common.{rules, arith}
use Rattle.mm_machine.proofs.FilledLaw.{listed_more, listed_too_long}
use Rattle.mm_machine.proofs.symbol_lists.list_filled_symbols.Goals as goal

pub loop-part-preserved : goal.loop-part-preserved
loop-part-preserved g c = search (rules, arith, listed_more)

pub returns-then-len-gt-FORMULA_LIMIT-clause-is_too_long :
    goal.returns-then-len-gt-FORMULA_LIMIT-clause-is_too_long
returns-then-len-gt-FORMULA_LIMIT-clause-is_too_long g c = search (rules, arith, listed_too_long)
