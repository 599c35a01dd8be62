use Rattle.std.proofs.Common.{arith}
use Rattle.std.proofs.lemmas.Grind.{common_steps}
use Rattle.mm_spec.proofs.LexedLaw.{tokens_of_long, lexical_fault_long}
use Rattle.mm_lex.proofs.lexed_too_long.Goals as goal

pub returns-clause-tokens_are : goal.returns-clause-tokens_are
returns-clause-tokens_are g c = grind (arith, common_steps, tokens_of_long, c.new.ensures.items)

pub returns-clause-fault_is : goal.returns-clause-fault_is
returns-clause-fault_is g c = grind (arith, common_steps, lexical_fault_long)
