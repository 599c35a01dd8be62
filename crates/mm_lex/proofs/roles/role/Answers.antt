use Rattle.std.proofs.Common.{arith}
use Rattle.std.proofs.lemmas.Grind.{common_steps}
use Rattle.mm_lex.proofs.RolesLaw.{plain_word_is_token, plain_word_is_comment}
use Rattle.mm_lex.proofs.roles.role.Goals as goal

pub returns-in-true-true : goal.returns-in-true-true
returns-in-true-true c = grind (arith, common_steps, plain_word_is_comment, c.requires)

pub returns-in-true-false : goal.returns-in-true-false
returns-in-true-false c = grind (arith, common_steps, plain_word_is_token, c.requires)
