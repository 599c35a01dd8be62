use Rattle.std.proofs.Common.{rules, arith}
use Rattle.mm_lex.proofs.RolesLaw.{keyword_is_token, clean_word_is_token, unclean_word_is_no_token}
use Rattle.mm_lex.proofs.roles.is_token.Goals as goal

pub returns-then-is_keyword : goal.returns-then-is_keyword
returns-then-is_keyword c = search (rules, arith, keyword_is_token)

pub returns-then-is_clean : goal.returns-then-is_clean
returns-then-is_clean c = search (rules, arith, clean_word_is_token)

pub returns-else-is_clean : goal.returns-else-is_clean
returns-else-is_clean c = search (rules, arith, unclean_word_is_no_token)
