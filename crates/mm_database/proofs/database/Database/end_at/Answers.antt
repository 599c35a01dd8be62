use Rattle.std.proofs.Common.{rules, arith}
use Rattle.mm_database.proofs.RetainedWordsLaw.{k_lt_retained_count, some_are_retained}
use Rattle.mm_database.proofs.RetainedWordsLaw.{last_is_retained}
use Rattle.mm_database.proofs.database.Database.end_at.Goals as goal

pub get-words-requires : goal.get-words-requires
get-words-requires g c = search (rules, arith, k_lt_retained_count)

pub overflow_sub-result : goal.overflow_sub-result
overflow_sub-result g c = search (rules, arith, some_are_retained)

pub bounds-words-words : goal.bounds-words-words
bounds-words-words g c = let words_gt_0 = overflow_sub-result g c in omega (arith, words_gt_0)

pub returns : goal.returns
returns g c = search (rules, arith, last_is_retained)
