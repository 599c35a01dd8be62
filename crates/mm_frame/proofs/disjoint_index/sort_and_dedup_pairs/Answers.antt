use Rattle.std.proofs.Common.{rules, arith}
use Rattle.std.proofs.lemmas.List.Filters.{dedup_is}
use Rattle.mm_frame.proofs.PairsLaw.{deduped_is_rising, sorting_keeps_pairs}
use Rattle.mm_frame.proofs.disjoint_index.sort_and_dedup_pairs.Goals as goal

pub returns-clause-rising : goal.returns-clause-rising
returns-clause-rising g c = search (rules, arith, deduped_is_rising, dedup_is)

pub returns-clause-members_stay : goal.returns-clause-members_stay
returns-clause-members_stay g c = search (rules, arith, sorting_keeps_pairs, dedup_is)
