use Rattle.std.proofs.Common.{rules, nat_lt}
use Rattle.std.proofs.lemmas.List.Sorted.{IsPartitionPoint-from_clause}
use Rattle.mm_database.proofs.StartsLaw.{slice_is_partitioned, pair_before_point_is_before}
use Rattle.mm_database.proofs.StartsLaw.{pair_after_point_is_not_before}
use Rattle.mm_database.proofs.disjoint_index.count_before.Goals as goal

pub returns-clause-earlier_are_before : goal.returns-clause-earlier_are_before
returns-clause-earlier_are_before c =
    let is_point = IsPartitionPoint-from_clause (λ p. nat_lt p.1 c.args.at) _ _
    c.partition_point-earlier.ensures.partitioned (slice_is_partitioned _ c.requires.rising _
    c.args.at _ _ c.start_of-from.ensures c.start_of-to.ensures) (λ a r q k. search rules) in
    pair_before_point_is_before _ c.requires.rising _ c.args.at _ _ c.start_of-from.ensures
    c.start_of-to.ensures _ c.partition_point-earlier.ensures.bound is_point

pub returns-clause-later_are_not_before : goal.returns-clause-later_are_not_before
returns-clause-later_are_not_before c =
    let is_point = IsPartitionPoint-from_clause (λ p. nat_lt p.1 c.args.at) _ _
    c.partition_point-earlier.ensures.partitioned (slice_is_partitioned _ c.requires.rising _
    c.args.at _ _ c.start_of-from.ensures c.start_of-to.ensures) (λ a r q k. search rules) in
    pair_after_point_is_not_before _ c.requires.rising _ c.args.at _ _ c.start_of-from.ensures
    c.start_of-to.ensures _ c.partition_point-earlier.ensures.bound is_point
