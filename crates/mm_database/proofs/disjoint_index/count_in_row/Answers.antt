use Rattle.std.proofs.Common.{rules, arith}
use Rattle.std.proofs.lemmas.List.Sorted.{IsPartitionPoint-from_clause}
use Rattle.mm_database.specs.Pairs.{is_pair_before}
use Rattle.mm_database.proofs.RowSearchLaw.{row_is_partitioned}
use Rattle.mm_database.proofs.disjoint_index.count_in_row.Goals as goal

pub returns-clause-earlier_are_before : goal.returns-clause-earlier_are_before
returns-clause-earlier_are_before c = λ p p_lt_result.
    let is_partition_point =
    IsPartitionPoint-from_clause
    (λ p. is_pair_before p c.args.symbol c.args.at) _ _ c.partition_point.ensures.partitioned
    (row_is_partitioned c.args.row.now c.requires c.args.symbol c.args.at)
    (λ a r q k. search rules) in
    is_partition_point.0 p (0, 0) (omega arith) p_lt_result

pub returns-clause-later_are_not_before : goal.returns-clause-later_are_not_before
returns-clause-later_are_not_before c = λ p result_le_p p_lt_length.
    let is_partition_point =
    IsPartitionPoint-from_clause
    (λ p. is_pair_before p c.args.symbol c.args.at) _ _ c.partition_point.ensures.partitioned
    (row_is_partitioned c.args.row.now c.requires c.args.symbol c.args.at)
    (λ a r q k. search rules) in
    is_partition_point.1 p (0, 0) result_le_p p_lt_length
