use Rattle.std.proofs.lemmas.List.Filters.{length-filter_more}
use Rattle.std.proofs.Common.{◌<◌, length, sym, arith}
use Rattle.std.specs.Option.{option_map}
use Rattle.mm_report.proofs.CitationLaw.{is_listed}
use Rattle.mm_report.proofs.citations.listed_count.Goals as goal
use Rattle.mm_report.proofs.citations.listed_count.Goals.{then-has_chosen_typecode}
use Rattle.mm_report.proofs.citations.listed_count.Goals.{else-has_chosen_typecode}

pub loop-statement-preserved : goal.loop-statement-preserved
loop-statement-preserved g c =
    let db = c.args.database.now.statements in
    let only = option_map (λ w. w.now) c.args.only in
    let cited = c.args.cited.now in
    let i = c.loop-statement.statement-index in
    let i_lt_length : i < length cited = c.loop-statement-test.true in
    let count_is = c.loop-statement.invariant.count_is in
    let count_le_index = c.loop-statement.invariant.count_le_index in
    let count_with_next =
    rw (sym c.has_chosen_typecode.ensures)
    at (length-filter_more (is_listed db only cited) cited i 0 i_lt_length) in
    elim c.if-has_chosen_typecode.branch [
      | then-has_chosen_typecode w ↦
          let next_counts = rw w.if-has_chosen_typecode.true at count_with_next in
          rw w.count-is (record {
            count_le_index = omega (arith, count_le_index);
            count_is = omega (arith, count_is, next_counts);
          })
      | else-has_chosen_typecode w ↦
          let unchanged = rw w.if-has_chosen_typecode.false at count_with_next in
          rw w.count-is (record {
            count_le_index = omega (arith, count_le_index);
            count_is = omega (arith, count_is, unchanged);
          })
    ]
