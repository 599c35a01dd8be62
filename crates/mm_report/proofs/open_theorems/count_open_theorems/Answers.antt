use Rattle.std.proofs.Common.{◌≡◌, ◌∙◌, ◌<◌, ◌&&◌, ℕ, Bool, List, length, get_or, sym, ap, arith}
use Rattle.std.specs.List.{list_any}
use Rattle.std.proofs.lemmas.List.Sums.{count_by_more_yes, count_by_more_no}
use Rattle.mm_spec.specs.Opened.{is_open_theorem}
use Rattle.mm_spec.specs.Scope.{statement_at}
use Rattle.mm_report.proofs.open_theorems.count_open_theorems.Goals as goal
use Rattle.mm_report.proofs.open_theorems.count_open_theorems.Goals.{then-is_open, else-is_open}

pub loop-statement-preserved : goal.loop-statement-preserved
loop-statement-preserved g c =
    let database = c.args.database.now in
    let chosen = c.args.chosen.now in
    let listed = c.statements-statement-items.result.now in
    let statements_are_chosen : listed ≡ chosen =
    c.statements-statement-items.ensures.statements_are in
    let is_open : ℕ → Bool =
    λ a. database.with_open && list_any is_open_theorem (statement_at database.read a) in
    let i = c.loop-statement.statement-index in
    let i_lt_length : i < length chosen =
    rw statements_are_chosen at c.loop-statement-test.true in
    let next_is_open_as_asked : is_open (get_or chosen i 0) ≡ c.is_open.result =
    sym (c.is_open.ensures ∙ ap (λ (xs : List ℕ). is_open (get_or xs i 0)) statements_are_chosen) in
    let count_is = c.loop-statement.invariant.count_is in
    let count_le_index = c.loop-statement.invariant.count_le_index in
    elim c.if-is_open.branch [
      | then-is_open w ↦ let count_with_next =
          count_by_more_yes is_open chosen i 0 i_lt_length (next_is_open_as_asked
          ∙ w.if-is_open.true) in
          rw w.count-is (record {
            count_le_index = omega (arith, count_le_index);
            count_is = omega (arith, count_is, count_with_next);
          })
      | else-is_open w ↦ let count_unchanged =
          count_by_more_no is_open chosen i 0 i_lt_length (next_is_open_as_asked
          ∙ w.if-is_open.false) in
          rw w.count-is (record {
            count_le_index = omega (arith, count_le_index);
            count_is = omega (arith, count_is, count_unchanged);
          })
    ]
