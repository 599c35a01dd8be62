use Rattle.std.proofs.Common.{◌<◌, All, ℕ, List, length, sym, ap, subst, arith}
use Rattle.std.specs.List.{list_any}
use Rattle.mm_spec.specs.Citation.{is_theorem}
use Rattle.mm_spec.specs.Output.{theorems}
use Rattle.mm_spec.specs.Scope.{statement_at}
use Rattle.mm_work.specs.Workers.{AreFindings, IsFoundValid, IsFoundFaulty}
use Rattle.mm_work.specs.declared.worker.Findings.{Findings}
use Rattle.mm_cites.proofs.RisingLaw.{filtered_range_is_statement_list}
use Rattle.mm_work.proofs.AllLaw.{valid_below_floor, floor_is_found_faulty}
use Rattle.mm_work.proofs.VerifyLaw.{is_first_fault}
use Rattle.mm_work.proofs.all.check_all.Goals as goal

pub overflow_cast-count : goal.overflow_cast-count
overflow_cast-count g c =
    let db = c.args.database.now.statements in
    omega (
      arith,
      (filtered_range_is_statement_list (λ j. list_any is_theorem (statement_at db j))
          (length db) c.theorems-count.ensures.few_statements).count_lt_2_31,
      ap (λ (ts : List ℕ). length
          ts) c.theorems-count.ensures.theorems,
    )

pub found_fault-requires-clause-are_findings : goal.found_fault-requires-clause-are_findings
found_fault-requires-clause-are_findings g c =
    subst (λ (fs : List (Findings _)). All (AreFindings c.args.database.now.statements
    c.args.essential) fs) (sym c.deref.ensures.value) c.in_ok-gathered.ensures.are_findings

pub found_fault-requires-clause-is_found_faulty : goal.found_fault-requires-clause-is_found_faulty
found_fault-requires-clause-is_found_faulty g c =
    subst (λ (fs : List (Findings _)). IsFoundFaulty fs c.close-floor.result.0)
    (sym c.deref.ensures.value) (floor_is_found_faulty _ c.in_ok-gathered.gathered.seat
    c.in_ok-gathered.gathered.all_findings.items
    c.in_ok-gathered.ensures c.close-floor.result.0 (c.close-floor.ensures.record_is_whole
    (omega (
      arith,
      c.share.ensures.share_is,
      c.share.ensures.share_in_range.1,
      c.if-share-lt-MOST_SEATS.false,
    ))).0 (omega (arith, c.if-floor-count.true, c.in-Ok.ensures.count_is.0)))

pub returns-then-floor-count : goal.returns-then-floor-count
returns-then-floor-count g c =
    let are_gathered = c.in_ok-gathered.ensures in
    is_first_fault c.args.database.now.statements c.theorems-count.ensures.few_statements
    c.theorems-count.ensures.are_complete c.close-floor.result.0 c.found_fault.result
    (valid_below_floor _ c.in_ok-gathered.gathered.seat c.in_ok-gathered.gathered.all_findings.items
    are_gathered c.close-floor.result.0 (c.close-floor.ensures.all_are_settled
    (omega (
      arith,
      c.share.ensures.share_is,
      c.share.ensures.share_in_range.1,
      c.if-share-lt-MOST_SEATS.false,
    ))
    are_gathered.is_over are_gathered.no_number_open))
    (omega (
      arith,
      ap (λ (ts : List ℕ). length ts) c.theorems-count.ensures.theorems,
      c.if-floor-count.true,
    )) c.found_fault.ensures

pub merge-requires-clause-are_findings : goal.merge-requires-clause-are_findings
merge-requires-clause-are_findings g c =
    subst (λ (fs : List (Findings _)). All (AreFindings c.args.database.now.statements
    c.args.essential) fs) (sym c.deref-2.ensures.value) c.in_ok-gathered.ensures.are_findings

pub merge-requires-clause-each_is_found_valid : goal.merge-requires-clause-each_is_found_valid
merge-requires-clause-each_is_found_valid g c =
    let are_gathered = c.in_ok-gathered.ensures in
    subst (λ (fs : List (Findings _)). (i : ℕ) → i < length
    (theorems c.args.database.now.statements) → IsFoundValid fs i) (sym c.deref-2.ensures.value)
    (λ i i_lt_count. are_gathered.settled_are_valid i
    (omega (
      arith,
      c.close-floor.ensures.all_are_settled (omega (
        arith,
        c.share.ensures.share_is,
        c.share.ensures.share_in_range.1,
        c.if-share-lt-MOST_SEATS.false,
      )) are_gathered.is_over
          are_gathered.no_number_open i (omega (
            arith,
            ap (λ (ts : List ℕ). length ts)
                c.theorems-count.ensures.theorems,
            c.if-floor-count.false,
            i_lt_count,
          )),
    )))
