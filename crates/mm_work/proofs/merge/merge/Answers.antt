use Rattle.std.proofs.Common.{◌≡◌, ◌<◌, ℕ, All, List, length, get_or, sym, ap, subst, arith}
use Rattle.mm_spec.specs.Output.{theorems}
use Rattle.mm_work.specs.Judged.{HaveCitationsUpTo}
use Rattle.mm_work.specs.declared.merge.ListPosition.{ListPosition}
use Rattle.mm_work.proofs.PositionsLaw.{le_of_lt, worker_lt_length, findings_at_worker}
use Rattle.mm_work.proofs.PositionsLaw.{list_lt_cites_length, list_has_citations}
use Rattle.mm_work.proofs.VerifyLaw.{with_citations_of_one_more}
use Rattle.mm_work.proofs.merge.merge.Goals as goal

pub offset_bounds-all_findings-position : goal.offset_bounds-all_findings-position
offset_bounds-all_findings-position g c =
    let k = c.loop-position.position-index in
    let positions_are = c.deref-position-items.ensures.value in
    le_of_lt (worker_lt_length c.args.database.now.statements c.args.essential
    c.args.all_findings.now c.requires.are_findings
    c.in_ok-positions.positions.items c.deref-position-items.result.now k _ positions_are
    (c.in_ok-positions.ensures.have_positions k (c.requires.each_is_found_valid k
    (omega (
      arith,
      c.loop-position-test.true,
      ap (λ (ps : List ListPosition). length ps)
          positions_are,
      c.in_ok-positions.ensures.length_is,
      ap (λ (ts : List ℕ). length ts)
          c.theorems.ensures.theorems,
    )))))

pub bounds-all_findings-position : goal.bounds-all_findings-position
bounds-all_findings-position g c =
    let k = c.loop-position.position-index in
    let positions_are = c.deref-position-items.ensures.value in
    worker_lt_length c.args.database.now.statements c.args.essential c.args.all_findings.now
    c.requires.are_findings c.in_ok-positions.positions.items c.deref-position-items.result.now k _
    positions_are (c.in_ok-positions.ensures.have_positions k (c.requires.each_is_found_valid k
    (omega (
      arith,
      c.loop-position-test.true,
      ap (λ (ps : List ListPosition). length ps)
          positions_are,
      c.in_ok-positions.ensures.length_is,
      ap (λ (ts : List ℕ). length ts)
          c.theorems.ensures.theorems,
    ))))

pub get-requires : goal.get-requires
get-requires g c =
    let db = c.args.database.now.statements in
    let fs = c.args.all_findings.now in
    let k = c.loop-position.position-index in
    let positions_are = c.deref-position-items.ensures.value in
    let has_position = c.in_ok-positions.ensures.have_positions k (c.requires.each_is_found_valid k
    (omega (
      arith,
      c.loop-position-test.true,
      ap (λ (ps : List ListPosition). length ps)
          positions_are,
      c.in_ok-positions.ensures.length_is,
      ap (λ (ts : List ℕ). length ts)
          c.theorems.ensures.theorems,
    ))) in
    list_lt_cites_length db c.args.essential fs c.requires.are_findings
    c.in_ok-positions.positions.items c.deref-position-items.result.now k _ positions_are
    has_position _ (findings_at_worker db c.args.essential fs c.requires.are_findings
    c.in_ok-positions.positions.items c.deref-position-items.result.now k _ positions_are
    has_position c.index-all_findings-position.result)

pub loop-position-preserved : goal.loop-position-preserved
loop-position-preserved g c =
    let db = c.args.database.now.statements in
    let fs = c.args.all_findings.now in
    let k = c.loop-position.position-index in
    let positions_are = c.deref-position-items.ensures.value in
    let has_position = c.in_ok-positions.ensures.have_positions k (c.requires.each_is_found_valid k
    (omega (
      arith,
      c.loop-position-test.true,
      ap (λ (ps : List ListPosition). length ps)
          positions_are,
      c.in_ok-positions.ensures.length_is,
      ap (λ (ts : List ℕ). length ts)
          c.theorems.ensures.theorems,
    ))) in
    rw c.in_ok-push.ensures.list_is_added
    (with_citations_of_one_more db c.args.essential (theorems db) k
    c.loop-position.lists c.get.result.now c.loop-position.invariant (list_has_citations db
    c.args.essential fs c.requires.are_findings c.in_ok-positions.positions.items
    c.deref-position-items.result.now k _ positions_are has_position _ c.get.result.now
    (findings_at_worker db c.args.essential fs c.requires.are_findings
    c.in_ok-positions.positions.items c.deref-position-items.result.now k _ positions_are
    has_position c.index-all_findings-position.result) c.get.ensures.is_list))

pub returns : goal.returns
returns g c =
    let db = c.args.database.now.statements in
    let k_is_count : c.loop-position.position-index ≡ length (theorems db) =
    omega (
      arith,
      c.loop-position.auto.position-index-end,
      c.loop-position-test.false,
      ap
          (λ (ps : List ListPosition). length ps) c.deref-position-items.ensures.value,
      c.in_ok-positions.ensures.length_is,
      ap (λ (ts : List ℕ). length ts)
          c.theorems.ensures.theorems,
    )
    in
    subst (λ n. HaveCitationsUpTo db c.args.essential (theorems db) n c.loop-position.lists)
    k_is_count c.loop-position.invariant

pub positions_of-requires : goal.positions_of-requires
positions_of-requires g c = λ k d k_lt_length.
    subst (λ (ts : List ℕ). All (λ i. i < length ts)
    (get_or c.args.all_findings.now k d).valid.items)
    (sym c.theorems.ensures.theorems) (c.requires.are_findings k d k_lt_length).indices_lt_count

pub loop-position-init : goal.loop-position-init
loop-position-init g c = record {
  list_count_is = ap length c.with_expected_capacity-lists.ensures;
  each_has_citations = λ i i_lt_0. absurd (omega arith);
}
