use Rattle.std.proofs.Common.{◌≡◌, ◌∙◌, ◌<◌, ◌+◌, ◌⊎◌, ℕ, Some, All, List, length, slice_get, refl}
use Rattle.std.proofs.Common.{sym, ap, subst, arith}
use Rattle.std.specs.List.{Contains}
use Rattle.std.proofs.lemmas.Option.{slice_get_read}
use Rattle.mm_work.specs.Positions.{IsWithWorker, HasPosition}
use Rattle.mm_work.specs.declared.merge.ListPosition.{ListPosition}
use Rattle.mm_work.specs.declared.worker.Findings.{Findings}
use Rattle.mm_work.proofs.PositionsLaw.{has_position_up_to_next, every_valid_has_position}
use Rattle.mm_work.proofs.PositionsLaw.{written_back}
use Rattle.mm_work.proofs.merge.positions_of.Goals as goal

pub loop-worker-preserved : goal.loop-worker-preserved
loop-worker-preserved g c =
    let fs = c.args.all_findings.now in
    let w = c.loop-worker.worker in
    let positions = c.loop-worker.positions.items in
    let positions' = c.set_positions.new.positions in
    let findings = c.index-all_findings-worker.result in
    let length_stays : length positions' ≡ length positions =
    c.set_positions.ensures.length_stays
    ∙ ap (λ (ps : List ListPosition). length ps) c.deref_mut.ensures.value in
    let written_back_whole = written_back c.loop-worker.positions.len positions' positions
    (length_stays ∙ sym c.loop-worker.positions.ok.0) in
    record {
      count_is = ap (λ (ps : List ListPosition). length ps) written_back_whole ∙ length_stays
          ∙ c.loop-worker.invariant.count_is;
      have_positions =
          subst (λ (ps : List ListPosition). (v : ℕ) (f : Findings _) (i : ℕ) → v < w + 1
          → slice_get fs v ≡ Some f → Contains f.valid.items i
          → HasPosition ps fs i) (sym written_back_whole) (has_position_up_to_next fs positions
          positions' w findings (slice_get_read fs (length fs) w findings refl
          c.loop-worker-test.true c.index-all_findings-worker.is)
          (λ i is_in_valid. subst (λ j. IsWithWorker positions' w findings.valid.items j)
          is_in_valid.2 (subst (λ (l : List ℕ). All (λ j. IsWithWorker positions' w l j) l)
          c.deref.ensures.value c.set_positions.ensures.are_with_worker is_in_valid.0 i
          is_in_valid.1)) (subst (λ (ps : List ListPosition). (i : ℕ)
          → IsWithWorker positions' w findings.valid.items i ⊎ (slice_get positions' i ≡ slice_get
          ps i)) c.deref_mut.ensures.value (subst (λ (l : List ℕ). (i : ℕ)
          → IsWithWorker positions' w l i ⊎ (slice_get positions' i ≡ slice_get
          c.deref_mut.result.now i)) c.deref.ensures.value c.set_positions.ensures.others_stay))
          c.loop-worker.invariant.have_positions);
    }

pub returns-clause-have_positions : goal.returns-clause-have_positions
returns-clause-have_positions g c =
    every_valid_has_position c.args.all_findings.now c.loop-worker.positions.items
    (λ v f i v_lt_length f_is_at_v i_is_in_f. c.loop-worker.invariant.have_positions v f i (omega
    (arith, v_lt_length, c.loop-worker.auto.worker-end, c.loop-worker-test.false)) f_is_at_v
    i_is_in_f)
