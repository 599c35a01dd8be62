use Rattle.std.proofs.Common.{◌≡◌, ◌∙◌, ◌+◌, ◌<◌, ◌≤◌, ℕ, inl, inr, Option, Some, List, get_or, sym}
use Rattle.std.proofs.Common.{ap, subst, arith, length}
use Rattle.std.proofs.lemmas.Bool.{cases_lt}
use Rattle.std.proofs.lemmas.List.{get_or_default}
use Rattle.mm_work.specs.Judged.{HasFault}
use Rattle.mm_work.specs.Workers.{AreFindings, IsFaultFound, faulty_index, theorem_of}
use Rattle.mm_work.specs.declared.worker.Findings.{Findings}
use Rattle.mm_work.specs.declared.worker.IndexedFault.{IndexedFault}
use Rattle.mm_work.proofs.merge.found_fault.Goals.{in_default-via-in-None-1}
use Rattle.mm_work.proofs.merge.found_fault.Goals.{in_default-via-in-Some+else-faulty-index}
use Rattle.mm_work.proofs.merge.found_fault.Goals as goal

pub returns-in-loop-findings : goal.returns-in-loop-findings
returns-in-loop-findings g c =
    let db = c.args.database.now.statements in
    subst (λ (i : ℕ). HasFault db (theorem_of db i) c.in-Some.faulty.fault) c.if-faulty-index.true
    (subst (λ (o : Option IndexedFault). IsFaultFound db o) c.in-Some.is (subst (λ (f : Findings _).
    AreFindings db c.args.essential f) (sym c.findings-item.is) (c.requires.are_findings
    c.loop-findings.findings-index c.findings-item.result
    c.loop-findings-test.true)).fault_is_found).1

-- none of the first elements has the index, and neither has the next one
no_index_up_to_next : {A : Type 0} (fs : List (Findings A)) (n index : ℕ) (f : Findings A)
    → f ≡ get_or fs n f → n < length fs → (faulty_index f.faulty ≡ Some index → ⊥)
    → ((k : ℕ) (d : Findings A) → 0 ≤ k → k < n → faulty_index (get_or fs k d).faulty ≡ Some index
    → ⊥) → (k : ℕ) (d : Findings A) → 0 ≤ k → k < n + 1
    → faulty_index (get_or fs k d).faulty ≡ Some index → ⊥
no_index_up_to_next fs n index f f_is n_lt_length f_has_other_index no_index_before k d zero_le_k
    k_lt_suc_n = elim (cases_lt k n) [
      | inl k_lt_n ↦ no_index_before k d zero_le_k k_lt_n
      | inr n_le_k ↦ let k_is_n : k ≡ n = omega (arith, n_le_k, k_lt_suc_n) in
          λ has_index. f_has_other_index (subst (λ (x : Findings _). faulty_index x.faulty
          ≡ Some index) (ap (λ i. get_or fs i d) k_is_n ∙ get_or_default fs n d f n_lt_length ∙ sym
          f_is) has_index)
    ]

no_index_if_other : (found_fault : Option IndexedFault) (fault : IndexedFault) (index : ℕ)
    → found_fault ≡ Some fault
    → (fault.index ≡ index → ⊥) → faulty_index found_fault ≡ Some index → ⊥
no_index_if_other found_fault fault index found_is indices_differ has_index =
    let options_equal : Some fault.index ≡ Some index = sym (ap faulty_index found_is)
    ∙ has_index in
    indices_differ cc

pub loop-findings-preserved : goal.loop-findings-preserved
loop-findings-preserved g c =
    no_index_up_to_next c.args.all_findings.now c.loop-findings.findings-index c.args.index
    c.findings-item.result c.findings-item.is c.loop-findings-test.true
    (elim c.in_default.branch [
      | in_default-via-in-None-1 w ↦ grind arith
      | in_default-via-in-Some+else-faulty-index w ↦
          no_index_if_other _ _ _ w.in-Some.is w.if-faulty-index.false
    ])
    c.loop-findings.invariant

pub unreachable-requires : goal.unreachable-requires
unreachable-requires g c =
    let is_found_faulty = c.requires.is_found_faulty in
    let listed = is_found_faulty.are_listed in
    c.loop-findings.invariant listed.0 is_found_faulty.findings (omega arith)
    (omega (arith, listed.1, c.loop-findings-test.false)) (subst (λ (f : Findings _). faulty_index
    f.faulty ≡ Some c.args.index) (sym listed.2) is_found_faulty.index_is)
