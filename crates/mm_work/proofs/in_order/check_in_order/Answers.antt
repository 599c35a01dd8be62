use Rattle.std.proofs.Common.{◌≡◌, ℕ, List, length, get_or, sym, ap, subst, arith, IsTrue}
use Rattle.mm_spec.specs.Output.{theorems, is_theorem_at}
use Rattle.mm_database.proofs.SpacedLaw.{theorems_are}
use Rattle.mm_work.specs.Judged.{HaveCitationsUpTo, HasFault, IsVerifyRefusalOf, HasCitations}
use Rattle.mm_work.specs.Judged.{IsFirstFault}
use Rattle.mm_spec.specs.declared.Fault.{Fault}
use Rattle.mm_work.specs.declared.proof.VerifyRefused.{VerifyRefused}
use Rattle.mm_work.proofs.VerifyLaw.{with_citations_of_one_more, valid_if_cited, is_first_fault}
use Rattle.mm_work.proofs.in_order.check_in_order.Goals as goal

pub judged_valid-requires : goal.judged_valid-requires
judged_valid-requires g c =
    let db = c.args.database.now.statements in
    let index_is_count : c.loop-theorem.theorem-index ≡ length (theorems db) =
    omega (arith, ap (λ (ts : List ℕ). length ts) c.theorems-theorems.ensures.theorems) in
    subst (λ (n : ℕ). HaveCitationsUpTo db c.args.essential (theorems db) n c.loop-theorem.lists)
    index_is_count c.loop-theorem.invariant.have_citations

pub verify-requires-clause-is_theorem : goal.verify-requires-clause-is_theorem
verify-requires-clause-is_theorem g c =
    let db = c.args.database.now.statements in
    subst (λ (ts : List ℕ). IsTrue (is_theorem_at db (get_or ts c.loop-theorem.theorem-index 0)))
    (sym c.theorems-theorems.ensures.theorems)
    (theorems_are db c.loop-theorem.theorem-index 0 (omega (
      arith,
      c.loop-theorem-test.true,
      ap
          (λ (ts : List ℕ). length ts) c.theorems-theorems.ensures.theorems,
    )))

pub returns-in-Err-Fault : goal.returns-in-Err-Fault
returns-in-Err-Fault g c =
    let db = c.args.database.now.statements in
    let i = c.loop-theorem.theorem-index in
    subst (λ (f : Fault). IsFirstFault db f) (sym c.in-Err-Fault.fault-is) (is_first_fault db
    c.theorems-theorems.ensures.few_statements c.len.ensures.are_complete i c.in-Err-Fault.fault
    (valid_if_cited db c.theorems-theorems.ensures.few_statements c.len.ensures.are_complete
    c.args.essential i c.loop-theorem.lists c.loop-theorem.invariant.have_citations) (omega (
      arith,
      c.loop-theorem-test.true,
      ap (λ (ts : List ℕ). length ts) c.theorems-theorems.ensures.theorems,
    ))
    (subst (λ (ts : List ℕ). HasFault db (get_or ts i 0) c.in-Err-Fault.fault)
    c.theorems-theorems.ensures.theorems
    (subst (λ (e : VerifyRefused). IsVerifyRefusalOf db (get_or c.theorems-theorems.result.now i 0)
    e) c.in-Err-Fault.field-0-is c.in-Err-Fault.ensures.refusal_is_right)))

pub loop-theorem-preserved : goal.loop-theorem-preserved
loop-theorem-preserved g c =
    let db = c.args.database.now.statements in
    let i = c.loop-theorem.theorem-index in
    record {
      made_for = c.in-Ok.ensures.made_for;
      have_citations =
          rw (c.in_ok-push-in-Ok.ensures.list_is_added, c.cites.ensures)
          (with_citations_of_one_more db c.args.essential (theorems db) i c.loop-theorem.lists
          c.in-Ok.checked.cites
          c.loop-theorem.invariant.have_citations (subst (λ (ts : List ℕ). HasCitations db
          c.args.essential (get_or ts i 0) c.in-Ok.checked.cites)
          c.theorems-theorems.ensures.theorems
          c.in-Ok.ensures.has_citations));
    }
