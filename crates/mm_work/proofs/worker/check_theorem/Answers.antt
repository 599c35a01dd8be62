use Rattle.std.proofs.Common.{ℕ, ◌++◌, ◌∷◌, [], List, Option, get_or, sym, ap, ◌∙◌, subst, refl}
use Rattle.std.proofs.Common.{IsTrue, ◌<◌, length, true≢false}
use Rattle.mm_spec.specs.Output.{is_theorem_at}
use Rattle.mm_database.proofs.SpacedLaw.{theorems_are}
use Rattle.mm_work.specs.Judged.{IsVerifyRefusalOf, HasFault, HasCitations}
use Rattle.mm_work.specs.declared.proof.VerifyRefused.{VerifyRefused}
use Rattle.mm_work.specs.declared.worker.IndexedFault.{IndexedFault}
use Rattle.mm_work.proofs.worker.check_theorem.Goals as goal

pub verify-requires-clause-is_theorem : goal.verify-requires-clause-is_theorem
verify-requires-clause-is_theorem g c =
    let db = c.args.job.now.database.now.statements in
    subst (λ (ts : List ℕ). IsTrue (is_theorem_at db (get_or ts c.args.index 0)))
    (sym c.theorems.ensures.theorems) (theorems_are db c.args.index 0 c.requires.index_lt_count)

pub bounds-theorems-index : goal.bounds-theorems-index
bounds-theorems-index g c =
    subst (λ (ts : List ℕ). c.args.index < length ts) (sym c.theorems.ensures.theorems)
    c.requires.index_lt_count

pub returns-in-Ok-add_valid-clause-memory_lasted : goal.returns-in-Ok-add_valid-clause-memory_lasted
returns-in-Ok-add_valid-clause-memory_lasted g c = λ not_short. sym
    c.in-Ok-add_valid.ensures.memory_flag_stays ∙ not_short

pub returns-in-Ok-add_valid-clause-finds_valid : goal.returns-in-Ok-add_valid-clause-finds_valid
returns-in-Ok-add_valid-clause-finds_valid g c = λ not_short is_valid. record {
  cites = c.in-Ok.checked.cites;
  has_citations =
      subst (λ (ts : List ℕ). HasCitations c.args.job.now.database.now.statements
      c.args.job.now.essential (get_or ts c.args.index 0) c.in-Ok.checked.cites)
      c.theorems.ensures.theorems c.in-Ok.ensures.has_citations;
  valid_are = c.in-Ok-add_valid.ensures.adds_index;
  cites_are =
      c.in-Ok-add_valid.ensures.adds_cites
      ∙ ap (λ (l : List ℕ). c.args.findings.now.cites ++ l ∷ []) c.cites.ensures;
  faulty_is = c.in-Ok-add_valid.ensures.fault_stays;
}

pub returns-in-Ok-add_valid-clause-finds_fault : goal.returns-in-Ok-add_valid-clause-finds_fault
returns-in-Ok-add_valid-clause-finds_fault g c = λ not_short not_valid. absurd (true≢false
    not_valid)

pub returns-in-Err-clause-memory_lasted : goal.returns-in-Err-clause-memory_lasted
returns-in-Err-clause-memory_lasted g c = λ not_short. absurd (true≢false not_short)

pub returns-in-Err-clause-finds_valid : goal.returns-in-Err-clause-finds_valid
returns-in-Err-clause-finds_valid g c = λ not_short. absurd (true≢false not_short)

pub returns-in-Err-clause-finds_fault : goal.returns-in-Err-clause-finds_fault
returns-in-Err-clause-finds_fault g c = λ not_short. absurd (true≢false not_short)

pub returns-in-Err-Fault-clause-memory_lasted : goal.returns-in-Err-Fault-clause-memory_lasted
returns-in-Err-Fault-clause-memory_lasted g c = λ not_short. not_short

pub returns-in-Err-Fault-clause-finds_valid : goal.returns-in-Err-Fault-clause-finds_valid
returns-in-Err-Fault-clause-finds_valid g c = λ not_short is_valid. absurd (true≢false (sym
    is_valid))

pub returns-in-Err-Fault-clause-finds_fault : goal.returns-in-Err-Fault-clause-finds_fault
returns-in-Err-Fault-clause-finds_fault g c = λ not_short not_valid.
    let db = c.args.job.now.database.now.statements in
    record {
      fault = c.in-Err-Fault.fault;
      has_fault =
          subst (λ (ts : List ℕ). HasFault db (get_or ts c.args.index 0) c.in-Err-Fault.fault)
          c.theorems.ensures.theorems (subst (λ (e : VerifyRefused). IsVerifyRefusalOf db
          (get_or c.theorems.result.now c.args.index 0) e)
          c.in-Err-Fault.field-0-is c.in-Err-Fault.ensures.refusal_is_right);
      valid_are = refl {A = List ℕ};
      cites_are = refl {A = List (List ℕ)};
      faulty_is = refl {A = Option IndexedFault};
    }

pub returns-in-Err-Memory-clause-memory_lasted : goal.returns-in-Err-Memory-clause-memory_lasted
returns-in-Err-Memory-clause-memory_lasted g c = λ not_short. absurd (true≢false not_short)

pub returns-in-Err-Memory-clause-finds_valid : goal.returns-in-Err-Memory-clause-finds_valid
returns-in-Err-Memory-clause-finds_valid g c = λ not_short. absurd (true≢false not_short)

pub returns-in-Err-Memory-clause-finds_fault : goal.returns-in-Err-Memory-clause-finds_fault
returns-in-Err-Memory-clause-finds_fault g c = λ not_short. absurd (true≢false not_short)
