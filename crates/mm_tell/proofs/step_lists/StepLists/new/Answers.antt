use Rattle.std.proofs.lemmas.Grind.{common_steps}
use Rattle.std.proofs.Common.{◌≡◌, ◌∙◌, ◌++◌, ◌∷◌, [], ℕ, ◌+◌, ◌<◌, List, IsTrue, ap, subst, sym}
use Rattle.std.proofs.Common.{map, take, get_or, length, arith}
use Rattle.std.proofs.lemmas.List.{map_push, take_all, take_more}
use Rattle.mm_spec.specs.Output.{theorems, is_theorem_at}
use Rattle.mm_spec.specs.Citation.{reading_faults_at}
use Rattle.mm_spec.specs.ProofLine.{proof_steps}
use Rattle.mm_spec.specs.Steps as spec
use Rattle.mm_steps.specs.TheoremSteps.{as_step}
use Rattle.mm_steps.specs.declared.step_list.Step.{Step}
use Rattle.mm_database.proofs.SpacedLaw.{theorems_are}
use Rattle.mm_tell.proofs.step_lists.StepLists.new.Goals as goal

pub read_faultless-requires-clause-is_theorem : goal.read_faultless-requires-clause-is_theorem
read_faultless-requires-clause-is_theorem g c =
    let db = c.args.database.now.statements in
    let theorems_listed = c.theorems-theorem-items.ensures.theorems in
    subst (λ (ts : List ℕ). IsTrue (is_theorem_at db (get_or ts c.loop-theorem.theorem-index 0)))
    (sym theorems_listed)
    (theorems_are db c.loop-theorem.theorem-index 0 (omega (
      arith,
      c.loop-theorem-test.true,
      ap length theorems_listed,
    )))

pub read_faultless-requires-clause-has_no_fault : goal.read_faultless-requires-clause-has_no_fault
read_faultless-requires-clause-has_no_fault g c =
    let db = c.args.database.now.statements in
    let theorems_listed = c.theorems-theorem-items.ensures.theorems in
    subst (λ (ts : List ℕ). reading_faults_at db (get_or ts c.loop-theorem.theorem-index 0) ≡ [])
    (sym theorems_listed)
    (c.requires c.loop-theorem.theorem-index 0 (omega (
      arith,
      c.loop-theorem-test.true,
      ap length theorems_listed,
    )))

-- the steps of one more theorem
grows : (f : ℕ → List spec.Step) (ts : List ℕ) (i : ℕ) (lists : List (List Step))
    → (listed : List Step) → i < length ts → map (map as_step) lists ≡ map f (take i ts)
    → map as_step listed ≡ f (get_or ts i 0)
    → map (map as_step) (lists ++ listed ∷ []) ≡ map f (take (i + 1) ts)
grows f ts i lists listed i_lt_length lists_are listed_are =
    grind (arith, common_steps, take_more, map_push)

pub loop-theorem-preserved : goal.loop-theorem-preserved
loop-theorem-preserved g c =
    let db = c.args.database.now.statements in
    let i = c.loop-theorem.theorem-index in
    let theorems_listed = c.theorems-theorem-items.ensures.theorems in
    let listed = c.deref.result.now in
    let listed_are : map as_step listed ≡ proof_steps db (get_or (theorems db) i 0) =
    ap (map as_step) c.deref.ensures.value ∙ c.in_ok-list_steps.ensures
    ∙ c.in_ok-steps.ensures
    ∙ ap (λ (ts : List ℕ). proof_steps db (get_or ts i 0)) theorems_listed in
    ap (map (map as_step)) c.in_ok-push.ensures.list_is_added
    ∙ grows (proof_steps db) (theorems db) i c.loop-theorem.lists listed (omega (
      arith,
      c.loop-theorem-test.true,
      ap length theorems_listed,
    ))
    c.loop-theorem.invariant listed_are

pub returns : goal.returns
returns g c =
    let theorems_listed = c.theorems-theorem-items.ensures.theorems in
    rw (take_all c.loop-theorem.theorem-index (theorems c.args.database.now.statements) (omega (
      arith,
      c.loop-theorem-test.false,
      ap length theorems_listed,
    )))
    at c.loop-theorem.invariant
