use Rattle.std.proofs.Common.{◌≡◌, ◌∙◌, [], ℕ, ◌<◌, List, ap, ap₂, sym, subst, map, get_or}
use Rattle.std.proofs.Common.{length, arith}
use Rattle.std.specs.List.{list_any}
use Rattle.std.proofs.lemmas.List.{get_or-map, take_all}
use Rattle.mm_spec.specs.Text.{Bytes}
use Rattle.mm_spec.specs.Statement.{Statement}
use Rattle.mm_spec.specs.Scope.{statement_at}
use Rattle.mm_spec.specs.Citation.{is_theorem}
use Rattle.mm_spec.specs.Steps.{Step}
use Rattle.mm_spec.specs.Output.{theorems}
use Rattle.mm_spec.specs.ProofLine.{proof_line, proof_steps, step_text}
use Rattle.mm_spec.specs.Report.{list_line}
use Rattle.mm_spec.specs.Assertion.{label_at}
use Rattle.mm_report.specs.Told.{AreStepsWithin}
use Rattle.mm_report.proofs.SentLaw.{sent_nothing, sent_equal_text}
use Rattle.mm_report.proofs.AssertionLaw.{sent_next}
use Rattle.mm_report.proofs.LabelLaw.{selected_lt_bound}
use Rattle.mm_report.proofs.StepLabelsLaw.{steps_are_within}
use Rattle.mm_report.proofs.proof_lines.send_proof_lines.Goals as goal

theorem_is_within : (db : List Statement) (row : ℕ) → row < length (theorems db)
    → get_or (theorems db) row 0 < length db
theorem_is_within db row row_lt_count =
    selected_lt_bound (λ j. list_any is_theorem (statement_at db j)) (length db) row 0 row_lt_count

-- the steps that are listed of a theorem are those of its proof
listed_steps : (db : List Statement) (lists : List (List Step)) (row : ℕ)
    → lists ≡ map (proof_steps db) (theorems db) → row < length (theorems db)
    → get_or lists row [] ≡ proof_steps db (get_or (theorems db) row 0)
listed_steps db lists row lists_are row_lt_count =
    ap (λ (ls : List (List Step)). get_or ls row []) lists_are
    ∙ get_or-map (proof_steps db) (theorems db) row 0 [] row_lt_count

pub loop-row-init : goal.loop-row-init
loop-row-init g c = sent_nothing

pub label_of-label-requires : goal.label_of-label-requires
label_of-label-requires g c =
    let db = c.args.database.now.statements in
    rw c.theorems-theorems.ensures.theorems
    (theorem_is_within db c.loop-row.row (rw c.theorems-theorems.ensures.theorems
    at c.loop-row-test.true))

pub send_proof_line-requires : goal.send_proof_line-requires
send_proof_line-requires g c =
    let db = c.args.database.now.statements in
    let row_lt_count = rw c.theorems-theorems.ensures.theorems at c.loop-row-test.true in
    subst (AreStepsWithin db)
    (sym (c.steps.ensures
    ∙ listed_steps db c.args.step_lists.now c.loop-row.row c.requires row_lt_count))
    (steps_are_within db (get_or (theorems db) c.loop-row.row 0)
    (omega (arith, theorem_is_within db c.loop-row.row row_lt_count)))

pub loop-row-preserved : goal.loop-row-preserved
loop-row-preserved g c =
    let db = c.args.database.now.statements in
    let row = c.loop-row.row in
    let row_lt_count = rw c.theorems-theorems.ensures.theorems at c.loop-row-test.true in
    let label_is =
    c.label_of-label.ensures
    ∙ ap (λ (ts : List ℕ). label_at db (get_or ts row 0)) c.theorems-theorems.ensures.theorems in
    let steps_are =
    c.steps.ensures ∙ listed_steps db c.args.step_lists.now row c.requires row_lt_count in
    sent_next (proof_line db) (theorems db) 0 row_lt_count c.loop-row.invariant
    (sent_equal_text _
    (ap₂ (λ (l : Bytes) (steps : List Step). list_line l (map (step_text db) steps)) label_is
    steps_are)
    c.send_proof_line.ensures)

pub returns : goal.returns
returns g c =
    let db = c.args.database.now.statements in
    rw (take_all c.loop-row.row (theorems db) (omega (
      arith,
      c.loop-row-test.false,
      ap length c.theorems-theorems.ensures.theorems,
    )))
    at c.loop-row.invariant
