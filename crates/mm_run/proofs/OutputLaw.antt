-- A report of the statements as they count, with what it tells of open theorems, is the output.
use Rattle.std.proofs.Common.{◌≡◌, ◌∙◌, ℕ, Bool, true, false, ◌&&◌, List, length, Option, Some}
use Rattle.std.proofs.Common.{None, refl, ap, ap₂, subst, inr, if◌then◌else◌}
use Rattle.std.specs.Prelude.{count_by}
use Rattle.std.specs.List.{list_any}
use Rattle.mm_spec.specs.Text.{Bytes}
use Rattle.mm_spec.specs.Opened.{is_open_theorem, open_as_axioms}
use Rattle.mm_spec.specs.Scope.{statement_at}
use Rattle.mm_spec.specs.Request.{Request}
use Rattle.mm_spec.specs.Lexed.{lexed_of}
use Rattle.mm_spec.specs.Statement.{Statement}
use Rattle.mm_spec.specs.Assertion.{statement_lines}
use Rattle.mm_spec.specs.Report.{ToldLines}
use Rattle.mm_spec.specs.Output.{columns, HasNoFault, is_open_at, proof_lines, told_lines}
use Rattle.mm_spec.specs.Output.{IsReportOf, IsOutput}
use Rattle.mm_database.specs.Database.{Contents}
use Rattle.mm_report.specs.Reports.{open_theorem_count}
use Rattle.mm_report.specs.Told.{told_of}
use Rattle.mm_run.specs.Judging.{IsCounted}

open_theorems_are : (d : Contents) (w : Bool) (only : Option Bytes) (axioms : List ℕ)
    → IsCounted w d
    → axioms ≡ columns d.statements only
    → open_theorem_count w d axioms
    ≡ (if w then Some
    (count_by (λ a. list_any is_open_theorem (statement_at d.read a))
    (columns (open_as_axioms true d.read) only)) else None)
open_theorems_are d true only axioms is_counted axioms_are =
    ap₂ (λ (b : Bool) (xs : List ℕ). Some
    (count_by (λ a. b && list_any is_open_theorem (statement_at d.read a)) xs)) is_counted.flag_is
    (axioms_are
    ∙ ap (λ db. columns db only) is_counted.statements_are)
open_theorems_are d false only axioms is_counted axioms_are = refl

told_are : (d : Contents) (request : Request) → IsCounted request.with_open d
    → told_of d request.only ≡ told_lines d.read request
told_are d request is_counted =
    ap₂ (λ (b : Bool) (db : List Statement). record {
      proofs = proof_lines db;
      statements = statement_lines db (is_open_at d.read b) request.only;
    })
    is_counted.flag_is is_counted.statements_are

pub is_output : (request : Request) (d : Contents) (axioms bytes : List ℕ)
    → IsCounted request.with_open d
    → HasNoFault (length d.text) (lexed_of d.text) request.with_open d.read
    → axioms ≡ columns d.statements request.only
    → IsReportOf d.statements (open_theorem_count request.with_open d axioms)
    (told_of d request.only) request bytes
    → IsOutput d.text request bytes
is_output request d axioms bytes is_counted has_no_fault axioms_are is_report =
    inr (
      d.read,
      has_no_fault,
      subst (λ o. IsReportOf (open_as_axioms request.with_open d.read) o (told_lines d.read request)
          request
          bytes)
          (open_theorems_are d request.with_open request.only axioms is_counted axioms_are)
          (subst (λ (t : ToldLines). IsReportOf (open_as_axioms request.with_open d.read)
          (open_theorem_count request.with_open d axioms) t request bytes)
          (told_are d request is_counted)
          (subst (λ db. IsReportOf db (open_theorem_count request.with_open d axioms)
          (told_of d request.only) request bytes)
          is_counted.statements_are is_report)),
    )
