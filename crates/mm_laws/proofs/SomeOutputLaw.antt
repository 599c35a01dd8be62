-- There is an output.
use Rattle.std.proofs.Common.{ℕ, Bool, List, Option, None, inl, inr, refl, length, rules, arith}
use Rattle.mm_spec.specs.Report.{ToldLines, refusal}
use Rattle.mm_spec.specs.Statement.{Statement}
use Rattle.mm_spec.specs.Laws.Complete.{AreComplete}
use Rattle.mm_spec.specs.Request.{Request}
use Rattle.mm_spec.specs.Lexed.{LexedText, lexed_of}
use Rattle.mm_spec.specs.Output.{theorems, AllAreValid, open_theorem_count, told_lines, IsReportOf}
use Rattle.mm_spec.specs.Output.{IsOutput}
use Rattle.mm_laws.specs.Laws.FirstFaults.{IsSoundOrFaulty}
use Rattle.mm_laws.specs.Laws.Cells.{AreDecided}
use Rattle.mm_laws.specs.Laws.SomeOutput.{OutputExists}
use Rattle.mm_spec.specs.Opened.{open_as_axioms}
use Rattle.mm_spec.proofs.CompleteLaw.{reads_complete}
use Rattle.mm_spec.proofs.OpenedLaw.{counted_complete}
use Rattle.mm_laws.proofs.SomeFaultLaw.{is_sound_or_faulty}
use Rattle.mm_spec.proofs.RestsLaw.{rests_on_is_decided, rows_of, citing_rows_of}

-- in a sound text each cell is marked or not
pub cells_are_decided : (len : ℕ) (x : LexedText) (with_open : Bool) → AreDecided len x with_open
cells_are_decided len x with_open db has_no_fault by_essential t a =
    search (rules, arith, rests_on_is_decided, counted_complete, reads_complete)

-- a database without faults has a report
report_exists : (db : List Statement) (opened : Option ℕ) (lines : ToldLines) (request : Request)
    → AreComplete db → AllAreValid db → (bytes : List ℕ) × IsReportOf db opened lines request bytes
report_exists db opened lines request all_complete are_valid =
    let rows = rows_of db request all_complete are_valid (theorems db) in
    let citing_rows = citing_rows_of db request all_complete are_valid (theorems db) in (
      _,
      record {
        rows = rows.0;
        are_rows = rows.1;
        citing_rows = citing_rows.0;
        are_citing_rows = citing_rows.1;
        bytes_are = refl;
      },
    )

-- each text has an output
pub output_exists_for_text : OutputExists
output_exists_for_text text request =
    sound_or_faulty_text (is_sound_or_faulty (length text) (lexed_of text) request.with_open)
  where
    sound_or_faulty_text : IsSoundOrFaulty (length text) (lexed_of text) request.with_open
        → (bytes : List ℕ) × IsOutput text request bytes
    sound_or_faulty_text (inl (fault, is_first)) = (refusal text fault, inl (fault, is_first, refl))
    sound_or_faulty_text (inr has_no_fault) =
        let all_complete =
        counted_complete request.with_open has_no_fault.0
        (reads_complete (length text) (lexed_of text) has_no_fault.0 None has_no_fault.1.0) in
        let report =
        report_exists (open_as_axioms request.with_open has_no_fault.0)
        (open_theorem_count has_no_fault.0 request) (told_lines has_no_fault.0 request) request
        all_complete has_no_fault.1.1 in
        (report.0, inr (has_no_fault.0, has_no_fault.1, report.1))
