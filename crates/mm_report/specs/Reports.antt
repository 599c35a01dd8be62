-- The reports that are requested, by their rows.
use Rattle.std.specs.Prelude.{true, false, length, Option, Some, None, ℕ, Bool, List, map, count_by}
use Rattle.std.specs.Prelude.{◌&&◌, ◌++◌, codes, flat_map}
use Rattle.std.specs.List.{list_any}
use Rattle.mm_spec.specs.Text.{Bytes}
use Rattle.mm_spec.specs.Report.{Row, CitingRow, report, head, section, citation_line, line}
use Rattle.mm_spec.specs.Report.{matrix_line, count_line, usage_lines}
use Rattle.mm_spec.specs.Request.{Request, without_options, default_sections, no_sections}
use Rattle.mm_spec.specs.declared.Sections.{Sections}
use Rattle.mm_spec.specs.declared.Form.{Form}
use Rattle.mm_report.specs.declared.choices.Choice.{Choice}
use Rattle.mm_report.specs.declared.choices.Choice.TheVariants as choice
use Rattle.mm_spec.specs.Assertion.{label_at}
use Rattle.mm_spec.specs.Output.{theorems}
use Rattle.mm_spec.specs.Opened.{is_open_theorem}
use Rattle.mm_spec.specs.Scope.{statement_at}
use Rattle.mm_database.specs.Database.{Contents}
use Rattle.mm_cites.specs.Citing.{Citing}
use Rattle.mm_rows.specs.Marks.{Marks}
use Rattle.mm_report.specs.Told.{told_of}
use Rattle.mm_report.specs.Rows.{rows_of}
use Rattle.mm_report.specs.CitingRows.{citing_rows_of}

-- the number of columns that are open theorems, if these are to be reported
abbrev pub open_theorem_count : (with_open : Bool) → Contents → List ℕ → Option ℕ
open_theorem_count true d columns =
    Some (count_by (λ a. d.with_open && list_any is_open_theorem (statement_at d.read a)) columns)
open_theorem_count false d columns = None

-- What is requested of the text alone. The public calls are given the citations, so it doesn't
-- matter by which nodes these were found.
abbrev pub text_request : Option Bytes → (with_open : Bool) → Form → Sections → Request
text_request only with_open form sections =
    record without_options { only = only; sections = sections; form = form; with_open = with_open }

-- the sections of marks that a choice names
abbrev pub sections_of : Choice → Sections
sections_of choice.All = default_sections
sections_of choice.Matrix = record no_sections { matrix = true }
sections_of choice.Counts = record no_sections { counts = true }
sections_of choice.Usage = record no_sections { usage = true }
sections_of choice.Citations = no_sections

-- the first lines of a report and its sections of marks
abbrev pub marked_part : Request → Option ℕ → List Bytes → List Row → List ℕ
marked_part request open_theorems columns rows =
    head request.form (length columns) open_theorems (length rows)
    ++ section request.sections.matrix (codes "matrix") (flat_map (matrix_line request.form) rows)
    ++ section request.sections.counts (codes "counts") (flat_map count_line rows)
    ++ section request.sections.usage (codes "usage") (usage_lines rows 0 columns)

-- the report of a database on these columns, by its matrix and its rows of citations
abbrev pub report_of : Request → Contents → List ℕ → Marks → List CitingRow → List ℕ
report_of request d columns m citing_rows =
    report request (open_theorem_count request.with_open d columns)
    (map (label_at d.statements) columns)
    (rows_of m (map (label_at d.statements) (theorems d.statements))) citing_rows
    (told_of d request.only)

-- the first lines of a report that has no section of marks, and its section of citations
abbrev pub unmarked_part : Request → Contents → List ℕ → List CitingRow → List ℕ
unmarked_part request d columns rows =
    head request.form (length columns) (open_theorem_count request.with_open d columns)
    (length rows)
    ++ section request.sections.citations (codes "citations") (flat_map citation_line rows)

-- the report of a database that has no section of marks
abbrev pub unmarked_report_of : Request → Contents → List ℕ → List CitingRow → List ℕ
unmarked_report_of request d columns rows =
    unmarked_part request d columns rows
    ++ section request.sections.proofs (codes "proofs") (told_of d request.only).proofs
    ++ section request.sections.statements (codes "statements") (told_of d request.only).statements
    ++ line (codes "end")

-- the report of what the theorems of a database cite
abbrev pub citation_report_of : Option Bytes → (with_open : Bool) → Form → Contents → List ℕ
    → Citing → List ℕ
citation_report_of only with_open form d columns c =
    let sections = record no_sections { citations = true } in
    let request = text_request only with_open form sections in
    unmarked_report_of request d columns (citing_rows_of request d c)
