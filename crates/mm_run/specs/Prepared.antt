-- What is made for a report before it is written.
use Rattle.std.specs.Prelude.{◌≡◌, ℕ, List, false}
use Rattle.mm_spec.specs.Request.{Request, has_marks}
use Rattle.mm_spec.specs.Output.{columns}
use Rattle.mm_database.specs.Database.{Contents}
use Rattle.mm_work.specs.Citing.{Citing}
use Rattle.mm_rows.specs.Marks.{IsMatrix}
use Rattle.mm_report.specs.Told.{AreDummiesFor, AreStepsFor}
use Rattle.mm_run.specs.declared.prepared.MarksFor.{MarksFor}
use Rattle.mm_run.specs.declared.prepared.MarksFor.TheVariants.{NoSection, Rows, Usage}
use Rattle.mm_run.specs.declared.prepared.Prepared.{Prepared}

module _ {A : Type 0} where
  -- the marks are those that the sections of the request need, on these columns
  abbrev pub AreMarksFor : Request → Citing → List ℕ → MarksFor A → Type 0
  AreMarksFor request c axioms NoSection = has_marks request.sections ≡ false
  AreMarksFor request c axioms (Rows m) =
      (request.sections.usage ≡ false) × IsMatrix c axioms m
  AreMarksFor request c axioms (Usage m) = IsMatrix c axioms m

  -- this was made for the report requested of the database with these citations
  pub record IsPrepared (request : Request) (d : Contents) (c : Citing) (p : Prepared A)
      : Type 0 where
    pub columns_are : p.chosen ≡ columns d.statements request.only
    pub are_marks : AreMarksFor request c p.chosen p.marks
    pub are_dummies : AreDummiesFor request d p.told.dummy_lists
    pub are_steps : AreStepsFor request d p.told.step_lists
