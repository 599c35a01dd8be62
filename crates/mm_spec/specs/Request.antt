-- What is requested of a report (this project's own).
use Rattle.std.specs.Prelude.{Bool, true, false, ◌||◌, Option, None}
use Rattle.mm_spec.specs.Text.{Bytes}
use Rattle.mm_spec.specs.declared.Sections.{Sections}
use Rattle.mm_spec.specs.declared.Form.{Form}
use Rattle.mm_spec.specs.declared.Form.TheVariants.{One}

abbrev pub no_sections : Sections
no_sections = record {
  matrix = false;
  counts = false;
  usage = false;
  citations = false;
  proofs = false;
  statements = false;
}

-- the sections that a report has where none is chosen
abbrev pub default_sections : Sections
default_sections = record no_sections { matrix = true; counts = true; usage = true }

-- whether there is a section of what theorems rest on
abbrev pub has_marks : Sections → Bool
has_marks s = s.matrix || (s.counts || s.usage)

pub record Request : Type 0 where
  -- the typecode of the axioms that are columns and of the citations listed, if one is chosen
  pub only : Option Bytes
  pub sections : Sections
  -- how the matrix is written
  pub form : Form
  -- whether a theorem cites only by the essential nodes of its proof
  pub essential : Bool
  -- whether open theorems count as axioms
  pub with_open : Bool

-- what is requested where no option is given
abbrev pub without_options : Request
without_options = record {
  only = None;
  sections = default_sections;
  form = One;
  essential = false;
  with_open = false;
}
