-- A database that was read, whose open theorems count as axioms, with the flag, or as theorems; and
-- what judging its proofs comes to.
use Rattle.std.specs.Prelude.{◌≡◌, Bool, List, ℕ, length}
use Rattle.mm_spec.specs.Lexed.{lexed_of}
use Rattle.mm_spec.specs.Opened.{open_as_axioms}
use Rattle.mm_spec.specs.Output.{FirstFault, HasNoFault, IsRead}
use Rattle.mm_work.specs.Citing.{Citing}
use Rattle.mm_database.specs.Database.{Contents}
use Rattle.mm_work.specs.Judged.{AllHaveCitations}
use Rattle.mm_run.specs.declared.judged_text.JudgedText.{JudgedText}
use Rattle.mm_run.specs.declared.judged_text.JudgedText.TheVariants.{Faulty, Sound}

-- the database has this flag, and its statements are those that were read, as they count with it
pub record IsCounted (with_open : Bool) (d : Contents) : Type 0 where
  pub flag_is : d.with_open ≡ with_open
  pub statements_are : d.statements ≡ open_as_axioms with_open d.read

-- the database is what was read of the text
pub record IsReadFrom (text : List ℕ) (with_open : Bool) (d : Contents) : Type 0 where
  pub text_is : d.text ≡ text
  pub is_counted : IsCounted with_open d
  pub is_read : IsRead (length text) (lexed_of text) d.read d.fault

-- the database was judged without a fault, by all nodes of a proof or the essential ones, and this
-- is what its theorems cite
pub record IsFaultless (essential with_open : Bool) (d : Contents) (c : Citing) : Type 0 where
  pub has_no_fault : HasNoFault (length d.text) (lexed_of d.text) with_open d.read
  pub is_counted : IsCounted with_open d
  pub have_citations : AllHaveCitations d.statements essential c

-- the text has this first fault, or none, and then this database and these citations
module _ {A : Type 0} where
  abbrev pub IsJudgedText : List ℕ → (essential with_open : Bool) → JudgedText A → Type 0
  IsJudgedText text essential with_open (Faulty f) =
      FirstFault (length text) (lexed_of text) with_open f
  IsJudgedText text essential with_open (Sound d c) =
      (d.text ≡ text) × IsFaultless essential with_open d c
