-- What the contents of a database say of the statements that were read.
use Rattle.std.proofs.lemmas.Option.{slice_get_past, same_Some}
use Rattle.std.proofs.Common.{◌≡◌, ℕ, ◌<◌, ◌≤◌, Bool, false, List, [], ◌∷◌, length, Option, Some}
use Rattle.std.proofs.Common.{None, refl, sym, ap, IfSome, IfNone, IsTrue, true}
use Rattle.std.specs.Option.{option_map}
use Rattle.std.specs.List.{list_any}
use Rattle.std.proofs.lemmas.List.{length-map}
use Rattle.mm_spec.specs.Statement.{Statement, provable, proof_of}
use Rattle.mm_spec.specs.NormalProof.{is_labelled}
use Rattle.mm_spec.specs.Scope.{statement_at}
use Rattle.mm_spec.specs.declared.Fault.{Fault}
use Rattle.mm_spec.specs.declared.Word.{Word}
use Rattle.mm_spec.specs.Opened.{open_as_axioms}
use Rattle.mm_spec.specs.Laws.Complete.{AreComplete}
use Rattle.mm_spec.specs.Lexed.{lexed_of}
use Rattle.mm_spec.specs.Output.{IsRead}
use Rattle.mm_spec.proofs.CompleteLaw.{reads_complete}
use Rattle.mm_spec.proofs.OpenedLaw.{counted_length, counted_complete}
use Rattle.mm_outline.specs.Blocks.{BlockLists}
use Rattle.mm_outline.specs.Statements.{statements}
use Rattle.mm_outline.specs.declared.parts.Kind.{Kind}
use Rattle.mm_outline.specs.declared.parts.Kind.TheVariants as kind
use Rattle.mm_outline.specs.declared.parts.Outline.{Outline}
use Rattle.mm_database.specs.Database.{kind_of, Contents, contents}
use Rattle.mm_database.specs.Labels.{AreLabels}
use Rattle.mm_database.specs.ParsedStatements.{ParsedStatements, parsed_statements}

-- each statement has an outline
pub has_outline : (text : List ℕ) (ws : List Word) (os : List Outline) (b : BlockLists)
    → (p : ParsedStatements) → parsed_statements text (statements text ws os) b ≡ p → (k : ℕ) → k
    < length p.list
    → k < length os
has_outline text ws os b p p_is_parsed k k_lt_length =
    rw (← p_is_parsed, length-map) at k_lt_length

-- there are as many statements as were read
pub as_many_statements : (text : List ℕ) (db : List Statement) (w : Bool) (fault : Option Fault)
    → (n : Contents) → contents text db w fault ≡ n → length n.statements ≡ length db
as_many_statements text db w fault n n_is_contents = rw (← n_is_contents) (counted_length w db)

-- what is no theorem has no proof
pub no_proof : (s : Option Statement) (x : Kind) → option_map kind_of s ≡ Some x
    → ¬ (x ≡ kind.Theorem) → option_map proof_of s ≡ Some []
no_proof None x kind_is_x x_is_no_theorem = absurd cc
no_proof (Some (provable l k xs e ps d)) x kind_is_x x_is_no_theorem =
    absurd (x_is_no_theorem (sym (same_Some _ _ kind_is_x)))
no_proof (Some _) x kind_is_x x_is_no_theorem = refl

-- after the last statement is none
pub none_past_the_end : (p : Statement → Bool) (db : List Statement) (k : ℕ) → length db ≤ k
    → list_any p (statement_at db k) ≡ false
none_past_the_end p db k length_le_k =
    ap (λ o. list_any p (elim o [ None ↦ [] | Some s ↦ s ∷ [] ])) (slice_get_past db k length_le_k)

-- ---- what a lookup of a label answers

module _ (db : List Statement) (find : List ℕ → Option ℕ) (are_labels : AreLabels db find)
    (w : List ℕ) where
  pub found_label_is_label : (r : Option ℕ) → r ≡ find w
      → IfSome r (λ k. (k < length db) × IsTrue (list_any (is_labelled w) (statement_at db k)))
  found_label_is_label None r_is_found = tt
  found_label_is_label (Some k) r_is_found = are_labels.found_has_label w k (sym r_is_found)

  pub found_label_is_unique : (r : Option ℕ) → r ≡ find w
      → IfSome r
      (λ k. (j : ℕ) → list_any (is_labelled w) (statement_at db j) ≡ true → j ≡ k)
  found_label_is_unique None r_is_found = tt
  found_label_is_unique (Some k) r_is_found =
      λ j w_labels_j. are_labels.label_is_unique w j k w_labels_j
      (are_labels.found_has_label w k (sym r_is_found)).1

  pub missing_label_is_none : (r : Option ℕ) → r ≡ find w
      → IfNone r ((j : ℕ) → list_any (is_labelled w) (statement_at db j) ≡ false)
  missing_label_is_none None r_is_found =
      λ j. are_labels.missing_has_no_statement w (sym r_is_found) j
  missing_label_is_none (Some k) r_is_found = tt

-- the frames of what was read of a text are complete
pub read_statements_are_complete : (text : List ℕ) (db : List Statement) (w : Bool)
    (fault : Option Fault)
    → IsRead (length text) (lexed_of text) db fault → AreComplete (open_as_axioms w db)
read_statements_are_complete text db w fault is_read =
    counted_complete w db (reads_complete (length text) (lexed_of text) db fault is_read)
