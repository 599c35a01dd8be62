-- The first fault of a text, and what is written (this project's own).
use Rattle.std.specs.Prelude.{◌≢◌, ◌++◌, ◌≡◌, ℕ, ◌<◌, Bool, true, false, List, [], ◌∷◌, length, map}
use Rattle.std.specs.Prelude.{Option, Some, None, slice_get, ◌⊎◌, IsTrue, Decides}
use Rattle.std.specs.Prelude.{count_by, if◌then◌else◌, ◌&&◌, flat_map}
use Rattle.std.specs.List.{list_any, range_with_len, AllZip, filter}
use Rattle.mm_spec.specs.Text.{Bytes, Token, Fault}
use Rattle.mm_spec.specs.Lexed.{LexedText, lexed_of}
use Rattle.mm_spec.specs.Statement.{Statement, axiomatic, provable, AreLongestStatements}
use Rattle.mm_spec.specs.Statement.{ShapeFault}
use Rattle.mm_spec.specs.Statement.{FileEndFault}
use Rattle.mm_spec.specs.Opened.{is_open_theorem, open_as_axioms}
use Rattle.mm_spec.specs.Scope.{statement_at}
use Rattle.mm_spec.specs.Lawful.{least, scope_fault, IsLawful}
use Rattle.mm_spec.specs.Frame.{formula_at}
use Rattle.mm_spec.specs.Valid as proof
use Rattle.mm_spec.specs.Citation.{context_at, steps_at, reading_faults_at, is_theorem, IsValid}
use Rattle.mm_spec.specs.Citation.{Cites, RestsOn}
use Rattle.mm_spec.specs.Assertion.{label_at, has_typecode, statement_lines}
use Rattle.mm_spec.specs.Report.{Row, CitingRow, ToldLines, report, refusal}
use Rattle.mm_spec.specs.ProofLine.{proof_line}
use Rattle.mm_spec.specs.Request.{Request}
use Rattle.mm_spec.specs.Derivation.{is_member}
use Rattle.std.specs.List.Sorted.{IsStrictlyIncreasing}

-- the lexical fault, or if there is none, the fault at the end of the text
abbrev pub LexicalOrEndFault : ℕ → List Token → Option Fault → Fault → Type 0
LexicalOrEndFault len ts (Some g) f = f ≡ g
LexicalOrEndFault len ts None f = FileEndFault len ts f

-- the fault of bytes, words or shape: the first fault of shape among the tokens, or if there is
-- none, the lexical fault or that of the end
abbrev pub TextFault : ℕ → LexedText → Fault → Type 0
TextFault len lexed f =
    ShapeFault lexed.tokens f
    ⊎ ((¬ ((g : Fault) × ShapeFault lexed.tokens g))
    × LexicalOrEndFault len lexed.tokens lexed.fault f)

-- what stops the reading after the lawful statements
abbrev pub StopsReading : ℕ → LexedText → List Statement → List Statement → List Statement
    → Option Fault → Type 0
StopsReading len lexed statements db (s ∷ rest) fault =
    (fault ≢ None) × (scope_fault statements (length db) ≡ fault)
StopsReading len lexed statements db [] None = (f : Fault) → ¬ TextFault len lexed f
StopsReading len lexed statements db [] (Some f) = TextFault len lexed f

-- What reading gives: the statements up to the first malformed or unlawful one, and the fault that
-- stops the reading there, if there is one.
pub record IsRead (len : ℕ) (lexed : LexedText) (db : List Statement)
    (fault : Option Fault) : Type 0 where
  pub statements : List Statement
  pub are_statements : AreLongestStatements lexed.tokens statements
  pub rest : List Statement
  pub splits : statements ≡ db ++ rest
  pub lawful : (k : ℕ) → k < length db → IsLawful statements k
  pub stops : StopsReading len lexed statements db rest fault

-- the fault of theorem k's proof, which ends at `end`: the least fault of its reading, or if there
-- is none, the fault of a step or of the end
abbrev pub ProofFault : List Statement → ℕ → ℕ → Fault → Type 0
ProofFault db k end f = (least (reading_faults_at db k) ≡ Some f)
    ⊎ ((reading_faults_at db k ≡ [])
    × (proof.StepFault (context_at db k) (steps_at db k) f
    ⊎ proof.ProofEndFault (context_at db k) (steps_at db k) (formula_at db k) end f))

-- the place of the `$.` of a theorem
abbrev pub proof_end : Option Statement → ℕ
proof_end (Some (provable l p xs e ps d)) = d
proof_end _ = 0

-- whether statement k is a theorem
abbrev pub is_theorem_at : List Statement → ℕ → Bool
is_theorem_at db k = list_any is_theorem (statement_at db k)

-- the theorems before k are valid
abbrev pub AreValid : List Statement → ℕ → Type 0
AreValid db k = (j : ℕ) → j < k → IsTrue (is_theorem_at db j) → IsValid db j

-- all theorems are valid
abbrev pub AllAreValid : List Statement → Type 0
AllAreValid db = AreValid db (length db)

-- k is the first theorem whose proof has a fault, and f is that fault
abbrev pub FirstProofFault : List Statement → ℕ → Fault → Type 0
FirstProofFault db k f =
    IsTrue (is_theorem_at db k) × AreValid db k × ProofFault db k (proof_end (slice_get db k)) f

-- The first faulty statement decides: the first theorem read whose proof has a fault, or if there
-- is none, the fault that stopped the reading. With the flag open theorems count as axioms, so they
-- have no proof that could be faulty.
abbrev pub FirstFault : ℕ → LexedText → (with_open : Bool) → Fault → Type 0
FirstFault len lexed with_open f =
    (db : List Statement) × (fault : Option Fault) × IsRead len lexed db fault
    × (((k : ℕ) × FirstProofFault (open_as_axioms with_open db) k f)
    ⊎ (AllAreValid (open_as_axioms with_open db) × (fault ≡ Some f)))

-- the whole text is read without a fault, as the statements db, and all theorems are valid
abbrev pub HasNoFault : ℕ → LexedText → (with_open : Bool) → List Statement → Type 0
HasNoFault len lexed with_open db =
    IsRead len lexed db None × AllAreValid (open_as_axioms with_open db)

-- the numbers of the theorems
abbrev pub theorems : List Statement → List ℕ
theorems db = filter (λ j. list_any is_theorem (statement_at db j)) (range_with_len 0 (length db))

-- whether a statement is a `$a` with the typecode, if one is chosen
abbrev pub is_column : Option Bytes → Statement → Bool
is_column only (axiomatic l k xs d) = has_typecode only (axiomatic l k xs d)
is_column only _ = false

-- the numbers of the axioms, or of those with the typecode if one is chosen
abbrev pub columns : List Statement → Option Bytes → List ℕ
columns db only =
    filter (λ j. list_any (is_column only) (statement_at db j)) (range_with_len 0 (length db))

-- r is the row of theorem t: its label, and for each column whether t rests on that axiom
abbrev pub IsRowOf : List Statement → Request → ℕ → Row → Type 0
IsRowOf db request t r =
    (r.label ≡ label_at db t)
    × AllZip (λ a mark. Decides mark (RestsOn db request.essential t a))
    (columns db request.only) r.marks

-- the list has exactly the assertions that the theorem cites and that have the typecode, if one is
-- chosen, in file order
pub record AreCited (db : List Statement) (request : Request) (t : ℕ) (list : List ℕ) : Type 0 where
  pub rising : IsStrictlyIncreasing list
  pub cited : (a : ℕ)
      → Decides (is_member list a)
      (Cites db request.essential t a
      × IsTrue (list_any (has_typecode request.only) (statement_at db a)))

-- r is the row of citations of theorem t: its label, and the labels of what it cites
abbrev pub IsCitingRowOf : List Statement → Request → ℕ → CitingRow → Type 0
IsCitingRowOf db request t r =
    (r.label ≡ label_at db t)
    × ((list : List ℕ) × AreCited db request t list × (r.cited ≡ map (label_at db) list))

-- how many columns are open theorems, if these count as axioms
abbrev pub open_theorem_count : List Statement → Request → Option ℕ
open_theorem_count db request =
    if request.with_open then Some
    (count_by (λ a. list_any is_open_theorem (statement_at db a))
    (columns (open_as_axioms true db) request.only))
    else None

-- whether statement j is an open theorem that counts as an axiom
abbrev pub is_open_at : List Statement → (with_open : Bool) → ℕ → Bool
is_open_at db with_open j = with_open && list_any is_open_theorem (statement_at db j)

-- the lines of the theorems' proofs
abbrev pub proof_lines : List Statement → List ℕ
proof_lines db = flat_map (proof_line db) (theorems db)

-- the lines of the proofs and of the statements: open theorems count as axioms if the request says
-- so
abbrev pub told_lines : List Statement → Request → ToldLines
told_lines db request = record {
  proofs = proof_lines (open_as_axioms request.with_open db);
  statements =
      statement_lines (open_as_axioms request.with_open db) (is_open_at db request.with_open)
      request.only;
}

-- The report on a database: the theorems have these rows, by what they rest on and by what they
-- cite, and these are its bytes. `open_theorems` says how many columns are open theorems, if these
-- count as axioms, and `told` are the lines of the proofs and of the statements.
pub record IsReportOf (db : List Statement) (open_theorems : Option ℕ) (told : ToldLines)
    (request : Request) (bytes : List ℕ) : Type 0 where
  pub rows : List Row
  pub are_rows : AllZip (IsRowOf db request) (theorems db) rows
  pub citing_rows : List CitingRow
  pub are_citing_rows : AllZip (IsCitingRowOf db request) (theorems db) citing_rows
  pub bytes_are : bytes
      ≡ report request open_theorems (map (label_at db) (columns db request.only)) rows citing_rows
      told

-- the output of a text: the refusal for its first fault, or if it has none, the report requested
abbrev pub IsOutput : List ℕ → Request → List ℕ → Type 0
IsOutput text request bytes =
    ((f : Fault) × FirstFault (length text) (lexed_of text) request.with_open f
    × (bytes ≡ refusal text f))
    ⊎ ((db : List Statement) × HasNoFault (length text) (lexed_of text) request.with_open db
    × IsReportOf (open_as_axioms request.with_open db) (open_theorem_count db request)
    (told_lines db request) request bytes)
