-- The rows of citations of a report: what each theorem cites.
use Rattle.std.specs.Prelude.{◌≡◌, ◌<◌, true, All, length, Option, ℕ, List, map, slice_index_or, []}
use Rattle.std.specs.List.{range_with_len, list_any, filter}
use Rattle.mm_spec.specs.Text.{Bytes}
use Rattle.mm_spec.specs.Statement.{Statement}
use Rattle.mm_spec.specs.Report.{CitingRow}
use Rattle.mm_spec.specs.Request.{Request}
use Rattle.mm_spec.specs.Assertion.{label_at, has_typecode}
use Rattle.mm_spec.specs.Output.{theorems}
use Rattle.mm_spec.specs.Scope.{statement_at}
use Rattle.mm_spec.specs.Citation.{is_assertion}
use Rattle.mm_database.specs.Database.{Contents}
use Rattle.mm_cites.specs.Citing.{Citing, list_at}

-- the statements are assertions
abbrev pub AreAssertions : List Statement → List ℕ → Type 0
AreAssertions db ks = All (λ k. list_any is_assertion (statement_at db k) ≡ true) ks

-- the lists are of assertions of the database, and the theorems are its own
pub record AreCitationsOf (db : List Statement) (c : Citing) : Type 0 where
  pub theorems_are : c.theorems ≡ theorems db
  pub assertions : (i : ℕ) → i < length c.theorems → AreAssertions db (list_at c i)

-- those of the cited assertions that have the typecode, or all of them if none is chosen
abbrev pub listed : List Statement → Option Bytes → List ℕ → List ℕ
listed db only cited = filter (λ a. list_any (has_typecode only) (statement_at db a)) cited

-- the labels of these assertions
abbrev pub listed_labels : List Statement → Option Bytes → List ℕ → List Bytes
listed_labels db only cited = map (label_at db) (listed db only cited)

-- the row of a theorem in the report of citations
abbrev pub citing_row : List Statement → Option Bytes → Citing → Bytes → ℕ → CitingRow
citing_row db only c label i =
    record { label = label; cited = listed_labels db only (list_at c i) }

-- the rows of all theorems in the report of citations
abbrev pub citing_rows : List Statement → Option Bytes → Citing → List Bytes → List CitingRow
citing_rows db only c labels =
    map (λ i. citing_row db only c (slice_index_or labels i []) i)
    (range_with_len 0 (length c.theorems))

-- the rows of citations of a database
abbrev pub citing_rows_of : Request → Contents → Citing → List CitingRow
citing_rows_of request d c =
    citing_rows d.statements request.only c (map (label_at d.statements) (theorems d.statements))
