-- What is written of two databases that were compared.
use Rattle.std.specs.Prelude.{◌≡◌, ℕ, ◌<◌, ◌^◌, List, [], ◌++◌, map, length, flat_map}
use Rattle.std.specs.Prelude.{slice_index_or, All}
use Rattle.std.specs.List.{range_with_len}
use Rattle.mm_spec.specs.Text.{Bytes}
use Rattle.mm_spec.specs.Statement.{Statement}
use Rattle.mm_spec.specs.Report.{CitingRow, line}
use Rattle.mm_spec.specs.Assertion.{label_at, assertion_line}
use Rattle.mm_spec.specs.Output.{is_open_at, theorems}
use Rattle.mm_database.specs.Database.{Contents}
use Rattle.mm_tell.specs.Dummies.{DummyLists, HaveDummies}
use Rattle.mm_spec.specs.Comparison.{shift_line}
use Rattle.mm_report.specs.CitingRows.{AreAssertions}

-- the lines of these assertions
abbrev pub lines_of : Contents → List ℕ → List ℕ
lines_of d ks =
    flat_map (λ k. assertion_line d.statements (is_open_at d.read d.with_open k) k) ks

-- the row of theorem i: its label, and the labels of the axioms of its list
abbrev pub shift_row : List Statement → List (List ℕ) → List Bytes → ℕ → CitingRow
shift_row db lists labels i =
    record {
      label = slice_index_or labels i [];
      cited = map (label_at db) (slice_index_or lists i []);
    }

abbrev pub shift_rows : List Statement → List (List ℕ) → List Bytes → List CitingRow
shift_rows db lists labels = map (shift_row db lists labels) (range_with_len 0 (length lists))

-- the lines of the theorems of a database that have some axiom in their list
abbrev pub shift_lines : Contents → List (List ℕ) → List ℕ
shift_lines d lists =
    flat_map shift_line
    (shift_rows d.statements lists (map (label_at d.statements) (theorems d.statements)))

-- a section: the line with its name, and its lines
abbrev pub own_section : Bytes → Contents → List ℕ → List ℕ
own_section name d own = line name ++ lines_of d own

abbrev pub shift_section : Bytes → Contents → List (List ℕ) → List ℕ
shift_section name d lists = line name ++ shift_lines d lists

-- a database has these dummy variables, and a list for each theorem; all that is listed are
-- assertions
pub record IsDifference (d : Contents) (own : List ℕ) (dummy_lists : DummyLists)
    (shifts : List (List ℕ)) : Type 0 where
  pub own_are_assertions : AreAssertions d.statements own
  pub have_dummies : All (HaveDummies d.statements dummy_lists) own
  pub as_many_lists : length shifts ≡ length (theorems d.statements)
  pub few_lists : length shifts < 2 ^ 31
  pub shifts_are_assertions : (i : ℕ) → i < length shifts
      → AreAssertions d.statements (slice_index_or shifts i [])
