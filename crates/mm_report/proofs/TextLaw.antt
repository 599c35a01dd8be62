-- The report that is written is that of the database.
use Rattle.std.proofs.lemmas.Grind.{common_steps}
use Rattle.std.proofs.Common.{arith, ◌≡◌, ℕ, List, [], ap, sym, length, map, ◌++◌}
use Rattle.std.proofs.Common.{append_assoc, append-nil}
use Rattle.std.proofs.lemmas.List.FromFn.{length-map-range_with_len}
use Rattle.mm_spec.specs.Text.{Bytes}
use Rattle.mm_spec.specs.Statement.{Statement}
use Rattle.mm_spec.specs.Assertion.{label_at}
use Rattle.mm_spec.specs.Output.{theorems}
use Rattle.mm_cites.specs.Citing.{Citing}
use Rattle.mm_rows.specs.Marks.{Marks}
use Rattle.mm_report.specs.Rows.{rows_of}
use Rattle.mm_report.specs.CitingRows.{AreCitationsOf}

-- the first line has the number of rows
pub count_is_rows : (m : Marks) (labels : List Bytes) (n : ℕ) → n ≡ length labels
    → length labels ≡ m.rows → n ≡ length (rows_of m labels)
count_is_rows m labels n n_is_length labels_as_rows = omega (arith, length-map-range_with_len)

-- there are as many labels as rows
pub labels_as_many_as_rows : (db : List Statement) (m : Marks) (labels : List Bytes)
    → labels ≡ map (label_at db) (theorems db) → length (theorems db) ≡ m.rows
    → length labels ≡ m.rows
labels_as_many_as_rows db m labels labels_are theorems_as_many_as_rows = grind (arith, common_steps)

-- there are as many labels as lists of citations
pub labels_as_many_as_citing : (db : List Statement) (c : Citing) (labels : List Bytes)
    → labels ≡ map (label_at db) (theorems db) → AreCitationsOf db c
    → length labels ≡ length c.theorems
labels_as_many_as_citing db c labels labels_are are_citations = grind (arith, common_steps)

-- two sections that were sent as one text are sections of the report
pub sections_regrouped : (h a b u : List ℕ) → h ++ (a ++ b) ++ u ≡ h ++ a ++ b ++ u
sections_regrouped h a b u = ap (λ (x : List ℕ). x ++ u) (sym (append_assoc h a b))

-- a usage that isn't wanted is an empty section of the report
pub without_usage : (h a b u : List ℕ) → u ≡ [] → h ++ (a ++ b) ≡ h ++ a ++ b ++ u
without_usage h a b u no_usage = grind (arith, common_steps, append_assoc, append-nil)
