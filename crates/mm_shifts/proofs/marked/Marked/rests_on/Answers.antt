use Rattle.std.proofs.Common.{◌≡◌, ◌∙◌, List, ℕ, None, sym, ap, subst}
use Rattle.std.specs.Prelude.{Decides, slice_index}
use Rattle.mm_spec.specs.Output.{theorems, columns}
use Rattle.mm_shifts.specs.Resting.{Resting, Rests}
use Rattle.mm_shifts.proofs.ElementsLaw.{theorem_has_index, axiom_has_index}
use Rattle.mm_shifts.proofs.marked.Marked.rests_on.Goals as goal

pub unreachable-requires : goal.unreachable-requires
unreachable-requires g c =
    let db = c.args.self.now.contents.statements in
    let rows_are : c.self.inside.rows ≡ theorems db = c.self.invariant.rows_are
    ∙ c.self.invariant.is_marked.theorems_are
    ∙ ap (λ (r : Resting). theorems r.contents.statements) c.self.view_is in
    let found = theorem_has_index db c.args.theorem c.requires.is_theorem in
    c.in_default.ensures.is_missing found.0 (rw rows_are found.1) (rw rows_are found.2)

pub unreachable-requires-in_default-find : goal.unreachable-requires-in_default-find
unreachable-requires-in_default-find g c =
    let db = c.args.self.now.contents.statements in
    let columns_are : c.self.inside.columns ≡ columns db None =
    c.self.invariant.found_columns_are ∙ c.self.invariant.is_marked.axioms_are
    ∙ ap (λ (r : Resting). columns r.contents.statements None) c.self.view_is in
    let found = axiom_has_index db c.args.cited c.requires.is_axiom in
    c.in_default-find.ensures.is_missing found.0 (rw columns_are found.1) (rw columns_are found.2)

pub returns : goal.returns
returns g c =
    let db = c.args.self.now.contents.statements in
    let rows_are : c.self.inside.rows ≡ theorems db = c.self.invariant.rows_are
    ∙ c.self.invariant.is_marked.theorems_are
    ∙ ap (λ (r : Resting). theorems r.contents.statements) c.self.view_is in
    let columns_are : c.self.inside.columns ≡ columns db None =
    c.self.invariant.found_columns_are ∙ c.self.invariant.is_marked.axioms_are
    ∙ ap (λ (r : Resting). columns r.contents.statements None) c.self.view_is in
    let theorem_is : slice_index (theorems db) c.in-Some.row ≡ c.args.theorem =
    ap (λ (ts : List ℕ). slice_index ts c.in-Some.row) (sym rows_are)
    ∙ c.in-Some.ensures.is_index.1 in
    let axiom_is : slice_index (columns db None) c.in-Some-find.column ≡ c.args.cited =
    ap (λ (ts : List ℕ). slice_index ts c.in-Some-find.column) (sym columns_are)
    ∙ c.in-Some-find.ensures.is_index.1 in
    subst (λ (n : ℕ). Decides c.cell.result (Rests c.args.self.now n c.args.cited)) theorem_is
    (subst (λ (a : ℕ). Decides c.cell.result
    (Rests c.args.self.now (slice_index (theorems db) c.in-Some.row) a)) axiom_is c.cell.ensures)
