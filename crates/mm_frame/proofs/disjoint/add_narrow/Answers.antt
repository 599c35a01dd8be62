use Rattle.std.proofs.Common.{◌≡◌, ◌∙◌, Bool, ◌&&◌, ◌||◌, ℕ, List, nat_eq, ap, ap₂, take_all}
use Rattle.mm_spec.specs.Derivation.{is_member}
use Rattle.mm_database.specs.Pairs.{has_pair}
use Rattle.mm_database.specs.DisjointIndex.{row_of}
use Rattle.mm_frame.specs.Together.{is_higher_variable_in_row}
use Rattle.mm_frame.proofs.LoopsLaw.{none_so_far, passing_with_next_element}
use Rattle.mm_frame.proofs.disjoint.add_narrow.Goals.{
  then-row-disjoint_variables+in_ok-add_walked,
  else-row-disjoint_variables+in_ok-add_looked_up,
}
use Rattle.mm_frame.proofs.disjoint.add_narrow.Goals as goal

pub loop-variable-init : goal.loop-variable-init
loop-variable-init g c = λ x y. none_so_far (has_pair c.args.pairs.now.items x y)

pub loop-variable-preserved : goal.loop-variable-preserved
loop-variable-preserved g c = λ x y.
    let b = c.args.blocks.now in
    let ds = c.args.disjoint_variables.now in
    let rows = c.args.disjoint_index.now.rows in
    let at = c.args.at in
    let s = c.variable-item.result in
    let ps = c.loop-variable.pairs.items in
    let qs = c.if-row-disjoint_variables.pairs.items in
    let higher : List (ℕ × ℕ) → ℕ → List ℕ → Bool = λ (r : List (ℕ × ℕ)) (l : ℕ) (xs : List ℕ).
    has_pair ps x y || (nat_eq x l && is_higher_variable_in_row b r l xs at y) in
    let in_row : (xs : List ℕ)
    → higher c.row-row.result.now c.number-low.result xs ≡ higher (row_of rows s) s xs =
    λ (xs : List ℕ). ap₂ (λ (r : List (ℕ × ℕ)) (l : ℕ). higher r l xs) c.row-row.ensures
    c.number-low.ensures in
    let step : has_pair qs x y ≡ higher (row_of rows s) s ds =
    elim c.if-row-disjoint_variables.branch [
      | then-row-disjoint_variables+in_ok-add_walked w ↦
          ap (λ v. has_pair v.items x y) w.pairs-is ∙ w.in_ok-add_walked.ensures x y
          ∙ in_row c.args.variables.now
          ∙ ap (λ z. has_pair ps x y || (nat_eq x s && z))
          (c.requires.higher_are_disjoint_variables s y)
      | else-row-disjoint_variables+in_ok-add_looked_up w ↦
          ap (λ v. has_pair v.items x y) w.pairs-is ∙ w.in_ok-add_looked_up.ensures x y
          ∙ in_row ds
    ] in
    passing_with_next_element (λ (z : ℕ). is_higher_variable_in_row b (row_of rows z) z ds at y) ds
    c.loop-variable.variable-index s s x _ _ _ c.loop-variable-test.true c.variable-item.is
    (c.loop-variable.invariant x y) step

pub returns : goal.returns
returns g c = λ x y.
    c.loop-variable.invariant x y
    ∙ ap (λ (xs : List ℕ). has_pair c.args.pairs.now.items x y
    || (is_member xs x && is_higher_variable_in_row c.args.blocks.now
    (row_of c.args.disjoint_index.now.rows x) x c.args.disjoint_variables.now c.args.at y))
    (take_all c.loop-variable.variable-index c.args.disjoint_variables.now
    c.loop-variable-test.false)
