use Rattle.std.proofs.Common.{rules, arith, ◌≡◌, ◌∙◌, ◌&&◌, ◌||◌, ◌++◌, ◌∷◌, [], Bool, ℕ, nat_eq}
use Rattle.std.proofs.Common.{nat_lt, ap, sym, take_all}
use Rattle.mm_database.specs.Pairs.{has_pair}
use Rattle.mm_database.specs.DisjointIndex.{is_active_in_row}
use Rattle.mm_frame.proofs.LoopsLaw.{none_so_far, passing_with_next_element, pair_if_passing}
use Rattle.mm_frame.proofs.LoopsLaw.{no_pair_if_failing, and_swap}
use Rattle.mm_frame.proofs.disjoint.add_looked_up.Goals.{then-is_higher_in_row+in_ok-push}
use Rattle.mm_frame.proofs.disjoint.add_looked_up.Goals.{else-is_higher_in_row}
use Rattle.mm_frame.proofs.disjoint.add_looked_up.Goals as goal

pub loop-variable-init : goal.loop-variable-init
loop-variable-init g c = λ x y. none_so_far (has_pair c.args.pairs.now.items x y)

pub loop-variable-preserved : goal.loop-variable-preserved
loop-variable-preserved g c = λ x y.
    let low = c.args.low in
    let n = c.number.result in
    let s = c.variable-item.result in
    let ps = c.loop-variable.pairs.items in
    let passes : ℕ → Bool = λ (z : ℕ). nat_lt low z
    && is_active_in_row c.args.blocks.now c.args.row.now z c.args.at in
    let qs = c.if-is_higher_in_row.pairs.items in
    let step : has_pair qs x y ≡ (has_pair ps x y || (nat_eq y n && (nat_eq x low && passes n))) =
    elim c.if-is_higher_in_row.branch [
      | then-is_higher_in_row+in_ok-push w ↦
          pair_if_passing ps qs low n x y (passes n)
          (sym c.is_higher_in_row.ensures ∙ w.if-is_higher_in_row.true)
          (ap (λ v. v.items) w.pairs-is ∙ w.in_ok-push.ensures.items
          ∙ ap (λ (z : ℕ). ps ++ (low, z) ∷ [])
          (w.number-then-is_higher_in_row.ensures ∙ sym c.number.ensures))
      | else-is_higher_in_row w ↦
          no_pair_if_failing ps qs low n x y (passes n)
          (sym c.is_higher_in_row.ensures ∙ w.if-is_higher_in_row.false)
          (ap (λ v. v.items) w.pairs-is)
    ] in
    passing_with_next_element (λ (z : ℕ). nat_eq x low && passes z) c.args.variables.now
    c.loop-variable.variable-index s s y _ _ _ c.loop-variable-test.true c.variable-item.is
    (c.loop-variable.invariant x y)
    (step ∙ ap (λ (z : ℕ). has_pair ps x y || (nat_eq y z && (nat_eq x low && passes z)))
    c.number.ensures)

pub returns : goal.returns
returns g c = search (rules, arith, take_all, and_swap)
