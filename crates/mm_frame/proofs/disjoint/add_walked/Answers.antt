use Rattle.std.proofs.Common.{◌≡◌, ◌∙◌, ◌&&◌, ◌||◌, Bool, ℕ, List, get_or, nat_eq, nat_lt, ap, sym}
use Rattle.std.proofs.Common.{take_all}
use Rattle.std.specs.List.{list_any}
use Rattle.mm_spec.specs.Derivation.{is_member}
use Rattle.mm_database.specs.Pairs.{has_pair}
use Rattle.mm_database.specs.DisjointIndex.{is_active_local}
use Rattle.mm_frame.proofs.LoopsLaw.{none_so_far, any_with_next_element, pair_if_passing}
use Rattle.mm_frame.proofs.LoopsLaw.{no_pair_if_failing, walked_in_row}
use Rattle.mm_frame.proofs.disjoint.add_walked.Goals.{then-is_active_higher_pair+in_ok-push}
use Rattle.mm_frame.proofs.disjoint.add_walked.Goals.{else-is_active_higher_pair}
use Rattle.mm_frame.proofs.disjoint.add_walked.Goals as goal

pub loop-pair-init : goal.loop-pair-init
loop-pair-init g c = λ x y. none_so_far (has_pair c.args.pairs.now.items x y)

pub loop-pair-preserved : goal.loop-pair-preserved
loop-pair-preserved g c = λ x y.
    let low = c.args.low in
    let row = c.args.row.now in
    let i = c.loop-pair.pair-index in
    let ps = c.loop-pair.pairs.items in
    let passes : ℕ × ℕ → Bool = λ (p : ℕ × ℕ). nat_lt low p.0
    && (is_member c.args.variables.now p.0 && is_active_local c.args.blocks.now p.1 c.args.at) in
    let next : ℕ × ℕ = get_or row i (0, 0) in
    let qs = c.if-is_active_higher_pair.pairs.items in
    let step : has_pair qs x y
    ≡ (has_pair ps x y || (nat_eq y next.0 && (nat_eq x low && passes next))) =
    elim c.if-is_active_higher_pair.branch [
      | then-is_active_higher_pair+in_ok-push w ↦
          pair_if_passing ps qs low next.0 x y (passes next)
          (sym c.is_active_higher_pair.ensures ∙ w.if-is_active_higher_pair.true)
          (ap (λ v. v.items) w.pairs-is ∙ w.in_ok-push.ensures.items)
      | else-is_active_higher_pair w ↦
          no_pair_if_failing ps qs low next.0 x y (passes next) (sym c.is_active_higher_pair.ensures
          ∙ w.if-is_active_higher_pair.false) (ap (λ v. v.items) w.pairs-is)
    ] in
    any_with_next_element (λ (p : ℕ × ℕ). nat_eq y p.0 && (nat_eq x low && passes p)) row i (0, 0)
    _ _ _ c.loop-pair-test.true (c.loop-pair.invariant x y) step

pub returns : goal.returns
returns g c = λ x y.
    c.loop-pair.invariant x y
    ∙ ap (λ (ps : List (ℕ × ℕ)). has_pair c.args.pairs.now.items x y
    || list_any (λ p. nat_eq y p.0 && (nat_eq x c.args.low && (nat_lt c.args.low p.0
    && (is_member c.args.variables.now p.0 && is_active_local c.args.blocks.now p.1 c.args.at))))
    ps)
    (take_all c.loop-pair.pair-index c.args.row.now c.loop-pair-test.false)
    ∙ ap (λ z. has_pair c.args.pairs.now.items x y || z)
    (walked_in_row (is_member c.args.variables.now)
    (λ j. is_active_local c.args.blocks.now j c.args.at) c.args.low x y c.args.row.now)
