use Rattle.std.proofs.Common.{◌≡◌, ◌∙◌, ◌&&◌, ◌||◌, not, Bool, ℕ, List, nat_eq, slice_index, ap}
use Rattle.std.proofs.Common.{ap₂, sym, refl, take_all, true, false}
use Rattle.mm_spec.specs.Derivation.{is_member}
use Rattle.mm_spec.specs.Frame.{is_variable_number}
use Rattle.mm_spec.proofs.MemberLaw.{member_push}
use Rattle.mm_frame.proofs.LoopsLaw.{passing_with_next_element}
use Rattle.mm_frame.proofs.hypotheses.list_further_variables.Goals.{then-is_further+in_ok-push}
use Rattle.mm_frame.proofs.hypotheses.list_further_variables.Goals.{else-is_further}
use Rattle.mm_frame.proofs.hypotheses.list_further_variables.Goals as goal

pub loop-symbol-init : goal.loop-symbol-init
loop-symbol-init g c = λ x. ap (λ xs. is_member xs x) c.clear.ensures.items

pub loop-symbol-preserved : goal.loop-symbol-preserved
loop-symbol-preserved g c = λ x.
    let s = c.symbol-item.result in
    let xs = c.loop-symbol.further.items in
    let ys = c.if-is_further.further.items in
    let passes : ℕ → Bool = λ (z : ℕ). is_variable_number c.args.statements.now.list z
    && not (nat_eq (slice_index c.args.stamps.now z) c.args.stamp) in
    let step : is_member ys x ≡ (is_member xs x || (nat_eq x s && passes s)) =
    elim c.if-is_further.branch [
      | then-is_further+in_ok-push w ↦
          ap (λ (v : List ℕ). is_member v x)
          (ap (λ v. v.items) w.further-is ∙ w.in_ok-push.ensures.items)
          ∙ member_push xs w.number.result x
          ∙ with_test (is_member xs x) (nat_eq x w.number.result)
          ∙ ap₂ (λ (z : ℕ) (c : Bool). is_member xs x || (nat_eq x z && c)) w.number.ensures
          (sym (sym c.is_further.ensures ∙ w.if-is_further.true))
      | else-is_further w ↦
          ap (λ v. is_member v.items x) w.further-is
          ∙ without_test (is_member xs x) (nat_eq x s)
          ∙ ap (λ (c : Bool). is_member xs x || (nat_eq x s && c))
          (sym (sym c.is_further.ensures ∙ w.if-is_further.false))
    ] in
    passing_with_next_element passes c.args.symbols.now c.loop-symbol.symbol-index s s x false _ _
    c.loop-symbol-test.true c.symbol-item.is (c.loop-symbol.invariant x) step
  where
    with_test : (o e : Bool) → (o || e) ≡ (o || (e && true))
    with_test true e = refl
    with_test false true = refl
    with_test false false = refl

    without_test : (o e : Bool) → o ≡ (o || (e && false))
    without_test true e = refl
    without_test false true = refl
    without_test false false = refl

pub returns : goal.returns
returns g c = λ x.
    c.sort_and_dedup_numbers.ensures.members_stay x
    ∙ c.loop-symbol.invariant x
    ∙ ap (λ (xs : List ℕ). is_member xs x && (is_variable_number c.args.statements.now.list x
    && not (nat_eq (slice_index c.args.stamps.now x) c.args.stamp)))
    (take_all c.loop-symbol.symbol-index c.args.symbols.now c.loop-symbol-test.false)
