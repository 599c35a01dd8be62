use Rattle.std.proofs.Common.{◌∙◌, ◌<◌, ◌≤◌, ◌&&◌, arith, refl, take, take_all, subst}
use Rattle.std.proofs.Common.{length, nat_eq, nat_lt, List, ℕ}
use Rattle.std.proofs.lemmas.List.{length-set}
use Rattle.mm_spec.specs.Derivation.{is_member}
use Rattle.mm_frame.specs.LowerLists.{AddsToLists}
use Rattle.mm_frame.proofs.LowerListsLaw.{adds_both, adds_nothing, adds_of_equal_tests, adds_pair}
use Rattle.mm_frame.proofs.LowerListsLaw.{higher_with_symbol, higher_without_symbol}
use Rattle.mm_frame.proofs.lower_lists.add_to_higher.Goals.{then-number+in_ok-push, else-number}
use Rattle.mm_frame.proofs.lower_lists.add_to_higher.Goals as goal

pub loop-symbol-init : goal.loop-symbol-init
loop-symbol-init g c = record {
  count = refl;
  adds =
      adds_nothing
      (λ y x. nat_eq x c.args.low && (nat_lt x y && is_member (take 0 c.args.symbols.now) y))
      c.args.statement c.args.lists.now (λ y x. grind arith);
}

pub loop-symbol-preserved : goal.loop-symbol-preserved
loop-symbol-preserved g c =
    let low = c.args.low in
    let k = c.args.statement in
    let xs = c.args.symbols.now in
    let i = c.loop-symbol.symbol-index in
    let lists = c.loop-symbol.lists in
    elim c.if-number.branch [
      | then-number+in_ok-push w ↦
          let s = w.number-then-number.result in
          let list = w.push.new.self in
          let is_lower = w.if-number.true in
          let low_lt : low < s = omega (
            arith,
            is_lower,
            c.number.ensures,
            c.number-in-loop-symbol.ensures,
            w.number-then-number.ensures,
          ) in
          let s_is = w.number-then-number.ensures ∙ c.symbol-item.is in
          let s_lt : s < length lists = omega (
            arith,
            c.requires i 0 c.loop-symbol-test.true,
            s_is,
            c.loop-symbol.invariant.count,
          ) in
          rw w.lists-is (record {
            count = length-set lists s list ∙ c.loop-symbol.invariant.count;
            adds =
                adds_both _ _ _ k c.args.lists.now lists _
                (higher_with_symbol low k xs i _ s c.loop-symbol-test.true s_is low_lt)
                c.loop-symbol.invariant.adds (adds_pair k low _ s lists list _ s_lt
                w.number-then-number-2.ensures w.in_ok-push.ensures.items);
          })
      | else-number w ↦ rw w.lists-is (record {
        count = c.loop-symbol.invariant.count;
        adds =
            adds_of_equal_tests _ _ k c.args.lists.now lists
            (higher_without_symbol low k xs i _ c.number-in-loop-symbol.result
            c.loop-symbol-test.true (c.number-in-loop-symbol.ensures ∙ c.symbol-item.is)
            (subst (λ n. c.number-in-loop-symbol.result ≤ n) c.number.ensures w.if-number.false))
            c.loop-symbol.invariant.adds;
      })
    ]

pub returns-clause-adds_to_lists : goal.returns-clause-adds_to_lists
returns-clause-adds_to_lists g c =
    subst
    (λ (ys : List ℕ). AddsToLists (λ y x. nat_eq x c.args.low && (nat_lt x y && is_member ys y))
    c.args.statement c.args.lists.now c.loop-symbol.lists)
    (take_all c.loop-symbol.symbol-index c.args.symbols.now c.loop-symbol-test.false)
    c.loop-symbol.invariant.adds
