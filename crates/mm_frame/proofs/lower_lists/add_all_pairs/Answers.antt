use Rattle.std.proofs.Common.{◌∙◌, ◌&&◌, refl, take, take_all, subst, nat_lt, List, ℕ}
use Rattle.mm_spec.specs.Derivation.{is_member}
use Rattle.mm_frame.specs.LowerLists.{AddsToLists}
use Rattle.mm_frame.proofs.LowerListsLaw.{adds_both, adds_nothing, lower_with_symbol}
use Rattle.mm_frame.proofs.lower_lists.add_all_pairs.Goals as goal

pub loop-low-init : goal.loop-low-init
loop-low-init g c =
    let xs = c.args.symbols.now in
    record {
      count = refl;
      adds =
          adds_nothing (λ y x. is_member (take 0 xs) x && (nat_lt x y && is_member xs y))
          c.args.statement c.args.lists.now (λ y x. refl);
    }

pub loop-low-preserved : goal.loop-low-preserved
loop-low-preserved g c =
    let xs = c.args.symbols.now in
    record {
      count = c.in_ok-add_to_higher.ensures.list_count_stays ∙ c.loop-low.invariant.count;
      adds =
          adds_both _ _ _ c.args.statement c.args.lists.now c.loop-low.lists _
          (lower_with_symbol 0 c.args.statement xs c.loop-low.low-index _ c.low-item.result
          c.loop-low-test.true c.low-item.is xs)
          c.loop-low.invariant.adds c.in_ok-add_to_higher.ensures.adds_to_lists;
    }

pub returns-clause-adds_to_lists : goal.returns-clause-adds_to_lists
returns-clause-adds_to_lists g c =
    let xs = c.args.symbols.now in
    subst
    (λ (ys : List ℕ). AddsToLists (λ y x. is_member ys x && (nat_lt x y && is_member xs y))
    c.args.statement c.args.lists.now c.loop-low.lists)
    (take_all c.loop-low.low-index xs c.loop-low-test.false) c.loop-low.invariant.adds
