use Rattle.std.proofs.Common.{◌∙◌, Bool, true, refl, subst, arith, take_all, ℕ, List}
use Rattle.mm_spec.specs.Derivation.{is_member}
use Rattle.mm_frame.specs.Chains.{AddsInFront}
use Rattle.mm_frame.proofs.ChainsLaw.{test_with_next_symbol, chains_for_equal_tests}
use Rattle.mm_frame.proofs.chains.add_links.Goals as goal

pub loop-symbol-preserved : goal.loop-symbol-preserved
loop-symbol-preserved g c =
    let statement = c.args.statement in
    let any : ℕ → Bool = λ x. true in
    record {
      count = c.in_ok-add_link.ensures.head_count_stays ∙ c.loop-symbol.invariant.count;
      linked = c.in_ok-add_link.ensures.are_linked;
      chains = λ has are_chains.
          chains_for_equal_tests _ _ statement statement _ _ (omega arith)
          (test_with_next_symbol has any c.args.symbols.now c.loop-symbol.symbol-index _ _
          statement c.loop-symbol-test.true c.symbol-item.is refl)
          (c.in_ok-add_link.ensures.adds_in_front _
          (c.loop-symbol.invariant.chains has are_chains));
    }

pub returns-clause-adds_in_front : goal.returns-clause-adds_in_front
returns-clause-adds_in_front g c =
    subst (λ (ys : List ℕ). AddsInFront (λ x. is_member ys x) c.args.statement c.args.chains.now
    c.loop-symbol.chains)
    (take_all c.loop-symbol.symbol-index c.args.symbols.now c.loop-symbol-test.false)
    c.loop-symbol.invariant.chains
