use Rattle.std.proofs.Common.{◌≡◌, ◌∙◌, ◌+◌, ◌-◌, ◌<◌, ℕ, List, length, get_or, refl, sym, ap}
use Rattle.std.proofs.Common.{arith, replicate, false}
use Rattle.std.proofs.lemmas.List.{length-replicate, get_or-replicate}
use Rattle.mm_frame.proofs.ChainsLaw.{no_chains_at_start, no_links_are_linked, has_symbol_lt_length}
use Rattle.mm_frame.proofs.ChainsLaw.{chains_for_equal_tests, symbol_lt_symbol_count}
use Rattle.mm_frame.proofs.ChainsLaw.{has_symbol_with_disjoint, has_symbol_without_disjoint}
use Rattle.mm_database.specs.DisjointIndex.{has_symbol_by_width}
use Rattle.mm_frame.proofs.chains.chains_of.Goals as goal

pub loop-statement-init : goal.loop-statement-init
loop-statement-init g c =
    let db = c.args.statements.now.list in
    let heads = c.in_ok-heads.heads.items in
    let n = c.symbol_count.result in
    let heads_are_zeros : heads ≡ replicate n 0 =
    c.in_ok-heads.ensures.items_if_clones_equal (λ y len_is_length. len_is_length) in
    let length_heads_is_n : length heads ≡ n = ap length heads_are_zeros ∙ length-replicate n 0 in
    let heads_are_0 : (x : ℕ) → x < length heads → get_or heads x 0 ≡ 0 =
    λ x x_lt_length. ap (λ (ys : List ℕ). get_or ys x 0) heads_are_zeros
    ∙ get_or-replicate n x 0 0 (omega (arith, x_lt_length, length_heads_is_n)) in
    record {
      statement_le_length = let len_is_length = c.len-statement.ensures.len in
          omega (arith, len_is_length);
      count = length_heads_is_n ∙ c.symbol_count.ensures.count_is;
      linked = rw c.new.ensures.items (no_links_are_linked heads heads_are_0);
      chains = rw (c.new.ensures.items, c.len-statement.ensures.len)
          (no_chains_at_start (length db) (has_symbol_by_width db false) heads
          (has_symbol_lt_length db false) heads_are_0);
    }

pub loop-statement-preserved-in-Continue-branch-2 :
    goal.loop-statement-preserved-in-Continue-branch-2
loop-statement-preserved-in-Continue-branch-2 g c =
    let db = c.args.statements.now.list in
    let statement = c.loop-statement.statement in
    let statement_gt_0 = c.loop-statement-test.true in
    let statement_is_next : statement ≡ (statement - 1) + 1 = omega (arith, statement_gt_0) in
    record {
      statement_le_length = let statement_le_length =
          c.loop-statement.invariant.statement_le_length in
          omega (arith, statement_le_length);
      count = c.in_ok-add_links.ensures.head_count_stays ∙ c.loop-statement.invariant.count;
      linked = c.in_ok-add_links.ensures.are_linked;
      chains =
          chains_for_equal_tests _ _ (statement - 1) (statement - 1) _ _ (omega arith)
          (λ x j. has_symbol_with_disjoint db false (statement - 1) x j statement
          c.formula.result.now
          statement_is_next
          c.formula.ensures.formula (sym c.is_disjoint_by_width.ensures
          ∙ c.if-is_disjoint_by_width.true))
          (c.in_ok-add_links.ensures.adds_in_front _
          (chains_for_equal_tests _ _ (statement - 1) statement _ _ (omega arith) (λ x j. refl)
          c.loop-statement.invariant.chains));
    }

pub loop-statement-preserved : goal.loop-statement-preserved
loop-statement-preserved g c =
    let db = c.args.statements.now.list in
    let statement = c.loop-statement.statement in
    let statement_gt_0 = c.loop-statement-test.true in
    let statement_is_next : statement ≡ (statement - 1) + 1 = omega (arith, statement_gt_0) in
    record {
      statement_le_length = let statement_le_length =
          c.loop-statement.invariant.statement_le_length in
          omega (arith, statement_le_length);
      count = c.loop-statement.invariant.count;
      linked = c.loop-statement.invariant.linked;
      chains =
          chains_for_equal_tests _ _ (statement - 1) statement _ _ (omega arith)
          (λ x j. has_symbol_without_disjoint db false (statement - 1) x j statement
          statement_is_next
          (sym c.is_disjoint_by_width.ensures ∙ c.if-is_disjoint_by_width.false))
          c.loop-statement.invariant.chains;
    }

pub returns-clause-symbols_have_heads : goal.returns-clause-symbols_have_heads
returns-clause-symbols_have_heads g c = λ x j j_has_x.
    let x_lt_symbol_count =
    symbol_lt_symbol_count c.args.statements.now.list c.len-statement.ensures.is_sound false
    x j j_has_x
    in
    omega (arith, x_lt_symbol_count, c.loop-statement.invariant.count)
