-- Of two blocks that are open, the one that was opened first stays open for as long as the other.
use Rattle.std.proofs.Common.{◌≡◌, ℕ, ◌<◌, ◌≤◌, true, List, arith, ◌⊎◌, inl, inr}
use Rattle.std.proofs.lemmas.Bool.{cases_lt}
use Rattle.mm_spec.specs.Statement.{Statement}
use Rattle.mm_spec.specs.Scope.{depth, is_block_open}
use Rattle.mm_spec.specs.Laws.Blocks.{InBlock}
use Rattle.mm_spec.proofs.ActivityLaw.{is_block_open_iff_in_block}
use Rattle.mm_spec.proofs.BoolLaw.{same_tests}

module _ (db : List Statement) where
  -- the block of statement j is open at k if it is open at a later statement
  pub open_at_earlier : (j k l : ℕ) → j ≤ k → k ≤ l → is_block_open db j l ≡ true
      → is_block_open db j k ≡ true
  open_at_earlier j k l j_le_k k_le_l j_is_open_at_l =
      let depth_stays = (is_block_open_iff_in_block db j l (omega arith)).0 j_is_open_at_l in
      (is_block_open_iff_in_block db j k j_le_k).1 (λ i a b. depth_stays i a (omega arith))

  -- to the end of the inner one is to where it began
  pub open_at_nested : (i j k : ℕ) → i < j → j ≤ k → is_block_open db j k ≡ true
      → is_block_open db i k ≡ is_block_open db i j
  open_at_nested i j k i_lt_j j_le_k j_is_open_at_k =
      same_tests (is_block_open db i k) (is_block_open db i j)
      (open_at_earlier i j k (omega arith) j_le_k)
      (λ i_is_open_at_j. (is_block_open_iff_in_block db i k (omega arith)).1
      (in_both_blocks ((is_block_open_iff_in_block db i j (omega arith)).0 i_is_open_at_j)
      ((is_block_open_iff_in_block db j k j_le_k).0 j_is_open_at_k)))
    where
      in_both_blocks : InBlock db i j → InBlock db j k → InBlock db i k
      in_both_blocks i_is_open_at_j j_block m i_le_m m_le_k = depth_le_m (cases_lt j m)
        where
          depth_le_m : (j < m) ⊎ (m ≤ j) → depth db i ≤ depth db m
          depth_le_m (inl m_order) =
              let depth_i_le_depth_j = i_is_open_at_j j i_lt_j (omega arith) in
              let depth_j_le_depth_m = j_block m m_order m_le_k in
              omega
              (arith, depth_i_le_depth_j, depth_j_le_depth_m)
          depth_le_m (inr m_order) = i_is_open_at_j m i_le_m m_order
