-- The next mark of a row, as chains of citations.
use Rattle.std.proofs.Common.{◌≡◌, ℕ, ◌<◌, ◌≤◌, Bool, true, false, true≢false, List, length, Option}
use Rattle.std.proofs.Common.{Some, None, sym, subst, arith, ◌∙◌}
use Rattle.std.specs.Prelude.{Decides, IfSome, IfNone, slice_index}
use Rattle.mm_spec.specs.Chains as chain
use Rattle.mm_spec.specs.Output.{theorems, columns}
use Rattle.mm_database.specs.Database.{Contents}
use Rattle.mm_cites.specs.Citing.{Citing, HasCitation}
use Rattle.mm_rows.specs.Marks.{Marks, mark}
use Rattle.mm_shifts.specs.Resting.{IsMarked, IsNextMarked, RestsInCell, resting}

module _ (d : Contents) (c : Citing) (axioms : List ℕ) (m : Marks)
    (is_marked : IsMarked d c axioms m) (row : ℕ)
    (row_lt_count : row < length (theorems d.statements)) where
  -- a cell decides
  cell_decides : (k : ℕ) → k < length (columns d.statements None)
      → Decides (mark m row k) (RestsInCell (resting d c) row k)
  cell_decides k k_lt_count =
      let row_within : row < length c.theorems =
      subst (λ (ts : List ℕ). row < length ts) (sym is_marked.theorems_are) row_lt_count in
      let k_within : k < length axioms =
      subst (λ (l : List ℕ). k < length l) (sym is_marked.axioms_are) k_lt_count in
      subst
      (λ (ts : List ℕ). Decides (mark m row k)
      (chain.RestsOn (HasCitation c) (slice_index ts row)
      (slice_index (columns d.statements None) k)))
      is_marked.theorems_are
      (subst
      (λ (l : List ℕ). Decides (mark m row k)
      (chain.RestsOn (HasCitation c) (slice_index c.theorems row) (slice_index l k)))
      is_marked.axioms_are (is_marked.is_matrix.marks_decide row k row_within k_within))

  column_count_is : m.columns ≡ length (columns d.statements None)
  column_count_is =
      subst (λ (l : List ℕ). m.columns ≡ length l) is_marked.axioms_are
      is_marked.is_matrix.columns_are

  unmarked_rests_not : (k : ℕ) → k < length (columns d.statements None) → mark m row k ≡ false
      → ¬ RestsInCell (resting d c) row k
  unmarked_rests_not k k_lt_count is_unmarked rests =
      true≢false (sym ((cell_decides k k_lt_count).1 rests) ∙ is_unmarked)

  pub next_is_marked : (from : ℕ) (found : Option ℕ)
      → IfSome found (λ j. (from ≤ j) × (j < m.columns) × (mark m row j ≡ true)
      × ((k : ℕ) → from ≤ k → k < j → mark m row k ≡ false))
      → IfNone found ((k : ℕ) → from ≤ k → k < m.columns → mark m row k ≡ false)
      → IsNextMarked (resting d c) row from found
  next_is_marked from (Some j) is_first none_is_there =
      let j_lt_count : j < length (columns d.statements None) =
      subst (λ (n : ℕ). j < n) column_count_is is_first.1 in (
        is_first.0,
        j_lt_count,
        (cell_decides j j_lt_count).0 is_first.2,
        λ k from_le_k k_lt_j. unmarked_rests_not k (omega (arith, k_lt_j, j_lt_count))
            (is_first.3 k from_le_k k_lt_j),
      )
  next_is_marked from None is_first none_is_there =
      λ k from_le_k k_lt_count. unmarked_rests_not k k_lt_count
      (none_is_there k from_le_k (subst (λ (n : ℕ). k < n) (sym column_count_is) k_lt_count))
