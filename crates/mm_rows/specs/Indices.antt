-- The indices of statements in a list, by statement.
use Rattle.std.specs.Prelude.{◌≡◌, ◌≢◌, ℕ, ◌<◌, List, length, slice_index, get_or}
use Rattle.mm_rows.specs.declared.indices.TheConstants.{NO_INDEX}

-- for each statement its index among the first n of a list, or `NO_INDEX` if it isn't one of these
pub record AreIndicesOfFirst (list : List ℕ) (n : ℕ) (indices : List ℕ) : Type 0 where
  pub index_is_in_list : (s : ℕ) → get_or indices s NO_INDEX ≢ NO_INDEX
      → (get_or indices s NO_INDEX < n) × (slice_index list (get_or indices s NO_INDEX) ≡ s)
  pub each_has_index : (i : ℕ) → i < n → get_or indices (slice_index list i) NO_INDEX ≡ i

-- for each statement its index in the whole list
abbrev pub AreIndices : List ℕ → List ℕ → Type 0
AreIndices list indices = AreIndicesOfFirst list (length list) indices
