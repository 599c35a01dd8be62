-- The last statement of a kind that is active at a statement.
use Rattle.std.specs.Prelude.{◌≡◌, ◌≢◌, ℕ, ◌+◌, ◌<◌, ◌≤◌, Bool, true, false, ◌&&◌, not}
use Rattle.std.specs.Prelude.{List, length, slice_index, ◌⊎◌, if◌then◌else◌}
use Rattle.std.specs.List.{list_any}
use Rattle.mm_spec.specs.Statement.{Statement, disjoint, floating, essential}
use Rattle.mm_spec.specs.Scope.{statement_at, is_block_open}
use Rattle.mm_spec.specs.Frame.{is_essential}
use Rattle.mm_outline.specs.Blocks.{never}
use Rattle.mm_outline.specs.declared.parts.Kind.{Kind}
use Rattle.mm_outline.specs.declared.parts.Kind.TheVariants as kind

-- the statements of which frames are made: a `$d`, a `$e` or a `$f`
abbrev pub is_frame_part : Statement → Bool
is_frame_part (disjoint k xs d) = true
is_frame_part (floating l k xs d) = true
is_frame_part (essential l k xs d) = true
is_frame_part _ = false

-- all of them, or the `$e` alone
abbrev pub is_part : (essentials_alone : Bool) → Statement → Bool
is_part essentials_alone = if essentials_alone then is_essential else is_frame_part

-- the same by its kind
abbrev pub is_part_kind : (essentials_alone : Bool) → Kind → Bool
is_part_kind essentials_alone kind.Essential = true
is_part_kind essentials_alone kind.Disjoint = not essentials_alone
is_part_kind essentials_alone kind.Floating = not essentials_alone
is_part_kind essentials_alone _ = false

module _ (test : Statement → Bool) (db : List Statement) where
  -- statement j is of the kind, and its block is open at k
  abbrev pub is_staying : ℕ → ℕ → Bool
  is_staying j k = list_any test (statement_at db j) && is_block_open db j k

  -- no statement of the kind after `last` is active at k; `last` may be `never`, for none
  pub record IsCandidate (k last : ℕ) : Type 0 where
    pub last_is_of_kind : last ≢ never → (last < k) × (list_any test (statement_at db last) ≡ true)
    pub later_are_not_staying : (i : ℕ) → i < k → (last < i) ⊎ (last ≡ never)
        → is_staying i k ≡ false

  -- no statement of the kind after `last` is active at k, and `last` is; it may be `never`, for
  -- none
  pub record IsLatest (k last : ℕ) : Type 0 where
    pub last_is_staying : last ≢ never → (last < k) × (is_staying last k ≡ true)
    pub later_are_not_staying : (i : ℕ) → i < k → (last < i) ⊎ (last ≡ never)
        → is_staying i k ≡ false

  -- the last one that is active at each statement and at the end
  pub record AreLatest (lasts : List ℕ) : Type 0 where
    pub count : length lasts ≡ length db + 1
    pub each_is_latest : (k : ℕ) → k ≤ length db → IsLatest k (slice_index lasts k)
