-- The frames of the assertions.
use Rattle.std.specs.Prelude.{◌≡◌, ℕ, ◌<◌, ◌≤◌, ◌+◌, ◌-◌, ◌⊎◌, List, length, map, nat_eq}
use Rattle.std.specs.Prelude.{slice_get, slice_index, Option, Some, None, if◌then◌else◌}
use Rattle.std.specs.List.{list_any, range_with_len}
use Rattle.std.specs.Option.{option_map}
use Rattle.mm_spec.specs.Statement.{Statement}
use Rattle.mm_spec.specs.Scope.{statement_at}
use Rattle.mm_spec.specs.Derivation.{Pair, pair}
use Rattle.mm_spec.specs.Frame.{mandatory_hypotheses, mandatory_pairs}
use Rattle.mm_spec.specs.Citation.{is_assertion}
use Rattle.mm_outline.specs.Blocks.{never}
use Rattle.mm_database.specs.declared.frames.Frame.{Frame}

-- what is mandatory for an assertion: hypotheses, by their statements, and pairs of disjoint
-- variables
pub record Mandatory : Type 0 where
  pub hypotheses : List ℕ
  pub pairs : List Pair

abbrev pub mandatory : List ℕ → List Pair → Mandatory
mandatory hypotheses pairs = record { hypotheses = hypotheses; pairs = pairs }

abbrev pub mandatory_at : List Statement → ℕ → Mandatory
mandatory_at db k = mandatory (mandatory_hypotheses db k) (mandatory_pairs db k)

-- what is mandatory for statement k, if it is an assertion
abbrev pub frame_or_none : List Statement → ℕ → Option Mandatory
frame_or_none db k =
    if list_any is_assertion (statement_at db k) then Some (mandatory_at db k) else None

-- the frames of the assertions before statement k, by statements
abbrev pub frames_before : List Statement → ℕ → List (Option Mandatory)
frames_before db k = map (frame_or_none db) (range_with_len 0 k)

-- the frames of the assertions among the statements from `from` up to `to`, by statements
abbrev pub frames_between : List Statement → ℕ → ℕ → List (Option Mandatory)
frames_between db from to = map (frame_or_none db) (range_with_len from (to - from))

-- the index of a frame, once that many frames more are before it; `never` stays
abbrev pub shifted_index : ℕ → ℕ → ℕ
shifted_index shift index = if nat_eq index never then never else index + shift

module _ {A : Type 0} where
  abbrev pub mandatory_in : Frame A → Mandatory
  mandatory_in f = mandatory f.hyps.items (map (λ p. pair p.0 p.1) f.pairs.items)

  -- the frame of each statement by its index, none if the index is past the end of the frames
  abbrev pub frames_at : List (Frame A) → List ℕ → List (Option Mandatory)
  frames_at frames indices = map (λ p. option_map mandatory_in (slice_get frames p)) indices

-- each index is that of one of the frames, or `never`, which is past their end
pub record AreFrameIndices (count : ℕ) (indices : List ℕ) : Type 0 where
  pub count_le_length : count ≤ length indices
  pub count_le_never : count ≤ never
  pub index_known_or_never : (i : ℕ) → i < length indices
      → (slice_index indices i < count) ⊎ (slice_index indices i ≡ never)
