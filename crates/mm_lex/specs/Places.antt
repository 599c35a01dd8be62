-- The places at which texts of a given length are cut.
use Rattle.std.specs.Prelude.{ℕ, ◌+◌, ◌<◌, ◌≤◌, List, length, slice_index}
use Rattle.mm_lex.specs.declared.cuts.CutsFault.{CutsFault}
use Rattle.mm_lex.specs.declared.cuts.CutsFault.TheVariants.{NotSorted, PastEnd}

pub record CutText : Type 0 where
  pub places : List ℕ
  pub len : ℕ

abbrev pub cut_text : List ℕ → ℕ → CutText
cut_text places len = record { places = places; len = len }

-- no place is less than the one before it
abbrev pub AreSorted : List ℕ → Type 0
AreSorted xs = (i : ℕ) → i + 1 < length xs → slice_index xs i ≤ slice_index xs (i + 1)

-- no place is above the length
abbrev pub IsWithin : CutText → Type 0
IsWithin c = (i : ℕ) → i < length c.places → slice_index c.places i ≤ c.len

pub record IsCutText (c : CutText) : Type 0 where
  pub places_are_sorted : AreSorted c.places
  pub places_le_length : IsWithin c

-- why places are refused
abbrev pub IsRefused : CutsFault → CutText → Type 0
IsRefused NotSorted c =
    (i : ℕ) × (i + 1 < length c.places) × (slice_index c.places (i + 1) < slice_index c.places i)
IsRefused PastEnd c =
    AreSorted c.places × ((i : ℕ) × (i < length c.places) × (c.len < slice_index c.places i))
