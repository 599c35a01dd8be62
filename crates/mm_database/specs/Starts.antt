-- Where the pairs of each symbol begin.
use Rattle.std.specs.Prelude.{ℕ, ◌<◌, ◌≤◌, List, length, get_or}

-- the first `start` pairs are of symbols before x, and all after them are of x or a later symbol
pub record IsStart (ps : List (ℕ × ℕ)) (x start : ℕ) : Type 0 where
  pub start_le_length : start ≤ length ps
  pub earlier_are_lower : (p : ℕ) → p < start → (get_or ps p (0, 0)).0 < x
  pub later_are_no_lower : (p : ℕ) → start ≤ p → p < length ps → x ≤ (get_or ps p (0, 0)).0

-- the starts of all symbols; symbols past the end of the list have no pairs
abbrev pub AreStarts : List (ℕ × ℕ) → List ℕ → Type 0
AreStarts ps starts = (x : ℕ) → IsStart ps x (get_or starts x (length ps))
