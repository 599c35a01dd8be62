-- Bad bytes, and sets of bytes as masks (Metamath book, "Preliminaries").
use Rattle.std.specs.Prelude.{ℕ, Bool, List, map, not, ◌&&◌}
use Rattle.std.specs.Simd.Lanes.{mask_l}
use Rattle.mm_spec.specs.Bytes.{is_white, is_printable}

-- whether the byte is neither white space nor printable
unfoldable pub is_bad : ℕ → Bool
is_bad b = not (is_white b) && not (is_printable b)

-- the number whose bit i is 1 exactly if there is a byte i and it is in the set
abbrev pub mask : (ℕ → Bool) → List ℕ → ℕ
mask set bytes = mask_l (map set bytes)
