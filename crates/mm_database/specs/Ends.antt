-- The ends of a word, which tell a short word from all others of its length.
use Rattle.std.specs.Prelude.{ℕ, ◌+◌, ◌-◌, ◌*◌, ◌/◌, nat_le, nat_lt}
use Rattle.std.specs.Prelude.{List, length, slice_index, if◌then◌else◌}

-- the four bytes of a word from i on as a number, the lowest first
abbrev pub number_at : List ℕ → ℕ → ℕ
number_at w i =
    slice_index w i + slice_index w (i + 1) * 256 + slice_index w (i + 2) * 65536
    + slice_index w (i + 3) * 16777216

-- the eight bytes of a word from i on as a number, the lowest first
abbrev pub wide_number_at : List ℕ → ℕ → ℕ
wide_number_at w i = number_at w i + number_at w (i + 4) * 4294967296

-- The first and the last eight bytes of a word. Of a word of four to seven bytes the first and the
-- last four, and of a shorter one the first byte, and the middle and the last one.
abbrev pub ends_of : List ℕ → ℕ × ℕ
ends_of w =
    if nat_le 8 (length w) then (wide_number_at w 0, wide_number_at w (length w - 8)) else
    (if nat_le 4 (length w) then (number_at w 0, number_at w (length w - 4)) else
    (if nat_lt 0 (length w) then (
      slice_index w 0,
      slice_index w (length w / 2) * 256 + slice_index w (length w - 1),
    ) else (0, 0)))
