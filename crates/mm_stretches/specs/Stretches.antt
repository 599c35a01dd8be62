-- Numbers cut into stretches of one size.
use Rattle.std.specs.Prelude.{ℕ, ◌+◌, ◌*◌, ◌/◌, min}

-- the first number of a stretch, or `count` if the numbers end before it
abbrev pub stretch_start : ℕ → ℕ → ℕ → ℕ
stretch_start size count index = min (size * index) count

-- how many stretches have all numbers
abbrev pub stretch_count : ℕ → ℕ → ℕ
stretch_count size count = count / size + 1
