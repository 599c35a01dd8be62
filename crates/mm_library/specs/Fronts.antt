-- Bytes at the front of memory that may be too short for them (this project's own).
use Rattle.std.specs.Prelude.{◌≡◌, ℕ, List, ◌∷◌, ◌++◌, length, take}

-- as many of the bytes as `out` holds stand at its front
abbrev pub IsAtFront : List ℕ → List ℕ → Type 0
IsAtFront bytes out = take (length bytes) out ≡ take (length out) bytes

-- as one list: the name of a slice, what was in it before (its length first), and what was written
abbrev pub front_contents : (name : ℕ) → (before written : List ℕ) → List ℕ
front_contents name before written = name ∷ (length before ∷ (before ++ written))
