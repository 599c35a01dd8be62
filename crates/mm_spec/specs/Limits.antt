-- The limits of a text, of a formula and of a run (this project's own).
use Rattle.std.specs.Prelude.{ℕ}

-- the greatest number of bytes of a text
abbrev pub text_limit : ℕ
text_limit = 2_147_483_647

-- the greatest number of symbols of a formula in a proof, its typecode included
abbrev pub formula_limit : ℕ
formula_limit = 1_048_576

-- the greatest number of pieces into which a text is cut by their number
abbrev pub piece_limit : ℕ
piece_limit = 64

-- the greatest number of workers that check proofs
abbrev pub worker_limit : ℕ
worker_limit = 64
