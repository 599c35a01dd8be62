-- Statements that are decided.
use Rattle.std.specs.Prelude.{Bool, Decides}

-- one of the two truth values says whether P holds
abbrev pub IsDecided : Type 0 → Type 0
IsDecided P = (mark : Bool) × Decides mark P
