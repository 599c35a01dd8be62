-- A text has at most one output. (This project's own.)
use Rattle.std.specs.Prelude.{◌≡◌, ℕ, List}
use Rattle.mm_spec.specs.Request.{Request}
use Rattle.mm_spec.specs.Output.{IsOutput}

-- a text has at most one output for a request
abbrev pub OutputIsUnique : Type 0
OutputIsUnique =
    (text : List ℕ) (request : Request) (a b : List ℕ) → IsOutput text request a
    → IsOutput text request b → a ≡ b
