-- A text has an output. (This project's own.)
use Rattle.std.specs.Prelude.{ℕ, List}
use Rattle.mm_spec.specs.Request.{Request}
use Rattle.mm_spec.specs.Output.{IsOutput}

-- each text has an output for each request
abbrev pub OutputExists : Type 0
OutputExists = (text : List ℕ) (request : Request) → (bytes : List ℕ) × IsOutput text request bytes
