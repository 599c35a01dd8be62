-- What is said of the statements of a text as they count, and as they were read.
use Rattle.std.proofs.Common.{ℕ, ◌<◌, List, length, Option, sym, ap, ◌∙◌}
use Rattle.mm_spec.specs.declared.Fault.{Fault}
use Rattle.mm_spec.specs.Statement.{Statement}
use Rattle.mm_spec.specs.Lawful.{scope_fault, IsLawful}
use Rattle.mm_spec.specs.Lexed.{LexedText}
use Rattle.mm_spec.specs.Output.{IsRead}
use Rattle.mm_laws.specs.Laws.Read.{WhereRead}
use Rattle.mm_laws.specs.Laws.Frames.{FramesAreComplete}
use Rattle.mm_spec.proofs.CompleteLaw.{reads_complete}
use Rattle.mm_spec.proofs.LocalLaw.{scope_fault_front}
use Rattle.mm_spec.proofs.OpenedLaw.{counted_complete}

-- each statement that was read is lawful
pub read_statements_are_lawful : (len : ℕ) (x : LexedText) (db : List Statement) (fault : Option
    Fault)
    → IsRead len x db fault → (k : ℕ) → k < length db → IsLawful db k
read_statements_are_lawful len x db fault is_read k k_lt_length =
    sym (scope_fault_front db is_read.rest k k_lt_length) ∙ ap (λ list. scope_fault list k)
    (sym is_read.splits)
    ∙ is_read.lawful k k_lt_length

-- frames are complete
pub frames_are_complete : WhereRead FramesAreComplete
frames_are_complete len x db fault is_read with_open = counted_complete with_open db (reads_complete
    len x db fault is_read)
