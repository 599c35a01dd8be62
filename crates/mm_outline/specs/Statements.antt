-- The statements of a text by their outlines, and the fault at its end.
use Rattle.std.specs.Prelude.{ℕ, zero, suc, Bool, true, false, List, map, Option, None, Some}
use Rattle.mm_spec.specs.Statement.{Statement}
use Rattle.mm_spec.specs.Lexed.{LexedText}
use Rattle.mm_spec.specs.declared.Word.{Word}
use Rattle.mm_spec.specs.declared.Fault.{Fault}
use Rattle.mm_outline.specs.Parts.{as_tokens, statement_of}
use Rattle.mm_outline.specs.declared.parts.Kind.{Kind}
use Rattle.mm_outline.specs.declared.parts.Kind.TheVariants as kind
use Rattle.mm_outline.specs.declared.parts.Outline.{Outline}
use Rattle.mm_spec.specs.Text.{fault}
use Rattle.mm_outline.specs.declared.parts.Part.{Part}
use Rattle.mm_outline.specs.declared.parts.Part.TheVariants.{Start}
use Rattle.mm_spec.specs.declared.Code.TheVariants.{OpenStatement, OpenBlock}

-- a text as it is lexed: its tokens, and its lexical fault if there is one
abbrev pub lexed : List ℕ → List Word → Option Fault → LexedText
lexed text ws fault = record { tokens = as_tokens text ws; fault = fault }

-- the statements with these outlines
abbrev pub statements : List ℕ → List Word → List Outline → List Statement
statements text ws os = map (statement_of text ws) os

-- the fault at the end of a text of this length: the lexical one, or else that a statement or a
-- block is open, by the part of a statement that has been read and the number of open blocks
abbrev pub end_fault_of : Option Fault → ℕ → Part → ℕ → Option Fault
end_fault_of (Some f) len part d = Some f
end_fault_of None len Start zero = None
end_fault_of None len Start (suc d) = Some (fault len OpenBlock)
end_fault_of None len _ d = Some (fault len OpenStatement)

-- whether an earlier statement of a kind is active, by whether its block is open
abbrev pub is_active_kind : Kind → Bool → Bool
is_active_kind kind.Constants is_block_open = true
is_active_kind kind.Axiom is_block_open = true
is_active_kind kind.Theorem is_block_open = true
is_active_kind kind.Open is_block_open = false
is_active_kind kind.Close is_block_open = false
is_active_kind _ is_block_open = is_block_open
