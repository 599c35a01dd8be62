-- A text has no more statements than bytes.
use Rattle.std.proofs.Common.{ℕ, ◌≤◌, List, [], ◌∷◌, flat_map, length, Option, ap, arith}
use Rattle.std.proofs.Common.{length-append}
use Rattle.std.proofs.lemmas.List.{length-map}
use Rattle.mm_spec.specs.declared.Fault.{Fault}
use Rattle.mm_spec.specs.Lexed.{tokens_of, lexed_of}
use Rattle.mm_spec.specs.Statement.{Statement, constants, spelling_of}
use Rattle.mm_spec.specs.Output.{IsRead}
use Rattle.mm_outline.specs.Parts.{token_of}
use Rattle.mm_outline.proofs.TokensLaw.{tokens_le_bytes_of_text}

-- a statement has a token
statement_has_token : (s : Statement) → 1 ≤ length (spelling_of s)
statement_has_token (constants k xs d) = omega arith
statement_has_token _ = omega arith

-- statements are no more than their tokens
statements_le_tokens : (db : List Statement) → length db ≤ length (flat_map spelling_of db)
statements_le_tokens [] = omega arith
statements_le_tokens (s ∷ db) =
    omega (
      arith,
      statement_has_token s,
      statements_le_tokens db,
      length-append (spelling_of s) (flat_map spelling_of db),
    )

-- the statements that were read are no more than the bytes of the text
pub statements_le_bytes : (text : List ℕ) (db : List Statement) (fault : Option Fault)
    → IsRead (length text) (lexed_of text) db fault → length db ≤ length text
statements_le_bytes text db fault is_read =
    omega (
      arith,
      statements_le_tokens is_read.statements,
      ap length is_read.are_statements.splits,
      ap length is_read.splits,
      length-map (tokens_of text) (token_of text),
      tokens_le_bytes_of_text text,
      length-append (flat_map spelling_of is_read.statements)
          is_read.are_statements.rest,
      length-append db is_read.rest,
    )
