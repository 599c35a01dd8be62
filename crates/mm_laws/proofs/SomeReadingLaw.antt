-- Each text is read, up to what stops the reading.
use Rattle.std.proofs.Common.{◌≡◌, ℕ, ◌+◌, ◌<◌, List, [], ◌∷◌, ◌++◌, length, Option, Some, None}
use Rattle.std.proofs.Common.{refl, sym, ◌∙◌, append_assoc, length-append, arith}
use Rattle.mm_spec.specs.declared.Fault.{Fault}
use Rattle.mm_spec.specs.Statement.{Statement}
use Rattle.mm_spec.specs.Laws.Table.{statements_of}
use Rattle.mm_spec.specs.Lawful.{scope_fault}
use Rattle.mm_spec.specs.Lexed.{LexedText}
use Rattle.mm_spec.specs.Output.{StopsReading}
use Rattle.mm_laws.specs.Laws.SomeReading.{IsReadable}
use Rattle.mm_spec.proofs.LongestLaw.{read_statements_are_longest}
use Rattle.mm_spec.proofs.StopsLaw.{text_fault, text_fault_is, no_text_fault}

-- the first statements are lawful
abbrev AreLawful : List Statement → ℕ → Type 0
AreLawful list n = (k : ℕ) → k < n → scope_fault list k ≡ None

lawful_up_to_next : (list : List Statement) (n : ℕ) → AreLawful list n → scope_fault list n ≡ None
    → (m : ℕ) → m ≡ n + 1 → AreLawful list m
lawful_up_to_next list n are_lawful n_is_lawful m m_is k k_lt_m = grind arith

module _ (len : ℕ) (x : LexedText) where
  read_up_to : (db rest : List Statement) (o : Option Fault) → statements_of x.tokens ≡ db ++ rest
      → AreLawful (statements_of x.tokens) (length db)
      → StopsReading len x (statements_of x.tokens) db rest o → IsReadable len x
  read_up_to db rest o statements_are are_lawful stops = (
    db,
    o,
    record {
      statements = statements_of x.tokens;
      are_statements = read_statements_are_longest x.tokens;
      rest = rest;
      splits = statements_are;
      lawful = are_lawful;
      stops = stops;
    },
  )

  -- if the first statements of a text are lawful, the text has a reading
  read_from : (later db : List Statement) → statements_of x.tokens ≡ db ++ later
      → AreLawful (statements_of x.tokens) (length db) → IsReadable len x
  read_from [] db statements_are are_lawful = readable_by_text_fault (text_fault len x) refl
    where
      readable_by_text_fault : (o : Option Fault) → text_fault len x ≡ o → IsReadable len x
      readable_by_text_fault None found =
          read_up_to db [] None statements_are are_lawful (no_text_fault len x found)
      readable_by_text_fault (Some f) found =
          read_up_to db [] (Some f) statements_are are_lawful (text_fault_is len x f found)
  read_from (s ∷ later) db statements_are are_lawful =
      readable_by_scope_fault (scope_fault (statements_of x.tokens) (length db)) refl
      (λ is_lawful. read_from later (db ++ s ∷ []) (statements_are
      ∙ sym (append_assoc db (s ∷ []) later))
      (lawful_up_to_next (statements_of x.tokens) (length db) are_lawful is_lawful (length (db ++ s
      ∷ [])) (length-append db (s ∷ []))))
    where
      readable_by_scope_fault : (o : Option Fault)
          → scope_fault (statements_of x.tokens) (length db) ≡ o
          → (scope_fault (statements_of x.tokens) (length db) ≡ None → IsReadable len x)
          → IsReadable len x
      readable_by_scope_fault None found later_is_read = later_is_read found
      readable_by_scope_fault (Some f) found later_is_read = read_up_to db (s ∷ later) (Some f)
          statements_are are_lawful ((λ is_nil. cc), found)

  pub is_readable : IsReadable len x
  is_readable = read_from (statements_of x.tokens) [] refl (λ k k_lt_0. absurd (omega arith))
