-- Frames are complete in a database whose lawful statements make them so.
use Rattle.std.proofs.Common.{◌≡◌, ℕ, true, false, List, [], ◌∷◌, length, Option, None, Some}
use Rattle.std.proofs.Common.{slice_get, refl, sym, ap, ap₂, ◌∙◌, ◌&&◌, true≢false}
use Rattle.std.specs.List.{list_any}
use Rattle.std.proofs.lemmas.Bool.{lt-ltb}
use Rattle.mm_spec.specs.Statement.{Statement, axiomatic, provable}
use Rattle.mm_spec.specs.Scope.{is_some_still_active, is_block_open}
use Rattle.mm_spec.specs.Frame.{frame_at}
use Rattle.mm_spec.specs.Laws.Complete.{IsComplete, AreComplete, variables_context}
use Rattle.mm_spec.specs.Citation.{context_at, referent_of, referent_at, is_assertion}
use Rattle.mm_spec.proofs.FindsLaw.{got_lt_length}
use Rattle.mm_rule.specs.Assertions.{is_assertion_at}

-- in a database whose frames are complete, so is that of each assertion
module _ (db : List Statement) (complete : AreComplete db) (j : ℕ) where
  at_end : (s : Statement) → slice_get db j ≡ Some s
      → is_some_still_active (Some s) (is_block_open db j (length db)) ≡ true
      → referent_at db (length db) j ≡ referent_of db j s
  at_end s s_at_j is_active =
      let before = lt-ltb j (length db) (got_lt_length db j s s_at_j) in
      ap₂ (λ b o. elim (b && is_some_still_active o (is_block_open db j (length db)))
      [ false ↦ None | true ↦ elim o [ None ↦ None | Some s ↦ referent_of db j s ] ]) before s_at_j
      ∙ ap (λ b. elim b [ false ↦ None | true ↦ referent_of db j s ]) is_active

  frame_complete : IsComplete (context_at db (length db)) (frame_at db j)
      → IsComplete (variables_context db) (frame_at db j)
  frame_complete h = record { hypotheses = h.hypotheses; formula = h.formula; pairs = h.pairs }

  pub complete_at : is_assertion_at db j ≡ true → IsComplete (variables_context db) (frame_at db j)
  complete_at j_is_assertion = frame_is_complete (slice_get db j) refl j_is_assertion
    where
      statement_is_complete : (s : Statement) → slice_get db j ≡ Some s
          → list_any is_assertion (s ∷ []) ≡ true
          → IsComplete (variables_context db) (frame_at db j)
      statement_is_complete (axiomatic l p xs d) s_at_j is_assertion_s =
          frame_complete (rw (at_end (axiomatic l p xs d) s_at_j refl) at (complete (length db) j))
      statement_is_complete (provable l p xs w ps d) s_at_j is_assertion_s = frame_complete
          (rw (at_end (provable l p xs w ps d) s_at_j refl) at (complete (length db) j))
      statement_is_complete _ s_at_j is_assertion_s = absurd (true≢false (sym is_assertion_s))

      frame_is_complete : (o : Option Statement) → slice_get db j ≡ o
          → list_any is_assertion (elim o [ None ↦ [] | Some s ↦ s ∷ [] ]) ≡ true
          → IsComplete (variables_context db) (frame_at db j)
      frame_is_complete None o_at_j is_assertion_o = absurd (true≢false (sym is_assertion_o))
      frame_is_complete (Some s) o_at_j is_assertion_o =
          statement_is_complete s o_at_j is_assertion_o
