-- A variable is active exactly where its last declaration is.
use Rattle.std.proofs.Common.{◌≡◌, ℕ, ◌+◌, ◌<◌, Bool, true, false, ◌&&◌, List, [], ◌∷◌, ◌++◌}
use Rattle.std.proofs.Common.{length, flat_map, slice_get, nat_le, refl, sym, ap, ap₂, ◌∙◌, arith}
use Rattle.std.proofs.Common.{true≢false, ◌⊎◌, inl, inr, length-append, nat_lt, Option, None, Some}
use Rattle.std.specs.List.{list_any, range_with_len}
use Rattle.mm_spec.specs.Text.{Bytes, is_in}
use Rattle.mm_spec.specs.Statement.{Statement}
use Rattle.mm_spec.specs.Scope.{active_at, is_some_still_active, active_statements, depth}
use Rattle.mm_spec.specs.Scope.{is_block_open}
use Rattle.mm_spec.proofs.LocalLaw.{get_front, get_at_seam}
use Rattle.std.proofs.lemmas.Bool.{lt-ltb, cases_lt}
use Rattle.mm_spec.proofs.FindsLaw.{range_any}
use Rattle.mm_spec.proofs.ListLaw.{none_passes_no_any}
use Rattle.mm_outline.proofs.ActiveWordsLaw.{word_of_active_is_any}
use Rattle.mm_outline.proofs.BlocksLaw.{open_after_one_more}
use Rattle.mm_scope.specs.WordEntry.{Latest}
use Rattle.mm_outline.specs.Typed.{has_word}

module _ (db : List Statement) (f : Statement → List Bytes) (w : Bytes) where
  -- a word is in an active statement exactly if the last that has it is active
  pub in_active_iff_latest_active : (last : ℕ) → Latest db f w last
      → is_in w (flat_map f (active_statements db (length db))) ≡ active_at db last (length db)
  in_active_iff_latest_active last latest =
      word_of_active_is_any db f w (λ j. active_at db j (length db)) (length db) 0
      ∙ some_active_has_word (active_at db last (length db)) refl
    where
      some_active_has_word : (b : Bool) → active_at db last (length db) ≡ b
          → list_any (λ j. active_at db j (length db) && has_word db f w j)
          (range_with_len 0 (length db))
          ≡ b
      some_active_has_word true last_is_b =
          range_any (λ j. active_at db j (length db) && has_word db f w j) (length db) 0 last
          (omega arith) (let j_lt_length = latest.last_lt_length in
          omega (arith, j_lt_length)) (ap₂ (λ a b. a && b) last_is_b latest.last_has_word)
      some_active_has_word false last_is_b =
          none_passes_no_any (λ j. active_at db j (length db) && has_word db f w j) (length db) 0
          (λ j j_lt_length. grind (arith, latest.active_is_last j (omega arith)))

-- ---- one statement more

module _ (db : List Statement) (s : Statement) where
  -- what is active after one statement more was active before it
  active_before_if_active_after : (j : ℕ) → j < length db
      → active_at (db ++ s ∷ []) j (length db + 1) ≡ true
      → active_at db j (length db) ≡ true
  active_before_if_active_after j j_lt_length j_is_active_after =
      rw (lt-ltb j (length db) j_lt_length)
      (was_active (slice_get db j) (is_block_open db j (length db))
      (nat_le (depth db j) (depth (db ++ s ∷ []) (length db + 1)))
      (ap (λ z. z
      && is_some_still_active (slice_get db j)
      (is_block_open db j (length db)
      && nat_le (depth db j) (depth (db ++ s ∷ []) (length db + 1))))
      (sym (lt-ltb j (length db + 1) (omega arith)))
      ∙ ap₂ (λ o z. nat_lt j (length db + 1) && is_some_still_active o z)
      (sym (get_front db (s ∷ []) j j_lt_length)) (sym (open_after_one_more db s j j_lt_length))
      ∙ j_is_active_after))
    where
      was_active : (o : Option Statement) (a b : Bool) → is_some_still_active o (a && b) ≡ true
          → is_some_still_active o a ≡ true
      was_active None a b j_is_active_after = j_is_active_after
      was_active (Some t) a b j_is_active_after = grind arith

  module _ (f : Statement → List Bytes) (w : Bytes) where
    -- an earlier statement has the same words with one statement more
    has_word_in_front : (j : ℕ) → j < length db → has_word (db ++ s ∷ []) f w j ≡ has_word db f w j
    has_word_in_front j j_lt_length =
        ap (λ o. is_in w (flat_map f (elim o [ None ↦ [] | Some t ↦ t ∷ [] ])))
        (get_front db (s ∷ []) j j_lt_length)

    -- the last statement has its own words
    has_word_at_end : has_word (db ++ s ∷ []) f w (length db) ≡ is_in w (f s ++ [])
    has_word_at_end =
        ap (λ o. is_in w (flat_map f (elim o [ None ↦ [] | Some t ↦ t ∷ [] ])))
        (get_at_seam db s [])

    -- an active statement that has the word is an earlier one that was active, or the last
    before_or_last : (j : ℕ) → j < length (db ++ s ∷ []) → has_word (db ++ s ∷ []) f w j ≡ true
        → active_at (db ++ s ∷ []) j (length (db ++ s ∷ [])) ≡ true
        → ((j < length db) × (has_word db f w j ≡ true) × (active_at db j (length db) ≡ true))
        ⊎ ((j ≡ length db) × (is_in w (f s ++ []) ≡ true))
    before_or_last j j_lt_new_length j_has_word j_is_active = elim (cases_lt j (length db)) [
      | inl j_lt_length ↦ inl (
        j_lt_length,
        sym (has_word_in_front j j_lt_length) ∙ j_has_word,
        active_before_if_active_after j j_lt_length
            (ap (active_at (db ++ s ∷ []) j) (sym (length-append db (s ∷ [])))
            ∙ j_is_active),
      )
      | inr length_le_j ↦
          let j_is_last : j ≡ length db =
          omega (arith, j_lt_new_length, length_le_j, length-append db (s ∷ [])) in
          inr (
            j_is_last,
            sym has_word_at_end
                ∙ ap (has_word (db ++ s ∷ []) f w) (sym j_is_last) ∙ j_has_word,
          )
    ]

    -- the statement has not the word
    pub latest_unchanged : (last : ℕ) → Latest db f w last → is_in w (f s ++ []) ≡ false
        → Latest (db ++ s ∷ []) f w last
    latest_unchanged last latest s_has_not_w = record {
      last_lt_length = omega (arith, latest.last_lt_length, length-append db (s ∷ []));
      last_has_word = has_word_in_front last latest.last_lt_length ∙ latest.last_has_word;
      active_is_last = λ j j_lt_length j_has_word j_is_active.
          elim (before_or_last j j_lt_length j_has_word j_is_active) [
            | inl (j_lt_length, j_has_word, j_is_active) ↦
                latest.active_is_last j j_lt_length j_has_word j_is_active
            | inr (j_is_last, s_has_w) ↦ absurd (true≢false (sym s_has_w ∙ s_has_not_w))
          ];
    }

    -- the statement has the word, which no active one had
    pub latest_is_new : is_in w (f s ++ []) ≡ true
        → is_in w (flat_map f (active_statements db (length db))) ≡ false
        → Latest (db ++ s ∷ []) f w (length db)
    latest_is_new s_has_w no_active_has_w = record {
      last_lt_length = omega (arith, length-append db (s ∷ []));
      last_has_word = has_word_at_end ∙ s_has_w;
      active_is_last = λ j j_lt_length j_has_word j_is_active.
          elim (before_or_last j j_lt_length j_has_word j_is_active) [
            | inl (j_lt_length, j_has_word, j_is_active) ↦
                absurd (true≢false
                (sym (range_any (λ i. active_at db i (length db) && has_word db f w i) (length db) 0
                j (omega arith) (omega arith) (rw (j_is_active, j_has_word) refl))
                ∙ sym (word_of_active_is_any db f w (λ i. active_at db i (length db)) (length db) 0)
                ∙ no_active_has_w))
            | inr (j_is_last, s_has_w) ↦ j_is_last
          ];
    }
