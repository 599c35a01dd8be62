-- The variable of a `$f` has its type.
use Rattle.std.proofs.lemmas.Grind.{common_steps}
use Rattle.std.proofs.Common.{◌≡◌, ◌≢◌, ℕ, ◌+◌, ◌-◌, ◌<◌, ◌≤◌, Bool, true, false, List, length}
use Rattle.std.proofs.Common.{Option, bytes_eq, if◌then◌else◌, refl, ap, arith}
use Rattle.std.proofs.lemmas.Slice.Eq.{bytes_eq-Decides}
use Rattle.mm_spec.specs.Text.{Token}
use Rattle.mm_spec.specs.declared.Word.{Word}
use Rattle.mm_database.specs.declared.names.SymbolEntry.{SymbolEntry}
use Rattle.mm_outline.specs.Parts.{between, token_at}
use Rattle.mm_scope.specs.WordEntry.{WordEntry, entry_of, typed_entry, typed_after}
use Rattle.mm_scope.proofs.JudgeLaw.{between_is_two_tokens, length_between}

-- a `$f` that has not two symbols types nothing
typed_after_other_length : (n : ℕ) (xs : List Token) (w : List ℕ) (x : Option WordEntry)
    → length xs ≢ 2
    → typed_after n xs w x ≡ x
typed_after_other_length n xs w x h1 = grind (arith, common_steps)

module _ (text : List ℕ) (ws : List Word) (k j : ℕ) (j_le_length : j ≤ length ws) where
  -- no two symbols
  pub typed_after_other_count : (n : ℕ) (w : List ℕ) (x : Option WordEntry) → k < j → j - k ≢ 3
      → typed_after n (between text ws (k + 1) j) w x ≡ x
  typed_after_other_count n w x k_lt_j width_ne_3 =
      typed_after_other_length n (between text ws (k + 1) j) w x
      (λ length_is_2. width_ne_3 (let between_length =
      length_between text ws (k + 1) j (omega arith) j_le_length in
      omega (arith, between_length, length_is_2, k_lt_j)))

  -- two symbols
  pub typed_after_two_symbols : j - k ≡ 3 → (n : ℕ) (old mid new : List ℕ → Option SymbolEntry)
      → ((w : List ℕ) → mid w ≡ old w)
      → ((w : List ℕ)
      → entry_of (new w)
      ≡ (if bytes_eq (token_at text ws (k + 1 + 1)).word w then typed_entry n
      (token_at text ws (k + 1)).word
      (entry_of (mid (token_at text ws (k + 1 + 1)).word)) else entry_of (mid w)))
      → (w : List ℕ)
      → entry_of (new w) ≡ typed_after n (between text ws (k + 1) j) w (entry_of (old w))
  typed_after_two_symbols width_is_3 n old mid new mid_is_old new_adds_type w =
      rw (
        between_is_two_tokens text ws k j j_le_length width_is_3,
        new_adds_type w,
        mid_is_old w,
        mid_is_old (token_at text ws (k + 1 + 1)).word,
        k_plus_2,
      ) (entry_is_typed (bytes_eq (token_at text ws (k + 2)).word w) refl)
    where
      k_plus_2 : k + 1 + 1 ≡ k + 2
      k_plus_2 = omega arith

      entry_is_typed : (b : Bool) → bytes_eq (token_at text ws (k + 2)).word w ≡ b
          → (if b then typed_entry n (token_at text ws (k + 1)).word
          (entry_of (old (token_at text ws (k + 2)).word)) else entry_of (old w))
          ≡ (if b then typed_entry n (token_at text ws (k + 1)).word
          (entry_of (old w)) else entry_of (old w))
      entry_is_typed true variable_eq_w =
          ap (λ v. typed_entry n (token_at text ws (k + 1)).word (entry_of (old v)))
          ((bytes_eq-Decides (token_at text ws (k + 2)).word w).0 variable_eq_w)
      entry_is_typed false variable_eq_w = refl
