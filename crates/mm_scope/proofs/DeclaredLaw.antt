-- One symbol more is declared.
use Rattle.std.proofs.Common.{arith, ◌≡◌, ℕ, ◌+◌, ◌<◌, ◌≤◌, Bool, true, false, ◌||◌, List, length}
use Rattle.std.proofs.Common.{Option, Some, bytes_eq, if◌then◌else◌, refl, ap, ◌∙◌}
use Rattle.std.proofs.lemmas.Slice.Eq.{bytes_eq-Decides}
use Rattle.std.proofs.Math.Bool.{or-false}
use Rattle.mm_spec.specs.Text.{is_in, words}
use Rattle.mm_spec.specs.declared.Word.{Word}
use Rattle.mm_database.specs.declared.names.SymbolEntry.{SymbolEntry}
use Rattle.mm_outline.specs.Parts.{between, token_at}
use Rattle.mm_scope.specs.WordEntry.{WordEntry, entry_of, declared_entry}
use Rattle.mm_scope.proofs.JudgeLaw.{in_between_push}

module _ (text : List ℕ) (ws : List Word) (from i : ℕ) (from_le_i : from ≤ i)
    (i_lt_length : i < length ws) where
  -- the word at i
  abbrev next_word : List ℕ
  next_word = (token_at text ws i).word

  -- if the entries are those after the words up to i, and the next one is declared, they are those
  -- after the words up to i + 1
  pub declared_with_next_word : (v : Bool) (n : ℕ) (s : SymbolEntry) (old cur new : List ℕ
      → Option SymbolEntry)
      → ((w : List ℕ) → new w ≡ (if bytes_eq next_word w then Some s else cur w))
      → entry_of (Some s) ≡ declared_entry v n next_word (entry_of (cur next_word))
      → ((w : List ℕ)
      → entry_of (cur w)
      ≡ (if is_in w (words (between text ws from i)) then declared_entry v n w
      (entry_of (old w)) else entry_of (old w)))
      → (w : List ℕ)
      → entry_of (new w)
      ≡ (if is_in w (words (between text ws from (i + 1))) then declared_entry v n w
      (entry_of (old w)) else entry_of (old w))
  declared_with_next_word v n s old cur new new_adds_word s_is_declared cur_is_declared w =
      rw (new_adds_word w, in_between_push text ws from i from_le_i i_lt_length w)
      (entry_is_declared (bytes_eq next_word w) refl)
    where
      -- declaring a word twice gives the same entry as declaring it once
      declared_once : (b c : Bool) (o : Option WordEntry)
          → declared_entry v n w (if b then declared_entry v n w o else o)
          ≡ (if b || (true || c) then declared_entry v n w o else o)
      declared_once b c o = grind arith

      entry_is_declared : (b : Bool) → bytes_eq next_word w ≡ b
          → entry_of (if b then Some s else cur w)
          ≡ (if is_in w (words (between text ws from i)) || (b || false)
          then declared_entry v n w (entry_of (old w)) else entry_of (old w))
      entry_is_declared true next_word_eq_w =
          s_is_declared
          ∙ ap (λ x. declared_entry v n x (entry_of (cur x)))
          ((bytes_eq-Decides next_word w).0 next_word_eq_w)
          ∙ rw (cur_is_declared w)
          (declared_once (is_in w (words (between text ws from i))) false (entry_of (old w)))
      entry_is_declared false next_word_eq_w =
          rw (or-false (is_in w (words (between text ws from i)))) (cur_is_declared w)
