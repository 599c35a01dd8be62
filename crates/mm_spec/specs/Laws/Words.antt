-- What the words of a text are: its longest runs of bytes that aren't white space (Metamath book,
-- "Preliminaries"). The law is `words_are_the_longest_runs`.
use Rattle.std.specs.Prelude.{◌≡◌, ℕ, ◌+◌, ◌<◌, ◌≤◌, true, false, List, length}
use Rattle.std.specs.List.{All, AllPairs, Contains}
use Rattle.mm_spec.specs.Words.{white_at}
use Rattle.mm_spec.specs.declared.Word.{Word}

-- From start up to end no byte is white space, and neither end can be moved outward.
pub record IsWord (text : List ℕ) (w : Word) : Type 0 where
  pub nonempty : w.start < w.end
  pub within : w.end ≤ length text
  pub no_white : (i : ℕ) → w.start ≤ i → i < w.end → white_at text i ≡ false
  pub white_before : (i : ℕ) → i + 1 ≡ w.start → white_at text i ≡ true
  pub white_after : w.end < length text → white_at text w.end ≡ true

-- ws has each word of the text and nothing else, in ascending order.
pub record AreWords (text : List ℕ) (ws : List Word) : Type 0 where
  pub rising : AllPairs (λ v w. v.end ≤ w.start) ws
  pub each : All (IsWord text) ws
  pub all : (w : Word) → IsWord text w → Contains ws w
