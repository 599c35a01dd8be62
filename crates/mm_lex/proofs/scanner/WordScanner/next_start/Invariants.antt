use Rattle.std.proofs.Common.{◌≡◌, ◌<◌, ◌≤◌, ◌-◌, ℕ, false, length}
use Rattle.mm_spec.specs.Words.{begins_word}
use Rattle.mm_lex.proofs.scanner.WordScanner.next_start.Given as goal

-- No word begins from the place at which the call began up to the place of the scanner.
abbrev pub invariant-loop-self : goal.invariant-loop-self
invariant-loop-self l = record {
  texts_equal : l.self.text.now ≡ l.fn.self.text.now;
  old_from_le_from : l.fn.self.from ≤ l.self.from;
  none_begins : (i : ℕ) → l.fn.self.from ≤ i → i < l.self.from → i < length l.fn.self.text.now
      → begins_word l.fn.self.text.now i ≡ false;
}

abbrev pub decreases-loop-self : goal.decreases-loop-self
decreases-loop-self l = length l.self.text.now - l.self.base
