use Rattle.std.proofs.Common.{◌≡◌, ◌<◌, ◌≤◌, ◌+◌, ◌-◌, ℕ, true, length}
use Rattle.mm_lex.specs.Plain.{plain_at}
use Rattle.mm_lex.proofs.ScannerLaw.{IsWordUpTo}
use Rattle.mm_lex.proofs.scanner.WordScanner.word_from.Given as goal

abbrev pub invariant-loop-stop : goal.invariant-loop-stop
invariant-loop-stop l = record {
  word : IsWordUpTo l.self.text.now l.start l.scanner l.stop;
  plain_up_to_stop : l.is_plain ≡ true → (i : ℕ) → l.start ≤ i → i < l.scanner.base + l.stop
      → i < length l.self.text.now → plain_at l.self.text.now i ≡ true;
}

abbrev pub decreases-loop-stop : goal.decreases-loop-stop
decreases-loop-stop l = l.len - l.scanner.base
