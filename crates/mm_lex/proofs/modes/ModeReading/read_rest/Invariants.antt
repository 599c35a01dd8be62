use Rattle.std.proofs.Common.{◌≡◌, ◌+◌, ◌-◌, ℕ, None, length}
use Rattle.mm_spec.specs.Words.{words_between}
use Rattle.mm_spec.specs.Laws.Readings.{append_reading}
use Rattle.mm_lex.specs.Pieces.{side_reading}
use Rattle.mm_lex.specs.Between.{side}
use Rattle.mm_lex.proofs.modes.ModeReading.read_rest.Given as goal

-- The reading has no fault, and continued with the remaining words it gives what all words give.
abbrev pub invariant-loop-found : goal.invariant-loop-found
invariant-loop-found g l = record {
  texts_equal : l.scanner.text.now ≡ l.text;
  no_fault : l.self.fault ≡ None;
  readings_equal : (p : ℕ)
      → append_reading l.text (side_reading p (side l.fn.self))
      (words_between l.text l.fn.scanner.from l.to)
      ≡ append_reading l.text (side_reading p (side l.self))
      (words_between l.text l.scanner.from l.to);
}

abbrev pub decreases-loop-found : goal.decreases-loop-found
decreases-loop-found g l = length l.text + 64 - l.scanner.from
