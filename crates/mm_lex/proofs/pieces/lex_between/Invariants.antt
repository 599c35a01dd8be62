use Rattle.std.proofs.Common.{◌≡◌, ◌+◌, ◌-◌, ℕ, None, Some, length}
use Rattle.mm_spec.specs.Words.{words_between}
use Rattle.mm_spec.specs.Readings.{reading}
use Rattle.mm_spec.specs.Laws.Readings.{append_reading}
use Rattle.mm_lex.specs.Pieces.{side_reading}
use Rattle.mm_lex.specs.Between.{side}
use Rattle.mm_lex.proofs.pieces.lex_between.Given as goal

-- Each of the two readings, continued with the remaining words, gives what all words give.
abbrev pub invariant-loop-scanner : goal.invariant-loop-scanner
invariant-loop-scanner g l = record {
  texts_equal : l.scanner.text.now ≡ l.text;
  outside_reading : (p : ℕ)
      → reading l.text None (words_between l.text l.head_end l.tail_start)
      ≡ append_reading l.text (side_reading p (side l.outside))
      (words_between l.text l.scanner.from l.tail_start);
  inside_reading : (p : ℕ)
      → reading l.text (Some p) (words_between l.text l.head_end l.tail_start)
      ≡ append_reading l.text (side_reading p (side l.inside))
      (words_between l.text l.scanner.from l.tail_start);
}

abbrev pub decreases-loop-scanner : goal.decreases-loop-scanner
decreases-loop-scanner g l = length l.text + 64 - l.scanner.from
