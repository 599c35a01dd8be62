use Rattle.std.proofs.Common.{◌≤◌, ◌-◌, ◌*◌, map, min}
use Rattle.std.specs.List.{range_with_len}
use Rattle.std.specs.Int.{div_ceil}
use Rattle.mm_report.specs.Sent.{Sent}
use Rattle.mm_report.proofs.DigitLaw.{digit_text}
use Rattle.mm_report.proofs.digits.send_digits.Given as goal

abbrev pub invariant-loop-word : goal.invariant-loop-word
invariant-loop-word g l = record {
  word_le_words : l.word ≤ div_ceil l.marked.columns 64;
  -- the digits of the first `word` words, 16 each, as far as the row goes
  sent : Sent (g.W.Write.contents l.fn.to) (g.W.Write.contents l.to) l.fn.sink l.sink
      (map (digit_text l.marked l.row)
      (range_with_len 0 (min (16 * l.word) (div_ceil l.marked.columns 4))));
}

abbrev pub decreases-loop-word : goal.decreases-loop-word
decreases-loop-word g l = l.words - l.word
