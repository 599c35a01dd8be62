use Rattle.std.proofs.Common.{◌^◌, ◌<◌, ◌≤◌, ◌+◌, ◌-◌, ◌*◌, length}
use Rattle.mm_rows.proofs.BitLaw.{IsSeeking, row_of_sought}
use Rattle.mm_rows.proofs.bits.next_bit.Given as goal

abbrev pub invariant-loop-word : goal.invariant-loop-word
invariant-loop-word l = record {
  index_lt_length : l.word_index < length l.row;
  length_le_2_31 : length l.row ≤ 2 ^ 31;
  from_lt_next : l.from < 64 * (l.word_index + 1);
  is_seeking : IsSeeking (row_of_sought l.set l.row) l.from l.word_index l.word;
}

abbrev pub decreases-loop-word : goal.decreases-loop-word
decreases-loop-word l = length l.row - l.word_index
