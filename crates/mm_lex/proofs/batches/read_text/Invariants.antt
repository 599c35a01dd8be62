use Rattle.std.proofs.Common.{vec_len, length, ◌+◌}
use Rattle.mm_lex.proofs.CutsLaw.{IsJoinedSoFar}
use Rattle.mm_lex.proofs.batches.read_text.Given as goal

abbrev pub invariant-joining : goal.invariant-joining
invariant-joining g l =
    IsJoinedSoFar l.text l.places (length l.places + 1) l.batch_count l.whole l.batches.items

abbrev pub decreases-joining : goal.decreases-joining
decreases-joining g l = vec_len l.batches
