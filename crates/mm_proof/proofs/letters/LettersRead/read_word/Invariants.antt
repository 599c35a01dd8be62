use Rattle.std.proofs.Common.{◌≡◌, ◌++◌, List, slice_range}
use Rattle.mm_spec.specs.CompressedProof.{Letter, letters_from}
use Rattle.mm_proof.specs.Letters.{IsReadUpTo, Continues, with_number, if_begun}
use Rattle.mm_proof.proofs.letters.LettersRead.read_word.Given as goal

abbrev pub invariant-loop-place : goal.invariant-loop-place
invariant-loop-place g l = record {
  theorem : l.self.theorem ≡ l.fn.self.theorem;
  labels : l.self.labels ≡ l.fn.self.labels;
  stands : IsReadUpTo l.self l.number l.place;
  reads : (all_letters unread : List Letter)
      → Continues (with_number l.fn.self (if_begun l.fn.number)) all_letters
      (letters_from l.fn.word.start (slice_range l.text l.fn.word.start l.fn.word.end) ++ unread)
      → Continues (with_number l.self (if_begun l.number)) all_letters
      (letters_from l.place (slice_range l.text l.place l.fn.word.end) ++ unread);
}
