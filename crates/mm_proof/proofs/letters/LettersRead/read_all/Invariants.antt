use Rattle.std.proofs.Common.{◌≡◌, List, drop}
use Rattle.mm_spec.specs.CompressedProof.{Letter, letters_of}
use Rattle.mm_outline.specs.Parts.{as_tokens}
use Rattle.mm_proof.specs.Letters.{Continues, with_number, if_begun}
use Rattle.mm_proof.proofs.LettersLaw.{StandsBefore}
use Rattle.mm_proof.proofs.letters.LettersRead.read_all.Given as goal

abbrev pub invariant-loop-word : goal.invariant-loop-word
invariant-loop-word g l = record {
  theorem : l.self.theorem ≡ l.fn.self.theorem;
  labels : l.self.labels ≡ l.fn.self.labels;
  stands : StandsBefore l.self (as_tokens l.text (drop l.word-index l.words)) l.end;
  reads : (all_letters : List Letter)
      → Continues l.fn.self all_letters (letters_of (as_tokens l.text l.words))
      → Continues (with_number l.self (if_begun l.begun)) all_letters
      (letters_of (as_tokens l.text (drop l.word-index l.words)));
}
