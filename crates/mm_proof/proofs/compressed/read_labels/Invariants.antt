use Rattle.std.proofs.Common.{◌≡◌, ◌+◌, ◌++◌, [], length, take, drop, flat_map}
use Rattle.mm_spec.specs.NormalProof.{usable, proof_label_faults}
use Rattle.mm_spec.specs.CompressedProof.{bracketed}
use Rattle.mm_outline.specs.Parts.{as_tokens}
use Rattle.mm_proof.proofs.BracketsLaw.{with_labels_before}
use Rattle.mm_proof.proofs.compressed.read_labels.Given as goal

abbrev pub invariant-loop-index : goal.invariant-loop-index
invariant-loop-index g l = record {
  bracketed : bracketed (as_tokens l.database.text l.words)
      ≡ with_labels_before (as_tokens l.database.text (take l.index l.words))
      (bracketed (as_tokens l.database.text (drop l.index l.words)));
  labels : l.labels.items
      ≡ l.fn.labels.items
      ++ flat_map (λ t. usable l.database.statements l.theorem t.word)
      (as_tokens l.database.text (take l.index l.words));
  label_count : length l.labels.items ≡ length l.fn.labels.items + l.index;
  labels_are_faultless : flat_map (proof_label_faults l.database.statements l.theorem)
      (as_tokens l.database.text (take l.index l.words))
      ≡ [];
}
