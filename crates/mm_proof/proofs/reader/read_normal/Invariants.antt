use Rattle.std.proofs.Common.{◌≡◌, [], take, flat_map}
use Rattle.mm_spec.specs.NormalProof.{normal_steps}
use Rattle.mm_outline.specs.Parts.{as_tokens}
use Rattle.mm_steps.specs.TheoremSteps.{theorem_steps}
use Rattle.mm_proof.specs.Refused.{word_faults}
use Rattle.mm_proof.proofs.reader.read_normal.Given as goal

abbrev pub invariant-loop-word : goal.invariant-loop-word
invariant-loop-word g l = record {
  faults : flat_map (word_faults l.database.statements l.theorem)
      (as_tokens l.database.text (take l.word-index l.words))
      ≡ [];
  steps : l.steps
      ≡ theorem_steps l.theorem
      (normal_steps l.database.statements l.theorem
      (as_tokens l.database.text (take l.word-index l.words)));
}
