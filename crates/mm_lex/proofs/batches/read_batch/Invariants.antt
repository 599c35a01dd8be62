use Rattle.mm_lex.specs.Cuts.{IsBatch}
use Rattle.mm_lex.proofs.batches.read_batch.Given as goal

abbrev pub invariant-loop-index : goal.invariant-loop-index
invariant-loop-index g l = IsBatch l.text l.places l.first l.index l.batch
