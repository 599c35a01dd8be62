use Rattle.mm_rows.proofs.WaveLaw.{WaveTo}
use Rattle.mm_rows.proofs.wave.wave_of_theorem.Given as goal

abbrev pub invariant-loop-statement : goal.invariant-loop-statement
invariant-loop-statement g l =
    WaveTo l.citations l.waves l.theorem_index l.statement-items l.statement-index l.wave
