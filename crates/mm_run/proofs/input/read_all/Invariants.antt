use Rattle.std.proofs.Common.{◌≤◌, ◌-◌, vec_len}
use Rattle.std.specs.Io.KnownBytes.{Consumes}
use Rattle.mm_spec.specs.Ends.{reading_limit}
use Rattle.mm_run.proofs.input.read_all.Given as goal

abbrev pub invariant-loop-chunk : goal.invariant-loop-chunk
invariant-loop-chunk g l =
    record {
      length_le_limit : vec_len l.text ≤ reading_limit;
      consumes_text : Consumes (g.R.Read.remaining l.fn.from) (g.R.Read.remaining l.from)
          l.text.items;
    }

abbrev pub decreases-loop-chunk : goal.decreases-loop-chunk
decreases-loop-chunk g l = reading_limit - vec_len l.text
