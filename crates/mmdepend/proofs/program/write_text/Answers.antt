use Rattle.std.proofs.Common.{length, sym, subst}
use Rattle.std.proofs.Math.Seq.{take-length}
use Rattle.std.specs.Io.KnownBytes.{Appends}
use Rattle.mmdepend.proofs.program.write_text.Goals as goal

pub returns-in-Ok-clause-prefix_is_written : goal.returns-in-Ok-clause-prefix_is_written
returns-in-Ok-clause-prefix_is_written g c =
    let bytes = c.args.text.now in (
      length bytes,
      subst
          (Appends (g.W.Write.contents c.args.to.now) (g.W.Write.contents c.write_whole.new.to))
          (sym (take-length bytes)) c.in-Ok.ensures.piece_is_written,
    )
