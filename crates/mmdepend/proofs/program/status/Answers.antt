use Rattle.std.proofs.Common.{ℕ, List, subst}
use Rattle.mmdepend.specs.Endings.{IsPrefixWritten}
use Rattle.mmdepend.proofs.program.status.Goals as goal

pub returns : goal.returns
returns g c = record {
  ending = c.run_words-ending.result;
  is_ending = c.run_words-ending.ensures;
  message_written =
      subst (λ (text : List ℕ). IsPrefixWritten (g.E.Write.contents c.args.errors.now)
      (g.E.Write.contents c.write_text.new.to) text) c.message.ensures
      c.write_text.ensures.prefix_is_written;
  status_is = c.status.ensures;
}
