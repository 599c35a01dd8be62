use Rattle.std.proofs.Common.{rules, arith}
use Rattle.mm_laws.proofs.LongTextLaw.{long_texts_are_refused, front_decides_output}
use Rattle.mm_laws.proofs.outputs.long_texts_have_one_output.Goals as goal

pub returns : goal.returns
returns c = search (rules, arith, long_texts_are_refused, front_decides_output)
