use Rattle.std.proofs.Common.{rules, arith}
use Rattle.mm_laws.proofs.ToldLaw.{lines_tell_assertions as told_assertions}
use Rattle.mm_laws.proofs.SpelledLinesLaw.{read_is_spelled}
use Rattle.mm_laws.proofs.lines.lines_tell_assertions.Goals as goal

pub returns : goal.returns
returns c = search (rules, arith, told_assertions, read_is_spelled)
