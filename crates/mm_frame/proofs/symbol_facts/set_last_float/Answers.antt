use Rattle.std.proofs.Common.{rules, arith}
use Rattle.mm_frame.proofs.FramesLaw.{last_floats_without_float, last_floats_with_float}
use Rattle.mm_frame.proofs.symbol_facts.set_last_float.Goals as goal

pub returns-in-Some : goal.returns-in-Some
returns-in-Some g c = search (rules, arith, last_floats_with_float)

pub returns-in_default : goal.returns-in_default
returns-in_default g c = search (rules, arith, last_floats_without_float)
