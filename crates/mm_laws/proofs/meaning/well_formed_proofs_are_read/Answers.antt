use Rattle.std.proofs.Common.{rules, arith}
use Rattle.mm_laws.proofs.WellSpelledLaw.{compressed_is_exact, normal_is_exact}
use Rattle.mm_laws.proofs.meaning.well_formed_proofs_are_read.Goals as goal

pub returns : goal.returns
returns c = search (rules, arith, compressed_is_exact, normal_is_exact)
