use Rattle.mm_bits.proofs.BitLaw.{bit_after_setting}
use Rattle.mm_bits.proofs.set.Goals as goal

pub returns : goal.returns
returns c = λ k. bit_after_setting c.args.row.now c.args.j k c.requires
