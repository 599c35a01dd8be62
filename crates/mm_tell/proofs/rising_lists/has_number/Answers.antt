use Rattle.std.proofs.Common.{rules, arith}
use Rattle.mm_tell.proofs.SearchLaw.{found_is_member}
use Rattle.mm_tell.proofs.rising_lists.has_number.Goals as goal

pub returns : goal.returns
returns c = search (rules, arith, found_is_member)
