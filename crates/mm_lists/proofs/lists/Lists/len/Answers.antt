use Rattle.std.proofs.Common.{arith}
use Rattle.mm_lists.proofs.ListsLaw.{count_is_bounds}
use Rattle.mm_lists.proofs.lists.Lists.len.Goals as goal

pub returns : goal.returns
returns g c =
    let count_is = count_is_bounds _ _ _ c.self.view_is in
    let len_is = c.len.ensures in
    let bounds_are = c.self.inside.bounds.ok.0 in
    let difference_is = c.saturating_sub.ensures in
    omega (arith, count_is, len_is, bounds_are, difference_is)
