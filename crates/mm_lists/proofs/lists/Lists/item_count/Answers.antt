use Rattle.std.proofs.Common.{◌∙◌, ap, length}
use Rattle.std.specs.List.{sum_by}
use Rattle.mm_lists.proofs.ListsLaw.{item_count_is_sum}
use Rattle.mm_lists.proofs.lists.Lists.item_count.Goals as goal

pub returns : goal.returns
returns g c =
    c.len.ensures ∙ c.self.inside.items.ok.0
    ∙ item_count_is_sum c.self.inside.bounds.items c.self.inside.items.items c.self.invariant
    ∙ ap (sum_by length) c.self.view_is
