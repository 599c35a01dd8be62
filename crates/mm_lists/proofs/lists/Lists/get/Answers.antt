use Rattle.std.proofs.Common.{◌∙◌, arith}
use Rattle.mm_lists.proofs.ListsLaw.{next_bound_exists, list_is_part}
use Rattle.mm_lists.proofs.lists.Lists.get.Goals as goal

pub overflow_add-index : goal.overflow_add-index
overflow_add-index g c =
    let index_is_within = next_bound_exists _ _ _ c.self.view_is _ c.requires in
    let bounds_fit = c.self.inside.bounds.ok.1 in omega (arith, index_is_within, bounds_fit)

pub index-requires : goal.index-requires
index-requires g c =
    rw c.self.inside.bounds.ok.0 (next_bound_exists _ _ _ c.self.view_is _ c.requires)

pub index-requires-2 : goal.index-requires-2
index-requires-2 g c =
    let index_is_within = next_bound_exists _ _ _ c.self.view_is _ c.requires in
    rw c.self.inside.bounds.ok.0 (omega (arith, index_is_within))

pub items_between-requires-clause-from_le_to : goal.items_between-requires-clause-from_le_to
items_between-requires-clause-from_le_to g c =
    (list_is_part _ _ _ c.self.invariant c.self.view_is _ _ _ c.requires c.index-2.ensures
    c.index.ensures).from_le_to

pub items_between-requires-clause-to_le_length : goal.items_between-requires-clause-to_le_length
items_between-requires-clause-to_le_length g c =
    (list_is_part _ _ _ c.self.invariant c.self.view_is _ _ _ c.requires c.index-2.ensures
    c.index.ensures).to_le_length

pub returns-clause-is_list : goal.returns-clause-is_list
returns-clause-is_list g c =
    c.items_between.ensures
    ∙ (list_is_part _ _ _ c.self.invariant c.self.view_is _ _ _ c.requires c.index-2.ensures
    c.index.ensures).range_is_part
