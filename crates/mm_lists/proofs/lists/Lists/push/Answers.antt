use Rattle.mm_lists.proofs.ListsLaw.{joined_with_one_more}
use Rattle.mm_lists.proofs.lists.Lists.push.Goals as goal

pub invariant_of-self-in-Ok : goal.invariant_of-self-in-Ok
invariant_of-self-in-Ok g c =
    rw (c.in-Ok.ensures.bound_is_added, c.in_ok-extend_from_slice.ensures.items)
    (joined_with_one_more c.args.self.now c.args.list.now c.self.inside.items.items
    c.self.inside.bounds.items
    (record { are_bounds = c.self.invariant; cut_is_lists = c.self.view_is })).are_bounds

pub returns-in-Ok-clause-list_is_added : goal.returns-in-Ok-clause-list_is_added
returns-in-Ok-clause-list_is_added g c =
    rw (c.in-Ok.ensures.bound_is_added, c.in_ok-extend_from_slice.ensures.items)
    (joined_with_one_more c.args.self.now c.args.list.now c.self.inside.items.items
    c.self.inside.bounds.items
    (record { are_bounds = c.self.invariant; cut_is_lists = c.self.view_is })).cut_is_lists
