use Rattle.std.proofs.Common.{◌<◌, ◌∙◌, ap, arith, length}
use Rattle.std.specs.List.{slice_range}
use Rattle.mm_lists.specs.Lists.{joined}
use Rattle.mm_lists.proofs.ListsLaw.{joined_lists_are_part, bound_exists, none_joined_at_one_bound}
use Rattle.mm_lists.proofs.lists.Lists.between.Goals as goal

pub returns-then-from-to : goal.returns-then-from-to
returns-then-from-to g c =
    none_joined_at_one_bound c.args.self.now c.args.from
    ∙ ap (λ to. joined (slice_range c.args.self.now c.args.from to)) c.if-from-to.true

pub index-requires : goal.index-requires
index-requires g c =
    let from_ne_to = c.if-from-to.false in
    let from_le_to = c.requires.from_le_to in
    let to_is_within : c.args.to < length c.self.inside.bounds.items =
    bound_exists _ _ _ c.self.view_is c.args.from _ (omega (arith, from_ne_to, from_le_to))
    c.requires.to_le_count in
    rw c.self.inside.bounds.ok.0 (omega (arith, to_is_within, from_le_to))

pub index-requires-2 : goal.index-requires-2
index-requires-2 g c =
    let from_ne_to = c.if-from-to.false in
    let from_le_to = c.requires.from_le_to in
    rw c.self.inside.bounds.ok.0
    (bound_exists _ _ _ c.self.view_is c.args.from _ (omega (arith, from_ne_to, from_le_to))
    c.requires.to_le_count)

pub items_between-requires-clause-from_le_to : goal.items_between-requires-clause-from_le_to
items_between-requires-clause-from_le_to g c =
    let from_ne_to = c.if-from-to.false in
    let from_le_to = c.requires.from_le_to in
    (joined_lists_are_part _ _ _ c.self.invariant c.self.view_is _ _ _ _
    (omega (arith, from_ne_to, from_le_to))
    c.requires.to_le_count c.index.ensures c.index-2.ensures).from_le_to

pub items_between-requires-clause-to_le_length : goal.items_between-requires-clause-to_le_length
items_between-requires-clause-to_le_length g c =
    let from_ne_to = c.if-from-to.false in
    let from_le_to = c.requires.from_le_to in
    (joined_lists_are_part _ _ _ c.self.invariant c.self.view_is _ _ _ _
    (omega (arith, from_ne_to, from_le_to))
    c.requires.to_le_count c.index.ensures c.index-2.ensures).to_le_length

pub returns : goal.returns
returns g c =
    let from_ne_to = c.if-from-to.false in
    let from_le_to = c.requires.from_le_to in
    c.items_between.ensures
    ∙ (joined_lists_are_part _ _ _ c.self.invariant c.self.view_is _ _ _ _
    (omega (arith, from_ne_to, from_le_to))
    c.requires.to_le_count c.index.ensures c.index-2.ensures).range_is_part
