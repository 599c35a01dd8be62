use Rattle.std.proofs.Common.{rules, ◌<◌, ◌-◌, ◌∙◌, length, length-take, ap, arith}
use Rattle.std.proofs.lemmas.List.{get_or_default}
use Rattle.std.proofs.lemmas.List.Elements.{All-get_or}
use Rattle.mm_machine.specs.Entries.{no_entry}
use Rattle.mm_machine.proofs.StackLaw.{needed_by_first}
use Rattle.mm_machine.proofs.entry_stack.needed_below.Goals as goal

pub returns-then-below-eq0-clause-needed_by_each : goal.returns-then-below-eq0-clause-needed_by_each
returns-then-below-eq0-clause-needed_by_each g c = search (rules, arith, length-take)

pub returns-clause-needed_by_each : goal.returns-clause-needed_by_each
returns-clause-needed_by_each g c =
    let stack = c.args.stack.now in
    let last = c.args.below - 1 in
    let e = c.index-stack-last.result in
    let last_lt : last < length stack =
    omega (arith, c.requires.below_le_length, c.if-below-eq0.false) in
    needed_by_first c.args._nodes.now stack c.args.below last e.needed c.requires.is_stack
    (omega (arith, c.if-below-eq0.false)) last_lt
    (ap (λ x. x.needed) (c.index-stack-last.is ∙ get_or_default stack last e no_entry last_lt))

pub returns-clause-needed_le_count : goal.returns-clause-needed_le_count
returns-clause-needed_le_count g c = search (rules, arith, All-get_or)
