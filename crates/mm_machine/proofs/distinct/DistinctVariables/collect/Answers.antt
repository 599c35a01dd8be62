use Rattle.std.proofs.Common.{ℕ, List, All, OnOk, subst}
use Rattle.mm_machine.specs.Distinct.{HasBoth, HaveVariables}
use Rattle.mm_machine.proofs.DistinctLaw.{asked_have_symbols, asks_if_ok}
use Rattle.mm_machine.proofs.distinct.DistinctVariables.collect.Goals as goal

pub list_bodies-requires : goal.list_bodies-requires
list_bodies-requires g c =
    rw c.deref.ensures.value
    (asked_have_symbols c.args.database.now.statements c.args.nodes.now c.args.premises.now
    c.args.pairs.now _ c.requires.formulas_in_range c.requires.pairs_in_range
    c.in_ok-list_asked.ensures)

pub returns-clause-asks_about : goal.returns-clause-asks_about
returns-clause-asks_about g c =
    asks_if_ok c.args.database.now.statements c.args.nodes.now c.args.premises.now
    c.args.pairs.now c.list_asked.new.asked.items c.list_bodies.new.listed.items
    c.collect_variables.new.list.items c.collect_variables.new.segments.items
    c.collect_variables.result c.in_ok-list_asked.ensures
    (subst (All (HasBoth c.list_bodies.new.listed.items)) c.deref.ensures.value
    c.in_ok-list_bodies.ensures.are_listed)
    c.in_ok-list_bodies.ensures.rise
    (subst (λ (bs : List ℕ). OnOk c.collect_variables.result (HaveVariables
    c.args.database.now.statements c.args.nodes.now bs c.collect_variables.new.list.items
    c.collect_variables.new.segments.items)) c.deref-2.ensures.value
    c.collect_variables.ensures.have_variables)
