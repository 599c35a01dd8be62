use Rattle.std.proofs.Common.{ap₂, ◌∙◌, ℕ, List}
use Rattle.std.specs.List.{list_all}
use Rattle.mm_machine.specs.Distinct.{are_strings_disjoint}
use Rattle.mm_machine.proofs.DistinctLaw.{asked_tell}
use Rattle.mm_machine.proofs.rule_conditions.long_formulas_are_disjoint.Goals as goal

pub returns-clause-tells_disjoint : goal.returns-clause-tells_disjoint
returns-clause-tells_disjoint g c =
    let db = c.args.database.now.statements in
    let t = c.args.theorem in
    c.pairs_are_disjoint.ensures.tells_disjoint
    ∙ ap₂ (λ (ns : List (List ℕ)) (ps : List (ℕ × ℕ)). list_all (are_strings_disjoint db t ns) ps)
    c.collect.ensures.nodes_unchanged c.deref.ensures.value
    ∙ asked_tell db t c.args.nodes.now c.args.premises.now c.args.pairs.now _
    c.in_ok-collect.ensures.asks_about.asks_all

pub pairs_are_disjoint-requires-clause-are_listed :
    goal.pairs_are_disjoint-requires-clause-are_listed
pairs_are_disjoint-requires-clause-are_listed g c =
    rw (c.deref.ensures.value, c.deref-2.ensures.value)
    c.in_ok-collect.ensures.asks_about.are_listed
