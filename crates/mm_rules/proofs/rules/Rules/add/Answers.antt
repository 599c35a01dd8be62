use Rattle.mm_rules.specs.Rules.{rule_ranges}
use Rattle.mm_rules.proofs.RulesLaw.{are_rules_with_one_more_at}
use Rattle.mm_rules.proofs.rules.Rules.add.Goals as goal

pub returns : goal.returns
returns g c =
    let a = c.in_ok-hypotheses in
    let p = c.in_ok-pairs in
    let q = c.in_ok-parts in
    let f = c.in_ok-formula in
    λ db rules rule. are_rules_with_one_more_at db _ _ _ _ _ _ _ _ _ _ _ _ _
    (rule_ranges c.rule.inside.assertion a.hypotheses p.pairs q.parts f.formula)
    c.in_ok-push.ensures.items a.ensures.appends_elements p.ensures.appends_elements
    q.ensures.appends_elements f.ensures.appends_elements
    a.ensures.start_is a.ensures.end_is p.ensures.start_is p.ensures.end_is q.ensures.start_is
    q.ensures.end_is f.ensures.start_is f.ensures.end_is
    (rw (← c.rule.view_is) at rule) (rw (← c.self.view_is) at rules)
