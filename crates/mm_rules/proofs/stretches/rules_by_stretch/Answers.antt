use Rattle.std.proofs.Common.{◌∙◌, ap, subst, sym}
use Rattle.std.specs.Prelude.{IfOk, All}
use Rattle.std.specs.List.{AllZip}
use Rattle.rayon.proofs.ListFacts.{IfOk-then}
use Rattle.mm_rules.specs.Rules.{AreRules}
use Rattle.mm_rules.proofs.StretchesLaw.{each_of_zipped}
use Rattle.mm_rules.proofs.stretches.rules_by_stretch.Goals as goal

pub returns : goal.returns
returns g c =
    let db = c.args.database.now.statements in
    let captured_are = ap (λ m. m.f) c.with_min_len.ensures.base ∙ c.map.ensures.f in
    IfOk-then c.collect.result _ _ c.collect.ensures (λ v collected.
    subst (All (λ r. IfOk r (AreRules db))) (sym collected.2)
    (each_of_zipped (λ r. IfOk r (AreRules db)) collected.1.0 collected.0
    (subst (λ f. AllZip (λ i r. IfOk r (AreRules f.1.now.statements)) collected.1.0 collected.0)
    captured_are collected.1.2)))
