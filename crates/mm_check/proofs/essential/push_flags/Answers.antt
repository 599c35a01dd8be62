use Rattle.std.proofs.Common.{ℕ, ◌++◌, ◌&&◌, List, map, ap, ◌∙◌, arith}
use Rattle.std.specs.List.{list_any}
use Rattle.std.proofs.lemmas.List.{take_all}
use Rattle.mm_spec.specs.Scope.{statement_at}
use Rattle.mm_spec.specs.Frame.{is_essential}
use Rattle.mm_check.proofs.essential.push_flags.Goals as goal

pub returns : goal.returns
returns g c =
    c.loop-hypothesis.invariant ∙ ap (λ (ks : List ℕ). c.args.entry_flags.now.items ++ map
    (λ h. c.args.is_essential && list_any is_essential (statement_at c.args.database.now.statements
    h)) ks) (take_all c.loop-hypothesis.hypothesis-index
    c.mandatory_hypotheses-hypothesis-items.result.now (omega (arith, c.loop-hypothesis-test.false))
    ∙ c.mandatory_hypotheses-hypothesis-items.ensures.hypotheses_are)
