use Rattle.std.proofs.Common.{rules, arith, ◌≡◌, ℕ, true, false, List, [], ◌∷◌, refl}
use Rattle.std.proofs.lemmas.Grind.{common_steps}
use Rattle.std.proofs.lemmas.List.Folds.{list_all_at}
use Rattle.std.proofs.lemmas.List.{take_all}
use Rattle.mm_spec.specs.Derivation.{is_disjoint_from}
use Rattle.mm_spec.specs.Statement.{Statement}
use Rattle.mm_spec.specs.Frame.{is_variable_number}
use Rattle.mm_spec.specs.Citation.{context_at}
use Rattle.mm_machine.proofs.rule_conditions.is_disjoint_from.Goals as goal

-- a constant is disjoint from all
constant_is_disjoint : (db : List Statement) (t s : ℕ) → is_variable_number db s ≡ false
    → (v : List ℕ) → is_disjoint_from (context_at db t) s v ≡ true
constant_is_disjoint db t s not_variable [] = refl
constant_is_disjoint db t s not_variable (x ∷ v) =
    grind (arith, common_steps, (constant_is_disjoint db t s not_variable v))

pub returns-then-not-is_variable-clause-tells_disjoint :
    goal.returns-then-not-is_variable-clause-tells_disjoint
returns-then-not-is_variable-clause-tells_disjoint g c = search (rules, arith, constant_is_disjoint)

pub returns-then-not-are_disjoint-clause-tells_disjoint :
    goal.returns-then-not-are_disjoint-clause-tells_disjoint
returns-then-not-are_disjoint-clause-tells_disjoint g c = search (rules, arith, list_all_at)

pub loop-other-preserved : goal.loop-other-preserved
loop-other-preserved g c = grind (arith, common_steps)

pub returns-clause-tells_disjoint : goal.returns-clause-tells_disjoint
returns-clause-tells_disjoint g c = search (rules, arith, take_all)
