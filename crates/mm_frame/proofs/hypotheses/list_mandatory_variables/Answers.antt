use Rattle.std.proofs.Common.{◌&&◌, ◌||◌, ◌∙◌, ap, ap₂, sym, List, ℕ, get_or}
use Rattle.std.proofs.lemmas.Bool.{and_parts}
use Rattle.std.specs.List.{list_any}
use Rattle.mm_spec.specs.Derivation.{is_member}
use Rattle.mm_spec.specs.Frame.{is_variable_number, formula_at, active_of, is_essential}
use Rattle.mm_spec.proofs.ListLaw.{element_is_member}
use Rattle.mm_frame.proofs.HypothesesLaw.{listed_are_mandatory, variable_has_name}
use Rattle.mm_database.proofs.NamesLaw.{on_ok_then}
use Rattle.mm_frame.proofs.hypotheses.list_mandatory_variables.Goals as goal

pub add_variables-requires-2-clause-symbols_lt_count :
    goal.add_variables-requires-2-clause-symbols_lt_count
add_variables-requires-2-clause-symbols_lt_count g c = λ i d i_lt_length.
    let db = c.args.statements.now.list in
    let xs = c.args.essential_variables.now in
    variable_has_name db c.args.assertion (get_or xs i d)
    (and_parts (is_variable_number db (get_or xs i d))
    (list_any (λ j. is_member (formula_at db j) (get_or xs i d))
    (active_of is_essential db c.args.assertion))
    (sym (c.requires.are_variables (get_or xs i d)) ∙ element_is_member xs i d i_lt_length)).0

pub returns-clause-are_mandatory : goal.returns-clause-are_mandatory
returns-clause-are_mandatory g c =
    on_ok_then c.add_variables-2.result c.add_variables-2.ensures.variables_are_added
    (λ added x.
    let db = c.args.statements.now.list in
    let k = c.args.assertion in
    listed_are_mandatory db k x _ _ (c.requires.are_variables x)
    (added x
    ∙ ap (λ m. m || (is_variable_number db x && is_member c.args.essential_variables.now x))
    (c.in_ok-add_variables.ensures.variables_are_added x
    ∙ ap₂ (λ (xs ys : List ℕ). is_member xs x || (is_variable_number db x && is_member ys x))
    c.clear.ensures.items c.formula-formula.ensures.formula)))
