use Rattle.std.proofs.Common.{◌∙◌, ◌&&◌, ap}
use Rattle.mm_spec.specs.Derivation.{is_member}
use Rattle.mm_spec.specs.Frame.{is_variable_number, formula_at, active_of, is_essential}
use Rattle.mm_spec.proofs.MemberLaw.{same_members_same_any}
use Rattle.mm_frame.proofs.HypothesesLaw.{variables_have_names}
use Rattle.mm_frame.proofs.frames.list_frame.Goals as goal

pub list_mandatory_variables-requires-clause-are_variables :
    goal.list_mandatory_variables-requires-clause-are_variables
list_mandatory_variables-requires-clause-are_variables g c = λ x.
    let db = c.args.sources.now.statements.now.list in
    ap (λ xs. is_member xs x) c.deref.ensures.value
    ∙ c.requires.are_essential.variables_are x
    ∙ ap (λ z. is_variable_number db x && z)
    (same_members_same_any (λ j. is_member (formula_at db j) x)
    c.args.essential_lists.now.essentials.items
    (active_of is_essential db c.args.assertion) c.requires.are_essential.essentials_are)

pub list_disjoint_variables-requires : goal.list_disjoint_variables-requires
list_disjoint_variables-requires g c = λ i d i_lt_length.
    let have_names =
    variables_have_names c.args.sources.now.statements.now.list c.args.assertion
    c.list_mandatory_variables.new.variables.items
    c.in_ok-list_mandatory_variables.ensures.are_mandatory in
    let values = c.deref-6.ensures.value in
    let ends = c.deref-5.ensures.value in
    let count = c.requires.are_facts.disjoint_ends.count in
    rw (values, ends, count) (have_names i d (rw (← values) i_lt_length))
