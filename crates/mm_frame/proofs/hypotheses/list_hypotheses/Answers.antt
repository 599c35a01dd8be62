use Rattle.std.proofs.Common.{◌≤◌, ◌||◌, ◌++◌, length, ap, ◌∙◌, arith}
use Rattle.std.specs.List.{list_any}
use Rattle.mm_spec.specs.Derivation.{is_member}
use Rattle.mm_frame.specs.Hypotheses.{is_float_of}
use Rattle.mm_frame.proofs.HypothesesLaw.{variables_have_names, hypotheses_are_mandatory}
use Rattle.mm_frame.proofs.hypotheses.list_hypotheses.Goals as goal

pub add_floats-requires-clause-variables_lt_count :
    goal.add_floats-requires-clause-variables_lt_count
add_floats-requires-clause-variables_lt_count g c =
    variables_have_names c.args.statements.now.list c.args.assertion c.args.variables.now
    c.requires.are_mandatory

pub returns : goal.returns
returns g c =
    let db = c.args.statements.now.list in
    let k = c.args.assertion in
    let ts = c.args.last_floats.now in
    let assertion_lt_length = c.requires.assertion_lt_length in
    let k_le_length_db : k ≤ length db = omega (arith, assertion_lt_length) in
    hypotheses_are_mandatory db k c.requires.is_sound k_le_length_db ts
    c.requires.are_last_floats c.args.variables.now
    c.requires.are_mandatory c.args.essentials.now
    c.sort_and_dedup_numbers.new.numbers.items
    c.requires.are_active c.sort_and_dedup_numbers.ensures.rising
    (λ j. c.sort_and_dedup_numbers.ensures.members_stay j ∙ c.in_ok-add_floats.ensures j
    ∙ ap (λ xs. is_member xs j
    || list_any (is_float_of db k ts j) c.args.variables.now)
    (c.in_ok-extend_from_slice.ensures.items
    ∙ ap (λ xs. xs ++ c.args.essentials.now) c.clear.ensures.items))
