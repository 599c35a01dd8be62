use Rattle.std.proofs.Common.{rules, arith, bytes_eq}
use Rattle.std.proofs.lemmas.Grind.{common_steps}
use Rattle.std.proofs.lemmas.List.{take_rest}
use Rattle.std.proofs.lemmas.List.Elements.{All-take, All-drop}
use Rattle.mm_machine.proofs.EntryMatchLaw.{not_wanted_if_not_typed, wanted_if_typed}
use Rattle.mm_machine.proofs.entry_match.is_wanted_formula.Goals as goal

pub is_body_of-requires-clause-variables_in_range :
    goal.is_body_of-requires-clause-variables_in_range
is_body_of-requires-clause-variables_in_range g c = search (rules, arith, All-take, All-drop)

pub returns-then-not-begins_with_typecode-clause-tells_equal :
    goal.returns-then-not-begins_with_typecode-clause-tells_equal
returns-then-not-begins_with_typecode-clause-tells_equal g c =
    search (rules, arith, not_wanted_if_not_typed, bytes_eq)

pub returns-else-not-begins_with_typecode-clause-tells_equal :
    goal.returns-else-not-begins_with_typecode-clause-tells_equal
returns-else-not-begins_with_typecode-clause-tells_equal g c =
    grind (arith, common_steps, bytes_eq, take_rest, wanted_if_typed)
