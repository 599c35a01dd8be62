use Rattle.std.proofs.Common.{◌∙◌, sym, ap}
use Rattle.std.specs.Option.{option_map}
use Rattle.std.specs.List.{list_any}
use Rattle.mm_spec.specs.Scope.{statement_at}
use Rattle.mm_spec.specs.Assertion.{has_typecode}
use Rattle.mm_database.proofs.TypecodeLaw.{typecode_is_compared}
use Rattle.mm_database.proofs.chosen_typecode.has_chosen_typecode.Goals as goal

pub returns-in-Some-typecode : goal.returns-in-Some-typecode
returns-in-Some-typecode g c =
    let db = c.args.database.now.statements in
    let k = c.args.statement in
    c.eq.ensures
    ∙ typecode_is_compared db k c.in-Some-typecode.typecode c.name.result.now c.in-Some.name.now
    c.requires (sym c.in-Some-typecode.ensures.typecode) c.name.ensures
    ∙ ap (λ o. list_any (has_typecode (option_map (λ w. w.now) o)) (statement_at db k))
    (sym c.in-Some.is)
