use Rattle.std.proofs.Common.{◌∙◌, sym, is_some, ap}
use Rattle.mm_database.specs.Names.{names_of}
use Rattle.mm_scope.proofs.scope.Scope.give_type.Goals as goal
use Rattle.mm_database.proofs.NamesLaw.{on_ok_then, with_known_name_is_unchanged, found_name_is_in}

pub returns-in-Some-clause-names_stay : goal.returns-in-Some-clause-names_stay
returns-in-Some-clause-names_stay g c =
    let w = c.bytes-word.result.now in
    let m = c.args.self.now.names.symbols in
    on_ok_then c.set_symbol.result c.set_symbol.ensures.name_is_added
    (λ names_are_inserted. names_are_inserted ∙ with_known_name_is_unchanged w (names_of m)
    (found_name_is_in w m c.numbered-number.result.1
    (sym c.numbered-number.ensures.symbol_is_found) (ap is_some c.in-Some.is)))
