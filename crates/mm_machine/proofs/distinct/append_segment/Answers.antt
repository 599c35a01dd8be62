use Rattle.std.proofs.Common.{◌<◌, ℕ, List, All, length, subst, sym}
use Rattle.mm_spec.specs.Frame.{symbol_names}
use Rattle.mm_nodes.specs.Strings.{string_of}
use Rattle.mm_machine.proofs.DistinctLaw.{in_range_if_same}
use Rattle.mm_machine.proofs.distinct.append_segment.Goals as goal

pub append_variables-requires : goal.append_variables-requires
append_variables-requires g c =
    let count = length (symbol_names c.args.database.now.statements) in
    subst (λ (symbols : List ℕ). All (λ s. s < count) symbols) (sym c.deref.ensures.value)
    (in_range_if_same count (string_of c.args.nodes.now c.args.body)
    c.list_symbols.new.list.items c.in_ok-list_symbols.ensures.symbols_are_same c.requires)
