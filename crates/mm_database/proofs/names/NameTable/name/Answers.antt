use Rattle.std.proofs.Common.{rules, slice_get, arith, ap, sym, ◌∙◌}
use Rattle.mm_database.specs.Names.{KnownNames, names_of}
use Rattle.mm_database.proofs.NamesLaw.{name_of_entry, entry_is_not_missing}
use Rattle.mm_database.proofs.names.NameTable.name.Goals as goal

pub unreachable-requires : goal.unreachable-requires
unreachable-requires g c = search (rules, arith, entry_is_not_missing)

pub returns : goal.returns
returns g c =
    ap (λ (t : KnownNames). slice_get (names_of t.symbols) c.args.number) (sym c.self.view_is)
    ∙ name_of_entry c.self.inside.symbols c.args.number c.in-Some.name.now c.in-Some.field-0-1.now
    (sym c.in-Some.ensures.entry)
