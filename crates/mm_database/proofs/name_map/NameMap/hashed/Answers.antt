use Rattle.std.proofs.Common.{◌∙◌, sym, ap}
use Rattle.std.specs.Map.{keys_of}
use Rattle.mm_spec.specs.Frame.{index_of}
use Rattle.mm_database.specs.Names.{find, names_of}
use Rattle.mm_database.proofs.SymbolsLaw.{position_is_index_of}
use Rattle.mm_database.proofs.NamesLaw.{missing_number_is_count}
use Rattle.mm_database.proofs.name_map.NameMap.hashed.Goals as goal

pub returns-in-Some-clause-index_is : goal.returns-in-Some-clause-index_is
returns-in-Some-clause-index_is g c =
    position_is_index_of c.args.word.now.bytes.now (keys_of c.self.inside.entries.entries) c.in-Some.index
    (sym c.in-Some.ensures.index)
    ∙ ap (λ es. index_of c.args.word.now.bytes.now (names_of es)) c.self.view_is

pub returns-in-Some-clause-value_is : goal.returns-in-Some-clause-value_is
returns-in-Some-clause-value_is g c =
    c.in-Some.ensures.value ∙ ap (λ es. find es c.args.word.now.bytes.now) c.self.view_is

pub returns-in-None-clause-index_is : goal.returns-in-None-clause-index_is
returns-in-None-clause-index_is g c =
    c.len.ensures.len
    ∙ missing_number_is_count c.args.word.now.bytes.now c.self.inside.entries.entries
    (sym c.in-None.ensures.value)
    ∙ ap (λ es. index_of c.args.word.now.bytes.now (names_of es)) c.self.view_is

pub returns-in-None-clause-value_is : goal.returns-in-None-clause-value_is
returns-in-None-clause-value_is g c =
    c.in-None.ensures.value ∙ ap (λ es. find es c.args.word.now.bytes.now) c.self.view_is
