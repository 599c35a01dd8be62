use Rattle.std.proofs.Common.{◌≡◌, ap, ◌∙◌, sym, Some, slice_get, true≢false}
use Rattle.std.proofs.lemmas.Slice.Eq.{bytes_eq-Decides}
use Rattle.mm_spec.specs.Frame.{index_of}
use Rattle.mm_database.specs.Names.{find, names_of}
use Rattle.mm_database.proofs.SymbolsLaw.{index_of_distinct}
use Rattle.mm_database.proofs.NamesLaw.{entry_has_name, name_of_entry}
use Rattle.mm_database.proofs.name_map.NameMap.value_at.Goals as goal

pub returns-then-is-clause-index_is : goal.returns-then-is-clause-index_is
returns-then-is-clause-index_is g c =
    let es = c.self.inside.entries.entries in
    let name = c.in_ok-name.name.now in
    let name_is_word : name.bytes.now ≡ c.args.word.now.bytes.now =
    (bytes_eq-Decides name.bytes.now c.args.word.now.bytes.now).0 (sym c.is.ensures ∙ c.if-is.true) in
    index_of_distinct (names_of es) c.self.invariant.0 _ c.args.word.now.bytes.now
    (name_of_entry es _ name c.in_ok-name.value.now (sym c.in_ok-name.ensures.entry)
    ∙ ap Some name_is_word)
    ∙ ap (λ es. index_of c.args.word.now.bytes.now (names_of es)) c.self.view_is

pub returns-then-is-clause-value_is : goal.returns-then-is-clause-value_is
returns-then-is-clause-value_is g c =
    let name = c.in_ok-name.name.now in
    let name_is_word : name.bytes.now ≡ c.args.word.now.bytes.now =
    (bytes_eq-Decides name.bytes.now c.args.word.now.bytes.now).0 (sym c.is.ensures ∙ c.if-is.true) in
    sym c.in_ok-name.ensures.value ∙ ap (find c.self.inside.entries.entries) name_is_word
    ∙ ap (λ es. find es c.args.word.now.bytes.now) c.self.view_is

pub returns-else-is-clause-is_other : goal.returns-else-is-clause-is_other
returns-else-is-clause-is_other g c = λ name_is_word.
    let es = c.self.inside.entries.entries in
    let name = c.in_ok-name.name.now in
    let has_name : name.bytes.now ≡ c.args.word.now.bytes.now =
    entry_has_name es c.args.index name c.in_ok-name.value.now c.args.word.now.bytes.now
    (sym c.in_ok-name.ensures.entry)
    (ap (λ es. slice_get (names_of es) c.args.index) c.self.view_is ∙ name_is_word) in
    true≢false (sym ((bytes_eq-Decides name.bytes.now c.args.word.now.bytes.now).1 has_name)
    ∙ (sym c.is.ensures ∙ c.if-is.false))
