use Rattle.std.proofs.Common.{◌≡◌, ap, ◌∙◌, sym, subst, List, ℕ, Some, true, bytes_eq, refl}
use Rattle.std.proofs.Common.{if◌then◌else◌, slice_get}
use Rattle.std.specs.Map.{keys_of}
use Rattle.mm_spec.specs.Frame.{index_of}
use Rattle.mm_database.specs.declared.name.Name.{Name}
use Rattle.mm_database.specs.Ends.{ends_of}
use Rattle.mm_database.specs.Names.{are_distinct, find, names_of, with_name}
use Rattle.mm_database.specs.Guesses.{AreGuessed}
use Rattle.mm_database.proofs.SymbolsLaw.{distinct_with_name, position_is_index}
use Rattle.mm_database.proofs.NamesLaw.{found_name_is_in, names_inserted}
use Rattle.mm_database.proofs.GuessesLaw.{known_name_stays_guessed, name_is_added_at_index}
use Rattle.mm_database.proofs.GuessesLaw.{other_names_stay}
use Rattle.mm_database.proofs.name_map.NameMap.insert_name.Goals as goal

-- a name with these bytes
abbrev name_with : List ℕ → Name
name_with w =
    record { bytes = record { ref_ptr = (0, 0); now = w }; ends = ends_of w; ends_are = refl }

pub invariant_of-self-then-is_some : goal.invariant_of-self-then-is_some
invariant_of-self-then-is_some g c =
    let es = c.self.inside.entries.entries in
    let names_are = ap names_of c.in_ok-index.ensures.entries
    ∙ names_inserted es c.args.name c.args.value in
    let is_known = found_name_is_in c.args.name.bytes.now es c.in_ok-index.before
    (sym c.in_ok-index.ensures.old) (sym c.is_some.ensures ∙ c.if-is_some.true) in (
      subst (λ (ns : List (List ℕ)). are_distinct ns ≡ true) (sym names_are)
          (distinct_with_name c.args.name.bytes.now (names_of es) c.self.invariant.0),
      subst (λ (ns : List (List ℕ)). AreGuessed ns c.self.inside.guesses.items) (sym names_are)
          (known_name_stays_guessed c.args.name.bytes.now (names_of es) c.self.inside.guesses.items
          is_known c.self.invariant.1),
    )

-- the clause `updates` of `insert_full`, at a key with these bytes
pub returns-then-is_some-clause-value_is_set : goal.returns-then-is_some-clause-value_is_set
returns-then-is_some-clause-value_is_set g c =
    λ w. c.in_ok-index.ensures.updates.0 (name_with w)
    ∙ ap (λ es. if bytes_eq c.args.name.bytes.now w then Some c.args.value else find es w) c.self.view_is

pub returns-then-is_some-clause-name_is_added : goal.returns-then-is_some-clause-name_is_added
returns-then-is_some-clause-name_is_added g c =
    ap names_of c.in_ok-index.ensures.entries
    ∙ names_inserted c.self.inside.entries.entries c.args.name c.args.value
    ∙ ap (λ es. with_name c.args.name.bytes.now (names_of es)) c.self.view_is

pub add_guess-requires-clause-is_name : goal.add_guess-requires-clause-is_name
add_guess-requires-clause-is_name g c =
    let es = c.self.inside.entries.entries in
    let word = c.args.name.bytes.now in
    ap (slice_get (names_of c.insert_full.new.self.entries))
    (c.in_ok-index.ensures.index ∙ position_is_index word (keys_of es))
    ∙ ap (λ ns. slice_get ns (index_of word (names_of es)))
    (ap names_of c.in_ok-index.ensures.entries
    ∙ names_inserted es c.args.name c.args.value)
    ∙ name_is_added_at_index word (names_of es)

pub add_guess-requires-clause-others_are_guessed : goal.add_guess-requires-clause-others_are_guessed
add_guess-requires-clause-others_are_guessed g c =
    let es = c.self.inside.entries.entries in
    let word = c.args.name.bytes.now in
    let index_is = c.in_ok-index.ensures.index ∙ position_is_index word (keys_of es) in
    let names_are = ap names_of c.in_ok-index.ensures.entries
    ∙ names_inserted es c.args.name c.args.value in
    λ i w i_isnt_index is_w. c.self.invariant.1 i w
    (other_names_stay word (names_of es) i w (λ i_is. i_isnt_index (i_is ∙ sym index_is))
    (ap (λ ns. slice_get ns i) (sym names_are) ∙ is_w))

pub invariant_of-self-2 : goal.invariant_of-self-2
invariant_of-self-2 g c =
    let es = c.self.inside.entries.entries in
    let names_are = ap names_of c.in_ok-index.ensures.entries
    ∙ names_inserted es c.args.name c.args.value in (
      subst (λ (ns : List (List ℕ)). are_distinct ns ≡ true) (sym names_are)
          (distinct_with_name c.args.name.bytes.now (names_of es) c.self.invariant.0),
      c.add_guess.ensures,
    )

pub returns-clause-value_is_set : goal.returns-clause-value_is_set
returns-clause-value_is_set g c =
    λ w. c.in_ok-index.ensures.updates.0 (name_with w)
    ∙ ap (λ es. if bytes_eq c.args.name.bytes.now w then Some c.args.value else find es w) c.self.view_is

pub returns-clause-name_is_added : goal.returns-clause-name_is_added
returns-clause-name_is_added g c =
    ap names_of c.in_ok-index.ensures.entries
    ∙ names_inserted c.self.inside.entries.entries c.args.name c.args.value
    ∙ ap (λ es. with_name c.args.name.bytes.now (names_of es)) c.self.view_is
