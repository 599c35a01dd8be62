use Rattle.std.proofs.Common.{◌<◌, ◌∙◌, arith, subst, sym}
use Rattle.std.proofs.lemmas.Option.{slice_get_within}
use Rattle.mm_database.specs.Names.{names_of}
use Rattle.mm_database.specs.Guesses.{IsGuessed}
use Rattle.mm_database.proofs.NamesLaw.{as_many_names_as_entries, entry_is_not_missing}
use Rattle.mm_database.proofs.NamesLaw.{name_of_entry}
use Rattle.mm_database.proofs.GuessesLaw.{guessed_up_to}
use Rattle.mm_database.proofs.name_map.renew_guesses.Goals as goal
use Rattle.mm_database.proofs.name_map.renew_guesses.Goals.{in-Some, in_default}

pub loop-index-preserved : goal.loop-index-preserved
loop-index-preserved g c =
    let es = c.args.entries.now.entries in
    elim c.match-get_index.branch [
      | in-Some w ↦ guessed_up_to (names_of es) c.loop-index.guesses.items
          c.match-get_index.guesses.items c.loop-index.index w.in-Some.name.now.bytes.now
          (name_of_entry es c.loop-index.index w.in-Some.name.now w.in-Some.field-0-1.now
          (sym w.in-Some.ensures.entry)) c.loop-index.invariant
          (λ v i is_guessed. subst (λ guesses. IsGuessed guesses.items v i) (sym w.guesses-is)
          (w.set_guess.ensures.others_stay v i is_guessed))
          (subst (λ guesses. IsGuessed guesses.items w.in-Some.name.now.bytes.now
          c.loop-index.index) (sym w.guesses-is) w.set_guess.ensures.is_guessed)
      | in_default w ↦ absurd (entry_is_not_missing es c.loop-index.index
          (subst (λ count. c.loop-index.index < count)
          (c.len-index-end.ensures.len ∙ as_many_names_as_entries es) c.loop-index-test.true)
          (sym w.in_default.ensures.entry))
    ]

pub returns : goal.returns
returns g c = λ i w is_name.
    let es = c.args.entries.now.entries in
    let i_lt_count = slice_get_within (names_of es) i w is_name in
    let count_is = c.len-index-end.ensures.len ∙ as_many_names_as_entries es in
    let count_le_index = c.loop-index-test.false in
    c.loop-index.invariant i w (omega (arith, i_lt_count, count_is, count_le_index)) is_name
