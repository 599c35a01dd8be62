use Rattle.std.proofs.Common.{◌≡◌, ◌≤◌, ◌∙◌, ap, length, slice_get, Some, subst, sym}
use Rattle.mm_database.specs.Guesses.{IsGuessed, first_place, no_guess}
use Rattle.mm_database.proofs.GuessesLaw.{AreTaken, guessed_at_first_free}
use Rattle.mm_database.proofs.GuessesLaw.{guessed_in_filled_place}
use Rattle.mm_database.proofs.name_map.put_guess.Goals as goal

place_is_free : (g : _) (c : goal.After-guesses-1 g)
    → slice_get c.loop-place.guesses.items c.loop-place.place ≡ Some no_guess
place_is_free g c = sym c.guess_at.ensures ∙ c.in-Some.is ∙ ap Some c.if-before.true

pub returns-then-before-clause-is_guessed : goal.returns-then-before-clause-is_guessed
returns-then-before-clause-is_guessed g c =
    let guesses = c.loop-place.guesses.items in
    let place = c.loop-place.place in
    let first_is : c.first_place-first.result ≡ first_place c.args.word.now.bytes.now (length guesses) =
    c.first_place-first.ensures.is_first_place ∙ ap (first_place c.args.word.now.bytes.now)
    (c.len.ensures ∙ c.args.guesses.now.ok.0
    ∙ sym (ap (λ v. length v.items) c.loop-place.invariant.1)) in
    guessed_at_first_free guesses place c.args.guess c.args.word.now.bytes.now c.requires
    (subst (λ first. first ≤ place) first_is c.loop-place.invariant.0)
    (subst (λ first. AreTaken guesses first place) first_is c.loop-place.invariant.2)
    (place_is_free g c)

pub returns-then-before-clause-others_stay : goal.returns-then-before-clause-others_stay
returns-then-before-clause-others_stay g c =
    λ w i is_guessed. guessed_in_filled_place c.loop-place.guesses.items c.loop-place.place
    c.args.guess w i (place_is_free g c)
    (subst (λ v. IsGuessed v.items w i) (sym c.loop-place.invariant.1) is_guessed)
