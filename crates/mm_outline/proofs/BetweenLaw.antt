-- The tokens up to one more.
use Rattle.std.proofs.lemmas.Grind.{common_steps}
use Rattle.std.proofs.Common.{◌≡◌, ℕ, ◌+◌, ◌-◌, ◌<◌, ◌≤◌, List, [], ◌∷◌, ◌++◌, length, take, drop}
use Rattle.std.proofs.Common.{get_or, ap, ◌∙◌, arith, get_or-drop, length-drop}
use Rattle.std.proofs.lemmas.List.{take_more, map-append}
use Rattle.mm_spec.specs.declared.Word.{Word}
use Rattle.mm_outline.specs.Parts.{as_tokens, token_of, token_at, between}

pub between_with_one_more : (text : List ℕ) (ws : List Word) (i j : ℕ) → i ≤ j → j < length ws
    → between text ws i (j + 1) ≡ between text ws i j ++ token_at text ws j ∷ []
between_with_one_more text ws i j i_le_j j_lt_length =
    let no_word : Word = record { start = 0; end = 0 } in
    let difference_is : (j + 1) - i ≡ (j - i) + 1 = omega arith in
    let place_is_j : i + (j - i) ≡ j = omega arith in
    let offset_in_dropped : j - i < length (drop i ws) = omega (arith, length-drop i ws) in
    ap (λ m. as_tokens text (take m (drop i ws))) difference_is
    ∙ ap (as_tokens text) (take_more (drop i ws) (j - i) no_word offset_in_dropped)
    ∙ map-append (token_of text) (take (j - i) (drop i ws))
    (get_or (drop i ws) (j - i) no_word ∷ [])
    ∙ ap (λ w. between text ws i j ++ token_of text w ∷ [])
    (get_or-drop i ws (j - i) no_word ∙ ap (λ k. get_or ws k no_word) place_is_j)

pub nothing_between_place_and_itself : (text : List ℕ) (ws : List Word) (i : ℕ)
    → [] ≡ between text ws i i
nothing_between_place_and_itself text ws i = grind (arith, common_steps)
