-- What the reading of a text's statements needs of its tokens, and what it gives.
use Rattle.std.proofs.Common.{◌≡◌, ◌<◌, ◌≤◌, ◌^◌, ◌∙◌, ℕ, List, All, None, sym, subst, length}
use Rattle.std.proofs.Common.{take, arith, Option}
use Rattle.std.specs.List.{AllPairs}
use Rattle.std.proofs.lemmas.List.Elements.{All-take}
use Rattle.mm_spec.specs.Lexed.{tokens_of, lexical_fault}
use Rattle.mm_spec.specs.declared.Fault.{Fault}
use Rattle.mm_spec.specs.declared.Word.{Word}
use Rattle.mm_outline.specs.Parts.{AreWithin, IsOutline}
use Rattle.mm_outline.specs.Tokens.{AreTokens}
use Rattle.mm_outline.specs.declared.parts.Outline.{Outline}
use Rattle.mm_outline.proofs.TokensLaw.{tokens_are_in_text, tokens_are_told_by_first_byte}
use Rattle.mm_outline.proofs.TokensLaw.{tokens_lt_2_31, tokens_rise, faultless_text_fits_limit}
use Rattle.mm_scope.specs.Outlines.{AreOutlinesFrom}
use Rattle.mm_scope.specs.declared.outlines.Rest.{Rest}
use Rattle.mm_spec.specs.Frame.{symbol_names}
use Rattle.mm_outline.specs.Statements.{statements}
use Rattle.mm_scope.proofs.NumberingLaw.{few_names}
use Rattle.mm_scope.proofs.OutlinesLaw.{outlines_are_within, outlines_le_tokens}

module _ (text : List ℕ) (ws : List Word) (words_are_tokens : ws ≡ tokens_of text) where
  pub words_are_within : AreWithin text ws
  words_are_within = subst (AreWithin text) (sym words_are_tokens) (tokens_are_in_text text)

  pub words_are_told : AreTokens text ws
  words_are_told =
      subst (AreTokens text) (sym words_are_tokens) (tokens_are_told_by_first_byte text)

  pub words_rise : AllPairs (λ v w. v.end ≤ w.start) ws
  words_rise =
      subst (λ (us : List Word). AllPairs (λ v w. v.end ≤ w.start) us) (sym words_are_tokens)
      (tokens_rise text)

  pub few_words : length ws < 2 ^ 31
  few_words =
      subst (λ (us : List Word). length us < 2 ^ 31) (sym words_are_tokens) (tokens_lt_2_31 text)

  -- the outlines that are found, and the first ones of them
  module _ (os : List Outline) (rest : Rest) (are_found : AreOutlinesFrom text ws 0 0 os rest) where
    pub all_are_within : All (λ o. IsOutline o × (o.end < length ws)) os
    all_are_within = outlines_are_within text ws rest 0 0 os are_found

    pub few_are_found : length os < 2 ^ 31
    few_are_found =
        let le_tokens = outlines_le_tokens text ws rest 0 0 os are_found (omega arith) in
        let words_lt_2_31 = few_words in
        omega (arith, le_tokens, words_lt_2_31)

    pub few_are_named : length (symbol_names (statements text ws os)) < 2 ^ 31
    few_are_named = few_names text ws rest os are_found few_words

    pub first_are_within : (first : List Outline) → first ≡ take (length first) os
        → All (λ o. IsOutline o × (o.end < length ws)) first
    first_are_within first are_first =
        subst (All (λ o. IsOutline o × (o.end < length ws))) (sym are_first)
        (All-take (λ o. IsOutline o × (o.end < length ws)) (length first) os all_are_within)

-- a text without a lexical fault has few bytes
pub few_bytes : (text : List ℕ) (fault : Option Fault) → fault ≡ lexical_fault text → fault ≡ None
    → length text < 2 ^ 31
few_bytes text fault fault_is no_fault =
    let fits_limit = faultless_text_fits_limit text (sym fault_is ∙ no_fault) in
    omega (arith, fits_limit)
