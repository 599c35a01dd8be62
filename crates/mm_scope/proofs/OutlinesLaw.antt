-- The statements that are found from one of them on.
use Rattle.std.proofs.Common.{◌≡◌, ◌<◌, ◌≤◌, ℕ, ◌+◌, zero, suc, min, List, [], ◌∷◌, ◌++◌, length}
use Rattle.std.proofs.Common.{take, drop, All, slice_index_or, arith, refl, sym, ap, ◌∙◌, subst}
use Rattle.std.proofs.lemmas.List.{length-take, take_min, take_more}
use Rattle.std.proofs.lemmas.List.Elements.{All-nil, All-cons}
use Rattle.mm_spec.specs.declared.Word.{Word}
use Rattle.mm_outline.specs.Parts.{depth_after, IsOutline}
use Rattle.mm_outline.specs.NextStatement.{IsNextStatement}
use Rattle.mm_outline.specs.declared.parts.Outline.{Outline}
use Rattle.mm_outline.specs.declared.parts.NextStatement.TheVariants.{Whole}
use Rattle.mm_scope.specs.Outlines.{AreOutlinesFrom, IsRest}
use Rattle.mm_scope.specs.declared.outlines.Rest.{Rest}

-- the elements from one on are this one and the later ones
pub from_element : {A : Type 0} (xs : List A) (i : ℕ) (default : A) → i < length xs
    → drop i xs ≡ slice_index_or xs i default ∷ drop (i + 1) xs
from_element [] i default i_lt_length = absurd (omega (arith, i_lt_length))
from_element (x ∷ xs) zero default i_lt_length = refl
from_element (x ∷ xs) (suc i) default i_lt_length =
    let next : suc i + 1 ≡ suc (i + 1) = omega arith in
    rw next (from_element xs i default (omega (arith, i_lt_length)))

-- behind all elements is none
pub none_left : {A : Type 0} (xs : List A) (i : ℕ) → length xs ≤ i → drop i xs ≡ []
none_left [] zero all_before = refl
none_left [] (suc i) all_before = refl
none_left (x ∷ xs) zero all_before = absurd (omega (arith, all_before))
none_left (x ∷ xs) (suc i) all_before = none_left xs i (omega (arith, all_before))

-- a list that is the first elements of another is those that its length counts
pub first_by_length : {A : Type 0} (xs ys : List A) (i : ℕ) → xs ≡ take i ys
    → xs ≡ take (length xs) ys
first_by_length xs ys i are_first =
    let count : length xs ≡ min i (length ys) = ap length are_first ∙ length-take i ys in
    are_first ∙ sym (take_min i ys) ∙ ap (λ n. take n ys) (sym count)

-- the first elements with the next one are one more
pub first_with_next : {A : Type 0} {xs : List A} (ys : List A) (i : ℕ) (default : A)
    → xs ≡ take i ys → i < length ys → xs ++ slice_index_or ys i default ∷ [] ≡ take (i + 1) ys
first_with_next {xs} ys i default are_first i_lt_length =
    rw are_first (sym (take_more ys i default i_lt_length))

module _ (text : List ℕ) (ws : List Word) (d from : ℕ) (os : List Outline) (rest : Rest) (i : ℕ)
    (left : AreOutlinesFrom text ws d from (drop i os) rest)
  where
    -- the statement with the index i is found where the earlier ones end, and the later ones
    -- behind it
    pub next_outline : (default : Outline) → i < length os
        → let o = slice_index_or os i default in
        IsNextStatement text ws d from (Whole o)
        × AreOutlinesFrom text ws (depth_after o.kind d) (o.end + 1) (drop (i + 1) os) rest
    next_outline default i_lt_length =
        subst (λ list. AreOutlinesFrom text ws d from list rest)
        (from_element os i default i_lt_length) left

    -- the rest is found behind the last statement
    pub rest_is_left : length os ≤ i → IsRest text ws d from rest
    rest_is_left all_before =
        subst (λ list. AreOutlinesFrom text ws d from list rest) (none_left os i all_before) left

module _ (text : List ℕ) (ws : List Word) (rest : Rest) where
  -- the outline lies within the tokens
  abbrev IsWithin : Outline → Type 0
  IsWithin o = IsOutline o × (o.end < length ws)

  -- the outlines that are found lie within the tokens
  pub outlines_are_within : (d from : ℕ) (os : List Outline)
      → AreOutlinesFrom text ws d from os rest
      → All (λ o. IsOutline o × (o.end < length ws)) os
  outlines_are_within d from [] found = All-nil IsWithin
  outlines_are_within d from (o ∷ os) found =
      All-cons IsWithin o os (found.0.0, found.0.1.end_lt_count)
      (outlines_are_within (depth_after o.kind d) (o.end + 1) os found.1)

  -- there are no more outlines than tokens
  pub outlines_le_tokens : (d from : ℕ) (os : List Outline)
      → AreOutlinesFrom text ws d from os rest
      → from ≤ length ws → length os + from ≤ length ws
  outlines_le_tokens d from [] found from_le_length = omega (arith, from_le_length)
  outlines_le_tokens d from (o ∷ os) found from_le_length =
      let whole = found.0.1 in
      let end_lt_count = whole.end_lt_count in
      let from_le_end = whole.from_le_end in
      let later = outlines_le_tokens (depth_after o.kind d) (o.end + 1) os found.1
      (omega (arith, end_lt_count)) in
      omega (arith, later, from_le_end)
