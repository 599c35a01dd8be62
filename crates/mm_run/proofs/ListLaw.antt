-- Lemmas on lists that std lacks.
use Rattle.std.proofs.Common.{◌≡◌, ℕ, suc, ◌<◌, List, [], ◌∷◌, length, get_or, arith}
use Rattle.std.specs.List.{AllZip}

-- two lists of one length whose elements are related at each index are related as lists
pub zip_by_index : {A B : Type 0} (R : A → B → Type 0) (xs : List A) (ys : List B) (d : A) (e : B)
    → length xs ≡ length ys → ((i : ℕ) → i < length xs → R (get_or xs i d) (get_or ys i e))
    → AllZip R xs ys
zip_by_index R [] [] d e lengths_equal each_related = tt
zip_by_index R [] (y ∷ ys) d e lengths_equal each_related = absurd (omega (arith, lengths_equal))
zip_by_index R (x ∷ xs) [] d e lengths_equal each_related = absurd (omega (arith, lengths_equal))
zip_by_index R (x ∷ xs) (y ∷ ys) d e lengths_equal each_related = (
  each_related 0 (omega arith),
  zip_by_index R xs ys d e (omega (arith, lengths_equal)) (λ i
      i_lt_length. each_related (suc i) (omega arith)),
)
