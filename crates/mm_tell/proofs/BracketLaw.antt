-- The labels in the brackets of a compressed proof.
use Rattle.std.proofs.Common.{◌≡◌, ◌∙◌, ℕ, ◌<◌, ◌≤◌, true, false, List, [], ◌∷◌, ◌++◌, length}
use Rattle.std.proofs.Common.{take, drop, map, get_or, refl, ap, arith, append-nil, suc, zero}
use Rattle.std.specs.Prelude.{bytes_eq, codes}
use Rattle.mm_spec.specs.Text.{Token}
use Rattle.mm_spec.specs.CompressedProof.{bracketed}

module _ {X : Type 0} (f : X → Token) where
  -- if none of the first i words is a `)`, they are labels
  labels_before : (xs : List X) (i : ℕ) → i ≤ length xs
      → ((j : ℕ) (d : X) → j < i → bytes_eq (f (get_or xs j d)).word (codes ")") ≡ false)
      → (bracketed (map f xs)).labels
      ≡ map f (take i xs) ++ (bracketed (map f (drop i xs))).labels
  labels_before xs zero i_le_length none_closes = refl
  labels_before [] (suc i) i_le_length none_closes = absurd (omega arith)
  labels_before (x ∷ xs) (suc i) i_le_length none_closes =
      rw (none_closes 0 x (omega arith), bracketed)
      (ap (λ ts. f x ∷ ts)
      (labels_before xs i (omega arith) (λ j d j_lt_i. none_closes (suc j) d (omega arith))))

  nothing_at_bracket : (xs : List X) (i : ℕ) (d : X) → i < length xs
      → bytes_eq (f (get_or xs i d)).word (codes ")") ≡ true
      → (bracketed (map f (drop i xs))).labels ≡ []
  nothing_at_bracket [] i d i_lt_length closes = absurd (omega arith)
  nothing_at_bracket (x ∷ xs) zero d i_lt_length closes = rw (closes, bracketed) refl
  nothing_at_bracket (x ∷ xs) (suc i) d i_lt_length closes =
      nothing_at_bracket xs i d (omega arith) closes

  -- the first `)` ends the labels
  pub labels_up_to_bracket : (xs : List X) (i : ℕ) (d : X) → i < length xs
      → ((j : ℕ) (d : X) → j < i → bytes_eq (f (get_or xs j d)).word (codes ")") ≡ false)
      → bytes_eq (f (get_or xs i d)).word (codes ")") ≡ true
      → (bracketed (map f xs)).labels ≡ map f (take i xs)
  labels_up_to_bracket xs i d i_lt_length none_closes closes =
      labels_before xs i (omega arith) none_closes
      ∙ ap (λ ts. map f (take i xs) ++ ts) (nothing_at_bracket xs i d i_lt_length closes)
      ∙ append-nil (map f (take i xs))

  -- without a `)` all words are labels
  pub all_are_labels : (xs : List X)
      → ((j : ℕ) (d : X) → j < length xs → bytes_eq (f (get_or xs j d)).word (codes ")") ≡ false)
      → (bracketed (map f xs)).labels ≡ map f xs
  all_are_labels [] none_closes = refl
  all_are_labels (x ∷ xs) none_closes =
      rw (none_closes 0 x (omega arith), bracketed)
      (ap (λ ts. f x ∷ ts) (all_are_labels xs (λ j d j_lt. none_closes (suc j) d (omega arith))))
