-- What the numbers of compressed proofs are, by their bytes.
use Rattle.std.proofs.lemmas.Grind.{common_steps}
use Rattle.std.proofs.Common.{◌≡◌, ◌∙◌, ℕ, ◌+◌, ◌-◌, ◌*◌, ◌<◌, true, false, List, [], ◌∷◌, ◌++◌}
use Rattle.std.proofs.Common.{map, length, get_or, fold, refl, sym, ap, arith, true≢false, Result}
use Rattle.std.proofs.Common.{IfSome, IfNone}
use Rattle.std.specs.List.{list_all}
use Rattle.std.proofs.lemmas.Bool.{cases_lt}
use Rattle.mm_spec.specs.CompressedProof.{Letter, letters_from, Group, is_early_letter}
use Rattle.mm_spec.specs.CompressedProof.{is_last_letter}
use Rattle.std.specs.Result.{OkIff, result_ok}
use Rattle.std.proofs.lemmas.List.Folds.{list_all_at}
use Rattle.std.proofs.lemmas.List.{same_from_push}
use Rattle.mm_proof.specs.declared.numerals.LetterKind.{LetterKind}
use Rattle.mm_proof.specs.declared.numerals.LetterKind.TheVariants.{Early}
use Rattle.mm_proof.specs.Number.{IsNumber, HasLetterKind, saturated}

-- the bytes of letters
abbrev bytes : List Letter → List ℕ
bytes xs = map (λ x. x.byte) xs

-- the letters that a text has have its bytes
bytes_of_letters_from : (at : ℕ) (bs : List ℕ) → bytes (letters_from at bs) ≡ bs
bytes_of_letters_from at [] = refl
bytes_of_letters_from at (b ∷ bs) = ap (λ z. b ∷ z) (bytes_of_letters_from (at + 1) bs)

-- the value of early letters, by their bytes
abbrev pub early_bytes : List ℕ → ℕ
early_bytes bs = fold (λ n b. 5 * n + (b - 84)) 0 bs

-- the value of early letters depends only on their bytes
fold_is_fold_of_bytes : (a : ℕ) (xs : List Letter)
    → fold (λ n (x : Letter). 5 * n + (x.byte - 84)) a xs
    ≡ fold (λ n b. 5 * n + (b - 84)) a (bytes xs)
fold_is_fold_of_bytes a xs = grind (arith, common_steps)

-- whether letters are early depends only on their bytes
early_if_bytes_are_early : (xs : List Letter)
    → list_all (λ (x : Letter). is_early_letter x.byte) xs ≡ list_all is_early_letter (bytes xs)
early_if_bytes_are_early [] = refl
early_if_bytes_are_early (x ∷ xs) = grind (arith, common_steps, (early_if_bytes_are_early xs))

-- early bytes and a last one spell the number that they have as value
pub is_number_from_bytes : (bs : List ℕ) (b n : ℕ) → list_all is_early_letter bs ≡ true
    → is_last_letter b ≡ true → early_bytes bs * 20 + (b - 64) ≡ n → IsNumber (bs ++ b ∷ []) n
is_number_from_bytes bs b n early_bytes_are_early b_is_last value_is_n =
    let xs = letters_from 0 bs in
    let g : Group = record { early = xs; last = record { at = 0; byte = b } } in
    record {
      group = g;
      letters_are_word = ap (λ z. z ++ b ∷ []) (bytes_of_letters_from 0 bs);
      early_letters_are_early = early_if_bytes_are_early xs
          ∙ ap (list_all is_early_letter) (bytes_of_letters_from 0 bs)
          ∙ early_bytes_are_early;
      last_letter_is_last = b_is_last;
      value_is = ap (λ z. z * 20 + (b - 64)) (fold_is_fold_of_bytes 0 xs
          ∙ ap early_bytes (bytes_of_letters_from 0 bs))
          ∙ value_is_n;
    }

-- the bytes `bs` are early, `b` is last, and they have the value `n`
pub record IsSpelled (bs : List ℕ) (b n : ℕ) : Type 0 where
  pub bytes_are_early : list_all is_early_letter bs ≡ true
  pub b_is_last : is_last_letter b ≡ true
  pub value_is : early_bytes bs * 20 + (b - 64) ≡ n

-- a number is spelled by its bytes
pub number_is_spelled : (bs : List ℕ) (b n : ℕ) → IsNumber (bs ++ b ∷ []) n → IsSpelled bs b n
number_is_spelled bs b n is_number =
    grind (arith, common_steps, same_from_push, early_if_bytes_are_early, fold_is_fold_of_bytes)

-- a byte that isn't early is no early letter of a number
kind_is_not_early : (k : LetterKind) (b : ℕ) → HasLetterKind b k → ((x : ℕ) → k ≡ Early x → ⊥)
    → is_early_letter b ≡ false
kind_is_not_early k b h1 h2 = grind (arith, common_steps)

-- no number has a byte before its last that isn't early
pub no_number_with_late_byte : (bs : List ℕ) (b n i d : ℕ) (k : LetterKind) → i < length bs
    → HasLetterKind (get_or bs i d) k → ((x : ℕ) → k ≡ Early x → ⊥) → IsNumber (bs ++ b ∷ []) n → ⊥
no_number_with_late_byte bs b n i d k i_lt_length has_kind kind_isnt_early is_number =
    true≢false
    (sym (number_is_spelled bs b n is_number).bytes_are_early
    ∙ list_all_at is_early_letter bs i d i_lt_length
    (kind_is_not_early k (get_or bs i d) has_kind kind_isnt_early))

-- the value that the code has, by the conversion to 32 bits
pub saturated_is_number : {E : Type 0} (r : Result ℕ E) (bs : List ℕ) (b v w : ℕ)
    → OkIff r (w < 4294967296) w
    → v ≡ saturated (early_bytes bs) → w ≡ saturated (20 * v + (b - 64))
    → list_all is_early_letter bs ≡ true → is_last_letter b ≡ true
    → IfSome (result_ok r) (λ n. IsNumber (bs ++ b ∷ []) n)
saturated_is_number r bs b v w h1 h2 h3 h4 h5 = grind (arith, common_steps, is_number_from_bytes)

-- if the conversion to 32 bits fails, each number with these bytes is larger than 32 bits hold
pub saturated_is_too_large : {E : Type 0} (r : Result ℕ E) (bs : List ℕ) (b v w : ℕ)
    → OkIff r (w < 4294967296) w
    → v ≡ saturated (early_bytes bs) → w ≡ saturated (20 * v + (b - 64))
    → IfNone (result_ok r) ((n : ℕ) → IsNumber (bs ++ b ∷ []) n → 4294967295 < n)
saturated_is_too_large r bs b v w h1 h2 h3 =
    grind (arith, common_steps, number_is_spelled, cases_lt)
