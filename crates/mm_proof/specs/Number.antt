-- The letters of compressed proofs, and the numbers that they spell (Metamath book, "Compressed
-- Proofs").
use Rattle.std.specs.Prelude.{◌≡◌, ℕ, ◌-◌, min, true, false, ◌==◌, List, [], ◌∷◌, ◌++◌, map, IsTrue}
use Rattle.std.specs.List.{list_all}
use Rattle.mm_spec.specs.CompressedProof.{Group, is_early_letter, is_last_letter, mark_letter}
use Rattle.mm_spec.specs.CompressedProof.{unknown_letter, value}
use Rattle.mm_proof.specs.declared.numerals.LetterKind.{LetterKind}
use Rattle.mm_proof.specs.declared.numerals.LetterKind.TheVariants.{Early, Last, Mark, UnknownStep}
use Rattle.mm_proof.specs.declared.numerals.LetterKind.TheVariants.{Other}

-- the word consists of early letters followed by a last one, and has this value
pub record IsNumber (word : List ℕ) (n : ℕ) : Type 0 where
  pub group : Group
  pub letters_are_word : map (λ x. x.byte) group.early ++ group.last.byte ∷ [] ≡ word
  pub early_letters_are_early : IsTrue (list_all (λ x. is_early_letter x.byte) group.early)
  pub last_letter_is_last : IsTrue (is_last_letter group.last.byte)
  pub value_is : value group ≡ n

-- the kind of a byte, and its digit: `A` is 65 and spells 1, and so does `U`, which is 85
abbrev pub HasLetterKind : ℕ → LetterKind → Type 0
HasLetterKind b (Early d) = (is_early_letter b ≡ true) × (d ≡ b - 84)
HasLetterKind b (Last d) = (is_early_letter b ≡ false) × (is_last_letter b ≡ true) × (d ≡ b - 64)
HasLetterKind b Mark = b ≡ mark_letter
HasLetterKind b UnknownStep = b ≡ unknown_letter
HasLetterKind b Other =
    (is_early_letter b ≡ false) × (is_last_letter b ≡ false) × ((b == mark_letter) ≡ false)
    × ((b == unknown_letter) ≡ false)

-- a number as 64 bits hold it: all that are above the greatest 64-bit number become that number
abbrev pub saturated : ℕ → ℕ
saturated n = min n 18446744073709551615
