-- A number among rising ones is found.
use Rattle.std.proofs.lemmas.Grind.{common_steps}
use Rattle.std.proofs.Common.{◌≡◌, nat_cmp, ℕ, ◌<◌, inl, inr, List, [], ◌∷◌, ◌++◌, get_or, Err, ◌∙◌}
use Rattle.std.proofs.Common.{arith, All, length-append}
use Rattle.std.specs.List.{Contains}
use Rattle.std.specs.List.Sorted.{IsBinarySearchResult}
use Rattle.std.proofs.lemmas.List.{get_or_default, get_or_append_left}
use Rattle.std.proofs.lemmas.List.Elements.{All-get_or}
use Rattle.std.proofs.lemmas.List.Sorted.{searched}
use Rattle.std.proofs.lemmas.Bool.{cases_lt}
use Rattle.mm_machine.specs.State.{IsRising}

pub present_is_found : (xs : List ℕ) (x n : ℕ) → IsBinarySearchResult (λ y. nat_cmp y x) xs (Err n)
    → IsRising xs → Contains xs x → ⊥
present_is_found xs x n is_binary_search_result xs_rise contained = elim (cases_lt
    contained.0 n) [
      | inl index_lt_n ↦ omega (
        arith,
        (searched xs x (Err n) is_binary_search_result xs_rise).1 contained.0 index_lt_n,
        x_is_at,
      )
      | inr n_le_index ↦
          omega (
            arith,
            (searched xs x (Err n) is_binary_search_result xs_rise).2 contained.0
                n_le_index contained.1,
            x_is_at,
          )
    ]
  where
    x_is_at : get_or xs contained.0 0 ≡ x
    x_is_at = get_or_default xs contained.0 0 x contained.1 ∙ contained.2

-- an ascending list with a greater number more at its end ascends
pub rising_push : (xs : List ℕ) (n : ℕ) → IsRising xs → All (λ j. j < n) xs
    → IsRising (xs ++ n ∷ [])
rising_push xs n xs_rise xs_lt_n a b a_le_b b_lt_length =
    grind (arith, common_steps, cases_lt, get_or_append_left, length-append, All-get_or)
