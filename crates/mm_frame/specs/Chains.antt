-- The `$d` statements of each symbol, as a chain of links. Link n is the one with index n - 1, and
-- no link has the number 0, which ends a chain. A link has a statement and the number of the next
-- link.
use Rattle.std.specs.Prelude.{◌≡◌, ℕ, ◌<◌, ◌≤◌, ◌-◌, Bool, ◌&&◌, ◌||◌, List, [], ◌∷◌, length}
use Rattle.std.specs.Prelude.{get_or, nat_eq}
use Rattle.mm_spec.specs.Derivation.{is_member}
use Rattle.mm_spec.specs.Rising.{IsRisingFrom}
use Rattle.mm_frame.specs.declared.chains.Chains.{Chains}

-- the links from link n on have these statements, in this order
abbrev pub IsLinkChain : List (ℕ × ℕ) → ℕ → List ℕ → Type 0
IsLinkChain links n [] = n ≡ 0
IsLinkChain links n (j ∷ js) =
    (0 < n) × (n ≤ length links) × ((get_or links (n - 1) (0, 0)).0 ≡ j)
    × IsLinkChain links (get_or links (n - 1) (0, 0)).1 js

-- each chain begins at one of the links, and each link leads to one before it
pub record AreLinked (heads : List ℕ) (links : List (ℕ × ℕ)) : Type 0 where
  pub heads_le_length : (x : ℕ) → x < length heads → get_or heads x 0 ≤ length links
  pub next_le_index : (i : ℕ) → i < length links → (get_or links i (0, 0)).1 ≤ i

-- the chain from link n on has the statements that pass the test, in ascending order, all of them
-- from `least` on
pub record HasChain (passes : ℕ → Bool) (least : ℕ) (links : List (ℕ × ℕ)) (n : ℕ) : Type 0 where
  pub statements : List ℕ
  pub chain : IsLinkChain links n statements
  pub rising : IsRisingFrom least statements
  pub members_are : (j : ℕ) → is_member statements j ≡ passes j

-- the chain of each symbol x has the statements j for which `passes x j` is true
abbrev pub AreChains : (ℕ → ℕ → Bool) → ℕ → List ℕ → List (ℕ × ℕ) → Type 0
AreChains passes least heads links =
    (x : ℕ) → x < length heads → HasChain (passes x) least links (get_or heads x 0)

module _ {A : Type 0} where
  -- Statement k is put in front of the chains of the symbols that pass the test. If no statement of
  -- the chains was before k, these then have k beside what they had, and the others what they had.
  abbrev pub AddsInFront : (ℕ → Bool) → ℕ → Chains A → Chains A → Type 0
  AddsInFront test k old new =
      (passes : ℕ → ℕ → Bool) → AreChains passes k old.heads.items old.links.items
      → AreChains (λ x j. passes x j || (test x && nat_eq j k)) k new.heads.items new.links.items

  -- the chain of a symbol passes these statements, in this order
  abbrev pub IsChainOf : Chains A → ℕ → List ℕ → Type 0
  IsChainOf c x statements = IsLinkChain c.links.items (get_or c.heads.items x 0) statements
