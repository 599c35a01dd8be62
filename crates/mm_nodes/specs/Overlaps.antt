-- Where strings lie over each other.
use Rattle.std.specs.Prelude.{ℕ, ◌+◌, ◌-◌, ◌<◌, ◌≤◌, ◌≡◌, List, ◌++◌, length, get_or, All}
use Rattle.mm_nodes.specs.declared.facts.Overlap.{Overlap}
use Rattle.mm_nodes.specs.Strings.{string_of, IsBody}

-- Two strings, of which one begins at index p and the other at index q, have the same symbol at
-- each index that is in both.
abbrev pub Agree : List ℕ → ℕ → List ℕ → ℕ → Type 0
Agree u p v q =
    (n : ℕ) → p ≤ n → n < p + length u → q ≤ n → n < q + length v
    → get_or u (n - p) 0 ≡ get_or v (n - q) 0

-- what an overlap says of nodes
abbrev pub Holds : List (List ℕ) → Overlap → Type 0
Holds nodes o = Agree (string_of nodes o.first) 0 (string_of nodes o.second) o.offset

-- the second body begins at a symbol of the first
pub record IsOverlap (nodes : List (List ℕ)) (o : Overlap) : Type 0 where
  pub first_is_body : IsBody nodes o.first
  pub second_is_body : IsBody nodes o.second
  pub offset_lt : o.offset < length (string_of nodes o.first)

-- all overlaps hold whose bodies' numbers have a sum below n
abbrev pub HoldBelow : List (List ℕ) → ℕ → List Overlap → Type 0
HoldBelow nodes n overlaps = All (λ o. o.first + o.second < n → Holds nodes o) overlaps

-- To what is to be shown was added what a statement comes to, all of it below n. The statement
-- holds if this does, and what was seen before and is below n. If the statement holds, so does
-- this.
pub record Comes (nodes : List (List ℕ)) (n : ℕ) (Statement : Type 0)
    (pending pending' seen seen' : List Overlap) : Type 0 where
  pub added : List Overlap
  pub pending_is : pending' ≡ pending ++ added
  pub are_overlaps : All (IsOverlap nodes) added
  pub are_below : All (λ o. o.first + o.second < n) added
  pub is_enough : All (Holds nodes) added → HoldBelow nodes n seen → Statement
  pub is_needed : Statement → All (Holds nodes) added
  pub seen_hold : (m : ℕ) → HoldBelow nodes m seen → HoldBelow nodes m added
      → HoldBelow nodes m seen'
