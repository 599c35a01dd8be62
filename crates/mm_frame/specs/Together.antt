-- Variables that are in one `$d`.
use Rattle.std.specs.Prelude.{ℕ, Bool, ◌&&◌, List, nat_eq, nat_lt}
use Rattle.mm_spec.specs.Derivation.{is_member}
use Rattle.mm_outline.specs.Blocks.{BlockLists}
use Rattle.mm_database.specs.DisjointIndex.{is_active_in_row, row_of}
use Rattle.mm_database.specs.Pairs.{has_pair}

-- by pairs of a `$d` and a variable that it has: x is the variable of one of the pairs, and y is a
-- later variable of the same `$d`
abbrev pub has_later : List (ℕ × ℕ) → ℕ × ℕ → ℕ → ℕ → Bool
has_later by_statement p x y = nat_eq x p.1 && (has_pair by_statement p.0 y && nat_lt x y)

-- by the row of a symbol: y is one of the variables, higher than the symbol, and has a `$d` with it
-- that is active at k
abbrev pub is_higher_variable_in_row : BlockLists → List (ℕ × ℕ) → (low : ℕ)
    → (variables : List ℕ) → ℕ → ℕ → Bool
is_higher_variable_in_row b row low variables k y =
    is_member variables y && (nat_lt low y && is_active_in_row b row y k)

-- by the rows of all symbols: both are variables, and y is such a later one for x
abbrev pub is_higher_variable_in_rows : BlockLists → List (List (ℕ × ℕ)) → List ℕ → ℕ → ℕ → ℕ → Bool
is_higher_variable_in_rows b rows variables k x y =
    is_member variables x && is_higher_variable_in_row b (row_of rows x) x variables k y
