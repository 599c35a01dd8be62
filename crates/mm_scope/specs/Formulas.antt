-- The symbols of statements by their numbers, concatenated.
use Rattle.std.specs.Prelude.{◌≡◌, ◌++◌, ℕ, List, flat_map, map}
use Rattle.mm_spec.specs.Text.{Bytes, Token, words}
use Rattle.mm_spec.specs.Statement.{Statement, symbols_of}
use Rattle.mm_spec.specs.Frame.{index_of, formula_of, symbol_names}
use Rattle.mm_lists.specs.Lists.{AreJoined}

-- the numbers of words, by the names of the symbols
abbrev pub numbers_in : List Bytes → List Token → List ℕ
numbers_in names ts = map (λ w. index_of w names) (words ts)

-- the numbers of the symbols of statements, concatenated, by the names
abbrev pub numbers_by : List Bytes → List Statement → List ℕ
numbers_by names db = flat_map (λ s. numbers_in names (symbols_of s)) db

-- the same by the names that these statements declare
abbrev pub AreNumbersOf : List Statement → List ℕ → Type 0
AreNumbersOf db numbers = numbers ≡ numbers_by (symbol_names db) db

-- the numbers of tokens by names that begin with these
abbrev pub AreNumbersOnward : List Bytes → List Token → List ℕ → Type 0
AreNumbersOnward names ts numbers =
    (later : List Bytes) × (numbers ≡ numbers_in (names ++ later) ts)

-- the number of a word by names that begin with these
abbrev pub IsNumberOnward : List Bytes → Bytes → ℕ → Type 0
IsNumberOnward names w number = (later : List Bytes) × (number ≡ index_of w (names ++ later))

-- the symbols of all statements, concatenated; the places between which those of each stand
abbrev pub AreFormulas : List Statement → List ℕ → List ℕ → Type 0
AreFormulas db numbers places = AreJoined (map (formula_of db) db) numbers places
