-- What strings bodies stand for.
use Rattle.std.specs.Prelude.{ℕ, ◌+◌, ◌-◌, ◌<◌, ◌≡◌, List, [], ◌∷◌, ◌++◌, length, get_or, nat_lt}
use Rattle.std.specs.Prelude.{if◌then◌else◌, flat_map, Bool}
use Rattle.std.specs.List.{list_all}

-- the least body that is a node: a smaller one is a symbol
abbrev pub first_node : ℕ
first_node = 2147483648

-- the body of no node, which stands for the string without symbols
abbrev pub no_body : ℕ
no_body = 4294967295

-- what a body stands for, if the nodes stand for these strings: a symbol for itself
abbrev pub body_string : List (List ℕ) → ℕ → List ℕ
body_string strings b =
    if nat_lt b first_node then b ∷ [] else get_or strings (b - first_node) []

-- the strings of bodies, one after the other
abbrev pub joined_strings : List (List ℕ) → List ℕ → List ℕ
joined_strings strings bodies = flat_map (body_string strings) bodies

-- The strings of more nodes, each of which stands for the strings of its bodies one after the
-- other. `front` is put before each of them.
unfoldable pub strings_after : List ℕ → List (List ℕ) → List (List ℕ) → List (List ℕ)
strings_after front strings [] = strings
strings_after front strings (bodies ∷ nodes) =
    strings_after front (strings ++ (front ++ joined_strings strings bodies) ∷ []) nodes

-- the strings of nodes, which are the lists of their bodies
abbrev pub strings_of : List (List ℕ) → List (List ℕ)
strings_of nodes = strings_after [] [] nodes

-- the string of a body
abbrev pub string_of : List (List ℕ) → ℕ → List ℕ
string_of nodes b = body_string (strings_of nodes) b

-- the strings of bodies, one after the other
abbrev pub joined_string_of : List (List ℕ) → List ℕ → List ℕ
joined_string_of nodes bodies = joined_strings (strings_of nodes) bodies

-- the body is a symbol or one of the nodes
abbrev pub IsBody : List (List ℕ) → ℕ → Type 0
IsBody nodes b = b < first_node + length nodes

-- the second nodes begin with the first
abbrev pub Extends : List (List ℕ) → List (List ℕ) → Type 0
Extends nodes nodes' = (more : List (List ℕ)) × (nodes' ≡ nodes ++ more)

-- A body was made that stands for the string of others. It is one of those that there are now, or
-- none, if there are no others.
pub record IsMade (nodes nodes' : List (List ℕ)) (bodies : List ℕ) (b : ℕ) : Type 0 where
  pub is_body : 0 < length bodies → IsBody nodes' b
  pub is_none : length bodies ≡ 0 → b ≡ no_body
  pub string_is : string_of nodes' b ≡ joined_string_of nodes bodies

-- The two lists have the same symbols, be it in another order or more often: each test that all
-- symbols of one list pass is one that all of the other pass.
abbrev pub HaveSameSymbols : List ℕ → List ℕ → Type 0
HaveSameSymbols u v = (test : ℕ → Bool) → list_all test u ≡ list_all test v
