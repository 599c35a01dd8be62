-- The line that tells an assertion: its label, kind and place, its mandatory hypotheses, which
-- variables have to be distinct, and its formula (Metamath book, "Basic Syntax"; how the line is
-- written is this project's own). Bytes by their codes: 10 is the line feed, 32 the space, 58 `:`,
-- and 97, 111 and 112 are `a`, `o` and `p`.
use Rattle.std.specs.Prelude.{ℕ, ◌+◌, Bool, true, false, ◌&&◌, ◌||◌, not, List, [], ◌∷◌, ◌++◌}
use Rattle.std.specs.Prelude.{length, nat_lt, flat_map, bytes_eq, codes, decimal, drop, take}
use Rattle.std.specs.Prelude.{if◌then◌else◌, slice_get, unwrap_or, Option, Some, None}
use Rattle.std.specs.Option.{option_map, option_and_then}
use Rattle.std.specs.List.{list_any, range_with_len, filter}
use Rattle.mm_spec.specs.Text.{Bytes, Token, words}
use Rattle.mm_spec.specs.Statement.{Statement, constants, variables, disjoint, floating, essential}
use Rattle.mm_spec.specs.Statement.{axiomatic, provable, opening, closing, proof_of, label_of}
use Rattle.mm_spec.specs.Statement.{symbols_of}
use Rattle.mm_spec.specs.CompressedProof.{bracketed}
use Rattle.mm_spec.specs.NormalProof.{is_labelled}
use Rattle.mm_spec.specs.Citation.{is_assertion}
use Rattle.mm_spec.specs.Scope.{statement_at, label_words}
use Rattle.mm_spec.specs.Derivation.{Pair, is_member}
use Rattle.mm_spec.specs.Frame.{symbol_names, formula_at, is_floating, active_of}
use Rattle.mm_spec.specs.Frame.{mandatory_hypotheses, mandatory_pairs, disjoint_at, pairs_below}

-- ---- dummy variables: those that aren't mandatory and whose `$f` the proof names. A compressed
-- proof may name a `$f` in brackets for which no letter stands. Its variable is a dummy variable
-- all the same.

-- the labels that a proof names: all its words, or those in brackets if it is compressed
abbrev pub proof_labels : List Token → List Bytes
proof_labels [] = []
proof_labels (t ∷ ts) = elim (bytes_eq t.word (codes "("))
    [ true ↦ words (bracketed ts).labels | false ↦ words (t ∷ ts) ]

-- the words of the proof of statement k
abbrev pub proof_at : List Statement → ℕ → List Token
proof_at db k = unwrap_or (option_map proof_of (slice_get db k)) []

-- whether statement j has this label
abbrev pub has_label : List Statement → Bytes → ℕ → Bool
has_label db label j = list_any (is_labelled label) (statement_at db j)

-- whether the proof of statement k names the label of statement j
abbrev pub is_named_in : List Statement → ℕ → ℕ → Bool
is_named_in db k j = list_any (λ label. has_label db label j) (proof_labels (proof_at db k))

-- the active `$f` that the proof of statement k names and that aren't mandatory
abbrev pub dummy_floats : List Statement → ℕ → List ℕ
dummy_floats db k =
    filter (λ j. is_named_in db k j && not (is_member (mandatory_hypotheses db k) j))
    (active_of is_floating db k)

-- the `$f` among the mandatory hypotheses of statement k
abbrev pub mandatory_floats : List Statement → ℕ → List ℕ
mandatory_floats db k =
    filter (λ j. list_any is_floating (statement_at db j)) (mandatory_hypotheses db k)

-- the symbol after the typecode: of a `$f` its variable
abbrev pub variable_of : List Statement → ℕ → List ℕ
variable_of db j = take 1 (drop 1 (formula_at db j))

-- whether x is the variable of one of these `$f`
abbrev pub is_variable_of : List Statement → List ℕ → ℕ → Bool
is_variable_of db floats x = is_member (flat_map (variable_of db) floats) x

-- the dummy variables of statement k, by their numbers in ascending order
abbrev pub dummies : List Statement → ℕ → List ℕ
dummies db k =
    filter (is_variable_of db (dummy_floats db k)) (range_with_len 0 (length (symbol_names db)))

-- whether x is a mandatory variable or a dummy variable of statement k
abbrev pub is_used : List Statement → ℕ → ℕ → Bool
is_used db k x = is_variable_of db (mandatory_floats db k ++ dummy_floats db k) x

-- the mandatory variables and the dummy variables of statement k, by their numbers in ascending
-- order
abbrev pub used : List Statement → ℕ → List ℕ
used db k = filter (is_used db k) (range_with_len 0 (length (symbol_names db)))

-- whether an active `$d` contains both variables of a pair, one of which is a dummy variable
abbrev pub is_with_dummy : List Statement → ℕ → Pair → Bool
is_with_dummy db k p =
    nat_lt p.low p.high
    && ((is_member (dummies db k) p.low || is_member (dummies db k) p.high)
    && disjoint_at db k p.low p.high)

-- the same, and both are mandatory variables or dummy variables of statement k
abbrev pub is_dummy_pair : List Statement → ℕ → Pair → Bool
is_dummy_pair db k p = is_used db k p.low && (is_used db k p.high && is_with_dummy db k p)

-- these pairs, lower first, in ascending order
abbrev pub dummy_pairs : List Statement → ℕ → List Pair
dummy_pairs db k = filter (is_dummy_pair db k) (pairs_below (length (symbol_names db)))

-- ---- the line

-- the label of statement j
abbrev pub label_at : List Statement → ℕ → Bytes
label_at db j = flat_map (λ w. w) (flat_map label_words (statement_at db j))

-- whether a statement has the typecode, if one is chosen
abbrev pub has_typecode : Option Bytes → Statement → Bool
has_typecode None s = true
has_typecode (Some w) s = elim (symbols_of s) [ [] ↦ false | t ∷ ts ↦ bytes_eq t.word w ]

-- the place of a statement's last token
abbrev pub end_at : Statement → ℕ
end_at (constants k xs d) = d
end_at (variables k xs d) = d
end_at (disjoint k xs d) = d
end_at (floating l k xs d) = d
end_at (essential l k xs d) = d
end_at (axiomatic l k xs d) = d
end_at (provable l k xs e ps d) = d
end_at (opening k) = k
end_at (closing k) = k

-- the place of statement k's label
abbrev pub start_place : List Statement → ℕ → ℕ
start_place db k =
    unwrap_or (option_map (λ t. t.at) (option_and_then label_of (slice_get db k))) 0

-- the place after statement k's `$.`
abbrev pub end_place : List Statement → ℕ → ℕ
end_place db k = unwrap_or (option_map end_at (slice_get db k)) 0 + 2

-- the name of the symbol with a number
abbrev pub name_at : List Statement → ℕ → Bytes
name_at db x = unwrap_or (slice_get (symbol_names db) x) []

-- each word after a space
abbrev pub spaced : List Bytes → List ℕ
spaced ws = flat_map (λ w. 32 ∷ w) ws

-- the symbols with these numbers, each after a space
abbrev pub symbols_text : List Statement → List ℕ → List ℕ
symbols_text db xs = flat_map (λ x. 32 ∷ name_at db x) xs

abbrev pub hypothesis_keyword : List Statement → ℕ → Bytes
hypothesis_keyword db j = if list_any is_floating (statement_at db j) then codes "$f" else codes "$e"

-- a hypothesis: its keyword, its label and its symbols
abbrev pub hypothesis_text : List Statement → ℕ → List ℕ
hypothesis_text db j =
    32 ∷ hypothesis_keyword db j ++ 32 ∷ label_at db j ++ symbols_text db (formula_at db j)

-- a pair of variables that have to be distinct
abbrev pub pair_text : List Statement → Pair → List ℕ
pair_text db p = 32 ∷ codes "$d" ++ 32 ∷ name_at db p.low ++ 32 ∷ name_at db p.high

-- `$v` and the dummy variables, if there are any
abbrev pub dummies_text : List Statement → List ℕ → List ℕ
dummies_text db [] = []
dummies_text db (x ∷ xs) = 32 ∷ codes "$v" ++ symbols_text db (x ∷ xs)

-- whether a statement is a `$a`
abbrev pub is_axiom : Statement → Bool
is_axiom (axiomatic l k xs d) = true
is_axiom _ = false

-- `a` for an axiom, `p` for a theorem, and `o` for an open theorem that counts as an axiom
abbrev pub kind_letter : (is_open : Bool) → (is_axiom : Bool) → ℕ
kind_letter true _ = 111
kind_letter false true = 97
kind_letter false false = 112

-- the keyword that the statement has in the text
abbrev pub kind_keyword : (is_open : Bool) → (is_axiom : Bool) → Bytes
kind_keyword false true = codes "$a"
kind_keyword _ _ = codes "$p"

-- whether statement k is a `$a`, as it counts
abbrev pub is_axiom_at : List Statement → ℕ → Bool
is_axiom_at db k = list_any is_axiom (statement_at db k)

-- the front of assertion k's line: its label, its kind, the place of its label and that after its
-- `$.`
abbrev pub front_text : List Statement → (is_open : Bool) → ℕ → List ℕ
front_text db is_open k =
    label_at db k ++ 58 ∷ [] ++ kind_letter is_open (is_axiom_at db k) ∷ [] ++ 58 ∷ []
    ++ decimal (start_place db k) ++ 58 ∷ [] ++ decimal (end_place db k) ++ 58 ∷ []

-- its mandatory hypotheses and pairs, its dummy variables and the pairs with these
abbrev pub conditions_text : List Statement → ℕ → List ℕ
conditions_text db k =
    flat_map (hypothesis_text db) (mandatory_hypotheses db k)
    ++ flat_map (pair_text db) (mandatory_pairs db k) ++ dummies_text db (dummies db k)
    ++ flat_map (pair_text db) (dummy_pairs db k)

-- its keyword and its formula
abbrev pub formula_text : List Statement → (is_open : Bool) → ℕ → List ℕ
formula_text db is_open k =
    32 ∷ kind_keyword is_open (is_axiom_at db k) ++ symbols_text db (formula_at db k) ++ 10 ∷ []

-- the line of assertion k
abbrev pub assertion_line : List Statement → (is_open : Bool) → ℕ → List ℕ
assertion_line db is_open k =
    front_text db is_open k ++ conditions_text db k ++ formula_text db is_open k

-- the assertions, or those with the typecode if one is chosen
abbrev pub is_told : List Statement → Option Bytes → ℕ → Bool
is_told db only k =
    list_any is_assertion (statement_at db k) && list_any (has_typecode only) (statement_at db k)

-- the lines of these, in file order; `is_open` says which are open theorems that count as axioms
abbrev pub statement_lines : List Statement → (is_open : ℕ → Bool) → Option Bytes → List ℕ
statement_lines db is_open only =
    flat_map (λ k. assertion_line db (is_open k) k)
    (filter (is_told db only) (range_with_len 0 (length db)))
