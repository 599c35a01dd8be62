-- The entries of the stack, whose formulas are strings of nodes.
use Rattle.std.specs.Prelude.{ℕ, ◌+◌, ◌≤◌, ◌<◌, ◌≡◌, ◌⊎◌, ◌++◌, List, [], length, map, All, get_or}
use Rattle.mm_spec.specs.Derivation.{Formula}
use Rattle.mm_spec.specs.Limits.{formula_limit}
use Rattle.mm_nodes.specs.Strings.{first_node, no_body, string_of}
use Rattle.mm_machine.specs.declared.entry.Entry.{Entry}

abbrev pub entry : ℕ → ℕ → ℕ → ℕ → ℕ → Entry
entry typecode body symbol_count needed mask =
    record {
      typecode = typecode;
      body = body;
      length = symbol_count;
      needed = needed;
      mask = mask;
    }

-- an entry of no symbols
abbrev pub no_entry : Entry
no_entry = entry no_body no_body 0 0 0

-- the formula of an entry
abbrev pub entry_formula : List (List ℕ) → Entry → Formula
entry_formula nodes e = string_of nodes e.typecode ++ string_of nodes e.body

abbrev pub entry_formulas : List (List ℕ) → List Entry → List Formula
entry_formulas nodes es = map (entry_formula nodes) es

-- the body is a symbol or one of the first `count` nodes, or it is none and has no symbols
abbrev pub IsBodyAmong : ℕ → ℕ → ℕ → Type 0
IsBodyAmong count b symbol_count =
    (b < first_node + count) ⊎ ((b ≡ no_body) × (symbol_count ≡ 0))

-- the formula has no symbols, and no body stands for it
abbrev pub HasNoSymbols : List (List ℕ) → Entry → Type 0
HasNoSymbols nodes e =
    (e.typecode ≡ no_body) × (string_of nodes e.typecode ≡ []) × (string_of nodes e.body ≡ [])

-- an entry over the nodes: a symbol and a body, or a formula without symbols
pub record IsEntry (nodes : List (List ℕ)) (e : Entry) : Type 0 where
  pub has_typecode : (e.typecode < first_node) ⊎ HasNoSymbols nodes e
  pub body_is_among : IsBodyAmong e.needed e.body e.length
  pub needed_le_count : e.needed ≤ length nodes
  pub length_is : e.length ≡ length (string_of nodes e.body)
  pub length_lt_limit : e.length < formula_limit

-- the entries of a stack over the nodes: none needs more nodes than one above it
pub record IsStack (nodes : List (List ℕ)) (es : List Entry) : Type 0 where
  pub count_lt : length nodes < first_node
  pub are_entries : All (IsEntry nodes) es
  pub needed_rises : (i j : ℕ) → i ≤ j → j < length es
      → (get_or es i no_entry).needed ≤ (get_or es j no_entry).needed

-- each symbol of the formulas is less than `symbol_count`
abbrev pub AreInRange : ℕ → List Formula → Type 0
AreInRange symbol_count fs = All (λ f. All (λ s. s < symbol_count) f) fs
