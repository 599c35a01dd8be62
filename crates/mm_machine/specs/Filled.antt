-- The parts of a rule, with each variable replaced by the body of an entry.
use Rattle.std.specs.Prelude.{ℕ, ◌+◌, ◌≤◌, ◌<◌, ◌≡◌, All, List, [], ◌∷◌, get_or, flat_map, length}
use Rattle.std.specs.Prelude.{take}
use Rattle.mm_spec.specs.Derivation.{Formula}
use Rattle.mm_spec.specs.Limits.{formula_limit}
use Rattle.mm_nodes.specs.Strings.{first_node, string_of, joined_string_of}
use Rattle.mm_rule.specs.declared.rule.RulePart.{RulePart}
use Rattle.mm_rule.specs.declared.rule.RulePart.TheVariants.{Constant, Variable}
use Rattle.mm_machine.specs.declared.entry.Entry.{Entry}
use Rattle.mm_machine.specs.declared.entry.Filled.{Filled}
use Rattle.mm_machine.specs.Entries.{no_entry}
use Rattle.mm_machine.specs.Masks.{IncludesPart}

-- what replaces the variable of hypothesis `j`; `es` are the entries of the hypotheses
abbrev pub body_string_at : List (List ℕ) → List Entry → ℕ → List ℕ
body_string_at nodes es j = string_of nodes (get_or es j no_entry).body

abbrev pub filled_part : List (List ℕ) → List Entry → RulePart → List ℕ
filled_part nodes es (Constant s) = s ∷ []
filled_part nodes es (Variable j) = body_string_at nodes es j

-- the parts with each variable replaced
abbrev pub filled_parts : List (List ℕ) → List Entry → List RulePart → Formula
filled_parts nodes es parts = flat_map (filled_part nodes es) parts

-- the first bodies of the list stand for the parts with each variable replaced
pub record IsFilled (nodes : List (List ℕ)) (es : List Entry) (parts : List RulePart)
    (list : List ℕ) (f : Filled) : Type 0 where
  pub count_le_length : f.count ≤ length list
  pub string_is : joined_string_of nodes (take f.count list) ≡ filled_parts nodes es parts
  pub length_is : f.length ≡ length (filled_parts nodes es parts)
  pub length_le_limit : f.length ≤ formula_limit
  pub bodies_needed : All (λ b. b < first_node + f.needed) (take f.count list)
  pub needed_le_count : f.needed ≤ length nodes
  pub includes_masks : All (IncludesPart es f.mask) parts

-- the symbols are the parts with each variable replaced, and there are no more than the limit
pub record IsListed (nodes : List (List ℕ)) (es : List Entry) (parts : List RulePart)
    (symbols : List ℕ) : Type 0 where
  pub symbols_are : symbols ≡ filled_parts nodes es parts
  pub are_symbols : All (λ s. s < first_node) symbols
  pub length_le_limit : length symbols ≤ formula_limit
