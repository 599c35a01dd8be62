-- The variables of formulas as bits of masks.
use Rattle.std.specs.Prelude.{◌≡◌, ℕ, ◌<◌, ◌≤◌, ◌⊎◌, Bool, true, false, All, List, [], length}
use Rattle.std.specs.Prelude.{map, get_or, ⊤}
use Rattle.std.specs.Int.{bit_at}
use Rattle.mm_spec.specs.Statement.{Statement}
use Rattle.mm_spec.specs.Derivation.{Formula, are_disjoint}
use Rattle.mm_spec.specs.Citation.{context_at}
use Rattle.mm_spec.specs.Frame.{is_variable_number, symbol_names}
use Rattle.mm_rule.specs.declared.rule.RulePart.{RulePart}
use Rattle.mm_rule.specs.declared.rule.RulePart.TheVariants.{Constant, Variable}
use Rattle.mm_machine.specs.declared.entry.Entry.{Entry}
use Rattle.mm_machine.specs.declared.owners.TheConstants.{OTHERS}
use Rattle.mm_machine.specs.Entries.{no_entry, entry_formulas}

-- which symbols are variables, and the variables that have a bit of their own, in the order of
-- their bits
pub record Owned : Type 0 where
  pub variable_flags : List Bool
  pub symbols : List ℕ

abbrev pub owned : List Bool → List ℕ → Owned
owned variable_flags symbols = record { variable_flags = variable_flags; symbols = symbols }

-- of each symbol of the database, whether it is a variable
pub record AreVariablesOf (db : List Statement) (vs : List Bool) : Type 0 where
  pub count_is : length vs ≡ length (symbol_names db)
  pub are_variables : (s : ℕ) → s < length vs → get_or vs s false ≡ is_variable_number db s

-- the bit of the mask that is the symbol's own is set
pub record HasOwnBit (owners : List ℕ) (mask s : ℕ) : Type 0 where
  pub index : ℕ
  pub index_lt_others : index < OTHERS
  pub index_lt_length : index < length owners
  pub is_owner : get_or owners index 0 ≡ s
  pub is_set : bit_at mask index ≡ 1

-- if the symbol is a variable, its own bit is set, or the one for all others
abbrev pub IsMasked : List Bool → List ℕ → ℕ → ℕ → Type 0
IsMasked vs owners mask s =
    get_or vs s false ≡ true → (bit_at mask OTHERS ≡ 1) ⊎ HasOwnBit owners mask s

-- the mask has a bit for each variable of the formula
abbrev pub AreMasked : List Bool → List ℕ → ℕ → Formula → Type 0
AreMasked vs owners mask f = All (IsMasked vs owners mask) f

-- the masks have a bit for each variable of their formulas
abbrev pub AreAllMasked : List Bool → List ℕ → List ℕ → List Formula → Type 0
AreAllMasked vs owners masks fs =
    (i : ℕ) → i < length fs → AreMasked vs owners (get_or masks i 0) (get_or fs i [])

abbrev pub entry_masks : List Entry → List ℕ
entry_masks es = map (λ e. e.mask) es

-- the first mask has the bits of the second
abbrev pub Includes : ℕ → ℕ → Type 0
Includes m n = (i : ℕ) → bit_at n i ≡ 1 → bit_at m i ≡ 1

-- the mask has the bits of what replaces the part
abbrev pub IncludesPart : List Entry → ℕ → RulePart → Type 0
IncludesPart es mask (Constant s) = ⊤
IncludesPart es mask (Variable j) = Includes mask (get_or es j no_entry).mask

-- the part isn't a variable that stands for itself
abbrev pub IsNoVariable : List Bool → RulePart → Type 0
IsNoVariable vs (Constant s) = get_or vs s false ≡ false
IsNoVariable vs (Variable j) = ⊤

-- Entries that have masks for their formulas have them still after they were replaced: a step
-- pushed a formula of these parts.
pub record StayMasked (parts : List RulePart) (nodes : List (List ℕ)) (es : List Entry)
    (nodes' : List (List ℕ)) (es' : List Entry) : Type 0 where
  pub stay : (vs : List Bool) (owners : List ℕ) → All (IsNoVariable vs) parts
      → AreAllMasked vs owners (entry_masks es) (entry_formulas nodes es)
      → AreAllMasked vs owners (entry_masks es') (entry_formulas nodes' es')

-- the variables of a mask, each of which has a bit of its own, are disjoint from a symbol
abbrev pub IsDisjointFromMask : List Statement → ℕ → List ℕ → ℕ → ℕ → Type 0
IsDisjointFromMask db t owners s mask =
    (i : ℕ) → i ≤ OTHERS → bit_at mask i ≡ 1
    → (i < OTHERS) × (are_disjoint (context_at db t) s (get_or owners i 0) ≡ true)

-- the variables of two masks, each of which has a bit of its own, are disjoint
abbrev pub AreDisjointMasks : List Statement → ℕ → List ℕ → ℕ → ℕ → Type 0
AreDisjointMasks db t owners first second =
    (i : ℕ) → i ≤ OTHERS → bit_at first i ≡ 1
    → (i < OTHERS) × IsDisjointFromMask db t owners (get_or owners i 0) second
