-- The rules on symbols, labels and scope (Metamath book, "Basic Syntax"), each with the fault of a
-- statement that breaks it (codes, places and their order: this project's own).
use Rattle.std.specs.Prelude.{◌≡◌, ℕ, Bool, true, false, ◌&&◌, ◌||◌, not, List, [], ◌∷◌, ◌++◌, map}
use Rattle.std.specs.Prelude.{length, Option, Some, None, nat_lt, nat_le, ◌==◌, bytes_eq, slice_get}
use Rattle.std.specs.List.{list_any}
use Rattle.mm_spec.specs.Text.{Bytes, Token, Fault, fault, is_in}
use Rattle.mm_spec.specs.Statement.{Statement, constants, variables, disjoint, floating, essential}
use Rattle.mm_spec.specs.Statement.{axiomatic, provable, opening, closing}
use Rattle.mm_spec.specs.Scope.{Names, names_before, depth}
use Rattle.mm_spec.specs.declared.Code.TheVariants.{ConstantInBlock, EmptyDeclaration}
use Rattle.mm_spec.specs.declared.Code.TheVariants.{DeclaredBefore, LabelIsSymbol, LabelUsedBefore}
use Rattle.mm_spec.specs.declared.Code.TheVariants.{BadTypecode, UndeclaredSymbol, BadFloating}
use Rattle.mm_spec.specs.declared.Code.TheVariants.{TypedBefore, OtherTypecode, UntypedVariable}
use Rattle.mm_spec.specs.declared.Code.TheVariants.{TooFewVariables, UndeclaredVariable}
use Rattle.mm_spec.specs.declared.Code.TheVariants.{RepeatedVariable}
use Rattle.mm_spec.specs.declared.Code.{Code}
use Rattle.mm_spec.specs.Codes.{code_number}

-- the code if the test is true, otherwise none
abbrev pub when : Bool → Code → List Code
when true code = code ∷ []
when false code = []

-- the codes as faults at the place
abbrev pub faults_at : ℕ → List Code → List Fault
faults_at place codes = map (fault place) codes

-- the faults at each symbol; `codes` takes the words before it in the statement, and the symbol
abbrev pub faults_at_each : (List Bytes → Bytes → List Code) → List Bytes → List Token → List Fault
faults_at_each codes earlier [] = []
faults_at_each codes earlier (t ∷ ts) =
    faults_at t.at (codes earlier t.word) ++ faults_at_each codes (t.word ∷ earlier) ts

-- whether a declaration has no symbols
abbrev pub is_empty : List Token → Bool
is_empty [] = true
is_empty (t ∷ ts) = false

module _ (names : Names) where
  -- A symbol of a `$c` wasn't declared before, as a constant or a variable or in this `$c` (E13),
  -- and is no earlier label (E14).
  abbrev pub constant_codes : List Bytes → Bytes → List Code
  constant_codes earlier w =
      when (is_in w names.constants || is_in w names.all_variables || is_in w earlier)
      DeclaredBefore
      ++ when (is_in w names.labels) LabelIsSymbol

  -- A symbol of a `$v` is neither a constant nor an active variable, nor declared before in this
  -- `$v` (E13), and is no earlier label (E14).
  abbrev pub variable_codes : List Bytes → Bytes → List Code
  variable_codes earlier w =
      when (is_in w names.constants || is_in w names.active_variables || is_in w earlier)
      DeclaredBefore
      ++ when (is_in w names.labels) LabelIsSymbol

  -- A symbol of a `$d` is an active variable (E24), and doesn't occur before in this `$d` (E25).
  abbrev pub disjoint_codes : List Bytes → Bytes → List Code
  disjoint_codes earlier w =
      when (not (is_in w names.active_variables)) UndeclaredVariable
      ++ when (is_in w earlier) RepeatedVariable

  -- whether a variable has an active `$f`
  abbrev pub is_typed : Bytes → Bool
  is_typed w = list_any (λ t. bytes_eq w t.variable) names.active_typings

  -- A symbol after the typecode is a constant or an active variable (E18), and if it is a variable,
  -- it has an active `$f` (E22).
  abbrev pub symbol_codes : List Bytes → Bytes → List Code
  symbol_codes earlier w =
      when (not (is_in w names.constants || is_in w names.active_variables)) UndeclaredSymbol
      ++ when (is_in w names.active_variables && not (is_typed w)) UntypedVariable

  -- A formula, which ends at `end`, begins with a constant (E17).
  abbrev pub formula_faults : List Token → ℕ → List Fault
  formula_faults [] end = fault end BadTypecode ∷ []
  formula_faults (t ∷ ts) end =
      faults_at t.at (when (not (is_in t.word names.constants)) BadTypecode)
      ++ faults_at_each symbol_codes [] ts

  -- A label is no symbol that was declared before (E14), and was not used before (E15).
  abbrev pub label_faults : Token → List Fault
  label_faults l =
      faults_at l.at
      (when (is_in l.word names.constants || is_in l.word names.all_variables) LabelIsSymbol
      ++ when (is_in l.word names.labels) LabelUsedBefore)

  -- whether an earlier `$f` gives the variable another typecode
  abbrev pub is_typed_otherwise : Bytes → Bytes → Bool
  is_typed_otherwise c v =
      list_any (λ t. bytes_eq v t.variable && not (bytes_eq c t.typecode)) names.all_typings

  -- A `$f` has a constant and an active variable (E19), which has no active `$f` (E20) and no
  -- earlier one with another typecode (E21).
  abbrev pub floating_faults : ℕ → List Token → List Fault
  floating_faults keyword (c ∷ v ∷ []) =
      elim (is_in c.word names.constants && is_in v.word names.active_variables) [
        | true ↦ faults_at v.at
            (when (is_typed v.word) TypedBefore
            ++ when (is_typed_otherwise c.word v.word) OtherTypecode)
        | false ↦ fault keyword BadFloating ∷ []
      ]
  floating_faults keyword _ = fault keyword BadFloating ∷ []

  -- All faults of a statement, before which `open_blocks` blocks are open. A `$c` is in no block
  -- (E11), `$c` and `$v` declare something (E12), and a `$d` has two symbols or more (E23).
  abbrev pub scope_faults : ℕ → Statement → List Fault
  scope_faults open_blocks (constants k xs d) =
      faults_at k (when (nat_lt 0 open_blocks) ConstantInBlock)
      ++ faults_at d (when (is_empty xs) EmptyDeclaration)
      ++ faults_at_each constant_codes [] xs
  scope_faults open_blocks (variables k xs d) =
      faults_at d (when (is_empty xs) EmptyDeclaration) ++ faults_at_each variable_codes [] xs
  scope_faults open_blocks (disjoint k xs d) =
      faults_at d (when (nat_lt (length xs) 2) TooFewVariables)
      ++ faults_at_each disjoint_codes [] xs
  scope_faults open_blocks (floating l k xs d) = label_faults l ++ floating_faults k xs
  scope_faults open_blocks (essential l k xs d) = label_faults l ++ formula_faults xs d
  scope_faults open_blocks (axiomatic l k xs d) = label_faults l ++ formula_faults xs d
  scope_faults open_blocks (provable l k xs e ps d) = label_faults l ++ formula_faults xs e
  scope_faults open_blocks (opening k) = []
  scope_faults open_blocks (closing k) = []

-- whether f decides over g: its place is less, or the places are equal and its code isn't higher
abbrev pub is_before : Fault → Fault → Bool
is_before f g =
    nat_lt f.at g.at || ((f.at == g.at) && nat_le (code_number f.code) (code_number g.code))

-- of the two faults the one that decides
abbrev pub lesser : Fault → Option Fault → Option Fault
lesser f None = Some f
lesser f (Some g) = elim (is_before f g) [ true ↦ Some f | false ↦ Some g ]

-- the fault that decides among these, if there is one
abbrev pub least : List Fault → Option Fault
least [] = None
least (f ∷ fs) = lesser f (least fs)

-- the fault of statement k, if it is not lawful
abbrev pub scope_fault : List Statement → ℕ → Option Fault
scope_fault db k =
    elim (slice_get db k)
    [ None ↦ None | Some s ↦ least (scope_faults (names_before db k) (depth db k) s) ]

-- statement k breaks none of these rules
abbrev pub IsLawful : List Statement → ℕ → Type 0
IsLawful db k = scope_fault db k ≡ None
