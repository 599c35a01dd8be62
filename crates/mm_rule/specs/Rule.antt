-- What an assertion requires and what it yields, in terms of the indices of its hypotheses.
use Rattle.std.specs.Prelude.{◌≡◌, ℕ, suc, ◌+◌, ◌<◌, true, List, [], ◌∷◌, map, take, drop, length}
use Rattle.std.specs.Prelude.{All, if◌then◌else◌}
use Rattle.mm_spec.specs.Statement.{Statement}
use Rattle.mm_spec.specs.Derivation.{Formula}
use Rattle.mm_spec.specs.Laws.Complete.{binds, IsComplete, variables_context}
use Rattle.mm_spec.specs.Frame.{is_variable_number, symbol_names, frame_at}
use Rattle.mm_rule.specs.declared.rule.RulePart.{RulePart}
use Rattle.mm_rule.specs.declared.rule.RulePart.TheVariants.{Constant, Variable}
use Rattle.mm_rule.specs.declared.rule.Hypothesis.{Hypothesis}
use Rattle.mm_rule.specs.declared.rule.Hypothesis.TheVariants.{Floating, Essential}
use Rattle.mm_rule.specs.Assertions.{is_assertion_at}

-- the index of the first `$f` of a variable among the hypotheses
abbrev pub floating_index : List Statement → List Formula → ℕ → ℕ
floating_index db [] x = 0
floating_index db (h ∷ hs) x =
    if binds (variables_context db) x h then 0 else suc (floating_index db hs x)

-- a symbol as a part: a constant, or a variable given by the index of its `$f`
abbrev pub part_of : List Statement → List Formula → ℕ → RulePart
part_of db hs s = if is_variable_number db s then Variable (floating_index db hs s) else Constant s

-- the symbols of a formula as parts
abbrev pub parts_of : List Statement → List Formula → Formula → List RulePart
parts_of db hs f = map (part_of db hs) f

-- how many of a rule's parts are stored for a hypothesis
abbrev pub stored_part_count : Hypothesis → ℕ
stored_part_count (Floating t) = 0
stored_part_count (Essential n) = n

-- the parts of hypothesis `j`, if the list begins with those that the rule has for it
abbrev pub hypothesis_parts : List RulePart → ℕ → Hypothesis → List RulePart
hypothesis_parts parts j (Floating t) = Constant t ∷ Variable j ∷ []
hypothesis_parts parts j (Essential n) = take n parts

-- the parts of hypotheses, the first of which has the index `j`
abbrev pub all_parts : List RulePart → ℕ → List Hypothesis → List (List RulePart)
all_parts parts j [] = []
all_parts parts j (a ∷ more) =
    hypothesis_parts parts j a ∷ all_parts (drop (stored_part_count a) parts) (suc j) more

-- how many of a rule's parts are stored for some hypotheses
abbrev pub total_stored_part_count : List Hypothesis → ℕ
total_stored_part_count [] = 0
total_stored_part_count (a ∷ more) = stored_part_count a + total_stored_part_count more

-- if the part is a variable, it is given by one of `n` hypotheses
abbrev pub IsVariableBelow : ℕ → RulePart → Type 0
IsVariableBelow n (Constant s) = Unit {0}
IsVariableBelow n (Variable j) = j < n

-- if the part is a constant, it is one of `n` symbols
abbrev pub IsConstantBelow : ℕ → RulePart → Type 0
IsConstantBelow n (Constant s) = s < n
IsConstantBelow n (Variable j) = Unit {0}

-- an assertion, its hypotheses, its `$d` pairs, the parts of all its hypotheses one after the
-- other, and the parts of its formula
pub record CompiledRule : Type 0 where
  pub assertion : ℕ
  pub hypotheses : List Hypothesis
  pub pairs : List (ℕ × ℕ)
  pub parts : List RulePart
  pub formula : List RulePart

-- a rule with these parts
abbrev pub compiled_rule : ℕ → List Hypothesis → List (ℕ × ℕ) → List RulePart → List RulePart
    → CompiledRule
compiled_rule k hypotheses pairs parts formula =
    record {
      assertion = k;
      hypotheses = hypotheses;
      pairs = pairs;
      parts = parts;
      formula = formula;
    }

-- the rule is the frame of its assertion, with each variable given by the index of its `$f`
pub record IsCompiled (db : List Statement) (c : CompiledRule) : Type 0 where
  pub is_assertion : is_assertion_at db c.assertion ≡ true
  pub is_complete : IsComplete (variables_context db) (frame_at db c.assertion)
  pub part_count_is : total_stored_part_count c.hypotheses ≡ length c.parts
  pub parts_in_range : All (IsVariableBelow (length c.hypotheses)) c.parts
  pub pairs_in_range : All
      (λ (p : ℕ × ℕ). (p.0 < length c.hypotheses) × (p.1 < length c.hypotheses))
      c.pairs
  pub formula_in_range : All (IsVariableBelow (length c.hypotheses)) c.formula
  pub constants_in_range : All (IsConstantBelow (length (symbol_names db))) c.formula
  pub hypotheses_are : all_parts c.parts 0 c.hypotheses
      ≡ map (parts_of db (frame_at db c.assertion).hypotheses) (frame_at db c.assertion).hypotheses
  pub pairs_are : c.pairs
      ≡ map (λ p. (
        floating_index db (frame_at db c.assertion).hypotheses p.low,
        floating_index db
            (frame_at db c.assertion).hypotheses p.high,
      )) (frame_at db c.assertion).pairs
  pub formula_is : c.formula
      ≡ parts_of db (frame_at db c.assertion).hypotheses (frame_at db c.assertion).formula
