-- The rules of a database, and how they are made of its frames.
use Rattle.std.specs.Prelude.{◌≡◌, ℕ, ◌+◌, ◌^◌, ◌<◌, ◌≤◌, true, List, map, length, get_or}
use Rattle.std.specs.Prelude.{slice_range, All, if◌then◌else◌}
use Rattle.mm_spec.specs.Statement.{Statement}
use Rattle.mm_spec.specs.Derivation.{Formula}
use Rattle.mm_spec.specs.Laws.Complete.{IsBound, variables_context}
use Rattle.mm_spec.specs.Frame.{is_variable_number, formula_at}
use Rattle.mm_rule.specs.declared.rule.RulePart.{RulePart}
use Rattle.mm_rule.specs.declared.rule.RulePart.TheVariants.{Constant, Variable}
use Rattle.mm_rule.specs.declared.rule.Hypothesis.{Hypothesis}
use Rattle.mm_rules.specs.declared.rules.RuleRanges.{RuleRanges}
use Rattle.mm_rules.specs.declared.rules.IndexRange.{IndexRange}
use Rattle.mm_rule.specs.Rule.{CompiledRule, compiled_rule, IsCompiled, floating_index, parts_of}
use Rattle.mm_rule.specs.Rule.{all_parts}
use Rattle.mm_rule.specs.Rule.{total_stored_part_count, IsVariableBelow}

-- for each variable that has a `$f`, the list has the index of the first one among the hypotheses
abbrev pub AreFloatingIndices : List Statement → List Formula → List ℕ → Type 0
AreFloatingIndices db hs indices =
    (x : ℕ) → IsBound (variables_context db) hs x → get_or indices x 0 ≡ floating_index db hs x

-- 31 bits are enough for each of the indices, and for how many there are
pub record AreShortIndices (indices : List ℕ) : Type 0 where
  pub count_lt_2_31 : length indices < 2 ^ 31
  pub each_is_short : All (λ n. n < 2 ^ 31) indices

-- each variable of the formula has a `$f`
abbrev pub AreCovered : List Statement → List Formula → Formula → Type 0
AreCovered db hs f =
    All (λ x. is_variable_number db x ≡ true → IsBound (variables_context db) hs x) f

-- a symbol as a part: a constant, or a variable given by the index that the list has for it
abbrev pub indexed_part : List Statement → List ℕ → ℕ → RulePart
indexed_part db indices s =
    if is_variable_number db s then Variable (get_or indices s 0) else Constant s

-- the symbols of a formula as such parts
abbrev pub indexed_parts : List Statement → List ℕ → Formula → List RulePart
indexed_parts db indices f = map (indexed_part db indices) f

-- the pairs of symbols as pairs of the indices that the list has for them
abbrev pub indexed_pairs : List ℕ → List (ℕ × ℕ) → List (ℕ × ℕ)
indexed_pairs indices ps = map (λ (p : ℕ × ℕ). (get_or indices p.0 0, get_or indices p.1 0)) ps

-- The lists have what the mandatory hypotheses require: for each of them the parts of its formula,
-- in which a variable is given by the index of its `$f`.
pub record AreCompiled (db : List Statement) (mandatory : List ℕ) (hypotheses : List Hypothesis)
    (parts : List RulePart) : Type 0 where
  pub parts_are : all_parts parts 0 hypotheses
      ≡ map (parts_of db (map (formula_at db) mandatory)) (map (formula_at db) mandatory)
  pub count_is : length hypotheses ≡ length mandatory
  pub part_count_is : total_stored_part_count hypotheses ≡ length parts
  pub parts_in_range : All (IsVariableBelow (length mandatory)) parts

-- a compiler of rules: how many symbols it knows, and the rule that it compiled last
pub record CompilerState : Type 0 where
  pub symbol_count : ℕ
  pub rule : CompiledRule

abbrev pub compiler_state : ℕ → CompiledRule → CompilerState
compiler_state symbol_count rule = record { symbol_count = symbol_count; rule = rule }

-- the rules of a database: a list of their ranges, and the lists that all rules share
pub record RuleLists : Type 0 where
  pub ranges : List RuleRanges
  pub hypotheses : List Hypothesis
  pub pairs : List (ℕ × ℕ)
  pub parts : List RulePart

abbrev pub rule_lists : List RuleRanges → List Hypothesis → List (ℕ × ℕ) → List RulePart
    → RuleLists
rule_lists ranges hypotheses pairs parts =
    record { ranges = ranges; hypotheses = hypotheses; pairs = pairs; parts = parts }

abbrev pub rule_ranges : ℕ → IndexRange → IndexRange → IndexRange → IndexRange → RuleRanges
rule_ranges k hypotheses pairs parts formula =
    record {
      assertion = k;
      hypotheses = hypotheses;
      pairs = pairs;
      parts = parts;
      formula = formula;
    }

abbrev pub index_range : ℕ → ℕ → IndexRange
index_range start end = record { start = start; end = end }

module _ {X : Type 0} where
  -- the elements of a range of a list
  abbrev pub elements_in : List X → IndexRange → List X
  elements_in xs s = slice_range xs s.start s.end

-- the greatest number of 64 bits
abbrev pub most_usize : ℕ
most_usize = 18446744073709551615

-- how many hypotheses, pairs and parts a rule has together
abbrev pub rule_size : CompiledRule → ℕ
rule_size c = length c.hypotheses + length c.pairs + length c.parts + length c.formula

-- how many the rules have together
abbrev pub lists_size : RuleLists → ℕ
lists_size l = length l.hypotheses + length l.pairs + length l.parts

-- the rule in these ranges
abbrev pub rule_in : RuleLists → RuleRanges → CompiledRule
rule_in l s =
    compiled_rule s.assertion (elements_in l.hypotheses s.hypotheses) (elements_in l.pairs s.pairs)
    (elements_in l.parts s.parts) (elements_in l.parts s.formula)

-- a range of a list of `n` elements
pub record IsIndexRange (n : ℕ) (s : IndexRange) : Type 0 where
  pub start_le_end : s.start ≤ s.end
  pub end_le_length : s.end ≤ n

-- the rule of an assertion of the database is in the ranges
pub record HasRule (db : List Statement) (l : RuleLists) (s : RuleRanges) : Type 0 where
  pub hypotheses_are_range : IsIndexRange (length l.hypotheses) s.hypotheses
  pub pairs_are_range : IsIndexRange (length l.pairs) s.pairs
  pub parts_are_range : IsIndexRange (length l.parts) s.parts
  pub formula_is_range : IsIndexRange (length l.parts) s.formula
  pub is_compiled : IsCompiled db (rule_in l s)

-- each of the rules is that of its assertion
abbrev pub AreRules : List Statement → RuleLists → Type 0
AreRules db l = All (HasRule db l) l.ranges

-- what an index beyond the rules gives
abbrev pub no_ranges : RuleRanges
no_ranges =
    rule_ranges 0 (index_range 0 0) (index_range 0 0) (index_range 0 0) (index_range 0 0)

-- the rule of assertion `a` has the index `i` among the ranges
pub record IsRuleIndex (l : RuleLists) (i a : ℕ) : Type 0 where
  pub index_lt_count : i < length l.ranges
  pub assertion_is : (get_or l.ranges i no_ranges).assertion ≡ a

-- the rule is that of assertion `a`
pub record IsRuleOf (db : List Statement) (c : CompiledRule) (a : ℕ) : Type 0 where
  pub is_compiled : IsCompiled db c
  pub assertion_is : c.assertion ≡ a
