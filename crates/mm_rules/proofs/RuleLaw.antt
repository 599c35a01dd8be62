-- Rules as they are made.
use Rattle.std.proofs.lemmas.List.{map_push, get_or-map, take_more, take_all, take_at}
use Rattle.std.proofs.lemmas.List.{take-append-le, drop-append-le, length-map}
use Rattle.mm_rule.specs.Rule.{part_of, floating_index, parts_of, stored_part_count}
use Rattle.mm_rule.specs.Rule.{hypothesis_parts, all_parts, total_stored_part_count}
use Rattle.mm_rule.specs.Rule.{IsVariableBelow, IsConstantBelow, compiled_rule, IsCompiled}
use Rattle.std.proofs.lemmas.List.Elements.{All-tail, All-map, All-from_recursion}
use Rattle.std.proofs.lemmas.Grind.{common_steps}
use Rattle.std.proofs.lemmas.Bool.Decides.{nat_tests}
use Rattle.std.proofs.Common.{◌≡◌, ℕ, suc, ◌+◌, ◌<◌, ◌≤◌, Bool, true, false, List, [], ◌∷◌, ◌++◌}
use Rattle.std.proofs.Common.{length, drop, take, map, get_or, refl, ap, ap₂, arith, All, cond}
use Rattle.std.proofs.Common.{length-append, length-drop, append-nil, append_assoc}
use Rattle.std.specs.List.{AllByRecursion}
use Rattle.mm_spec.specs.Statement.{Statement}
use Rattle.mm_spec.specs.Derivation.{Formula, Pair}
use Rattle.mm_spec.specs.Laws.Complete.{IsBound, AreBound, IsComplete, variables_context}
use Rattle.mm_spec.specs.Frame.{symbol_names, is_variable_number, formula_at, frame_at}
use Rattle.mm_spec.specs.Frame.{mandatory_hypotheses, mandatory_pairs}
use Rattle.mm_rule.specs.declared.rule.RulePart.{RulePart}
use Rattle.mm_rule.specs.declared.rule.RulePart.TheVariants.{Constant, Variable}
use Rattle.mm_rule.specs.declared.rule.Hypothesis.{Hypothesis}
use Rattle.mm_rule.specs.declared.rule.Hypothesis.TheVariants.{Floating, Essential}
use Rattle.mm_rules.specs.Rules.{AreCovered, AreFloatingIndices, AreCompiled, indexed_parts}
use Rattle.mm_rules.specs.Rules.{indexed_pairs}
use Rattle.mm_rule.specs.Assertions.{as_pairs, is_assertion_at}
use Rattle.mm_rule.proofs.FirstFloatLaw.{floating_index_lt_length}

-- the map of the first i + 1 elements is that of the first i, followed by the value of the next one
pub map_take_more : {X Y : Type 0} (f : X → Y) (xs : List X) (i : ℕ) (d : X) → i < length xs
    → map f (take (i + 1) xs) ≡ map f (take i xs) ++ f (get_or xs i d) ∷ []
map_take_more f xs i d i_lt_length = grind (arith, common_steps, take_more, map_push)

-- the same for a list that is what it was at the start, and what came of the elements so far
pub map_more_after : {X Y : Type 0} (f : X → Y) (xs : List X) (i : ℕ) (d : X)
    → (start old new : List Y) (y : Y) → i < length xs → old ≡ start ++ map f (take i xs)
    → new ≡ old ++ y ∷ [] → y ≡ f (get_or xs i d) → new ≡ start ++ map f (take (i + 1) xs)
map_more_after f xs i d start old new y i_lt_length old_is new_is y_is =
    grind (arith, common_steps, append_assoc, map_take_more)

-- a list of length 0 is empty
empty_if_zero : {X : Type 0} (xs : List X) → 0 ≡ length xs → xs ≡ []
empty_if_zero xs is_zero = grind (arith, common_steps)

-- parts that are added at the end don't change those of a hypothesis
hypothesis_parts_append : (parts added : List RulePart) (n : ℕ) (a : Hypothesis)
    → stored_part_count a ≤ length parts
    → hypothesis_parts (parts ++ added) n a ≡ hypothesis_parts parts n a
hypothesis_parts_append parts added n a count_le_length =
    grind (arith, common_steps, take-append-le)

-- with one hypothesis more, whose parts are added at the end, the others keep their parts
all_parts_push : (parts added : List RulePart) (n : ℕ) (xs : List Hypothesis) (a : Hypothesis)
    → total_stored_part_count xs ≡ length parts
    → all_parts (parts ++ added) n (xs ++ a ∷ [])
    ≡ all_parts parts n xs ++ hypothesis_parts added (n + length xs) a ∷ []
all_parts_push parts added n [] a part_count_is = grind (arith, common_steps, empty_if_zero)
all_parts_push parts added n (x ∷ xs) a part_count_is =
    let count_le_length : stored_part_count x ≤ length parts = omega arith in
    let later = drop (stored_part_count x) parts in
    let index_is : suc n + length xs ≡ n + suc (length xs) = omega arith in
    ap₂ (λ u us. u ∷ us) (hypothesis_parts_append parts added n x count_le_length)
    (rw (drop-append-le (stored_part_count x) parts added count_le_length, ← index_is)
    (all_parts_push later added (suc n) xs a (omega (
      arith,
      length-drop (stored_part_count x) parts,
    ))))

total_part_count_push : (xs : List Hypothesis) (a : Hypothesis)
    → total_stored_part_count (xs ++ a ∷ []) ≡ total_stored_part_count xs + stored_part_count a
total_part_count_push [] a = omega arith
total_part_count_push (x ∷ xs) a = grind (arith, common_steps, (total_part_count_push xs a))

-- if the hypothesis is the first `$f` of its variable, it requires its typecode and the variable
pub all_parts_push_floating : (parts : List RulePart) (xs : List Hypothesis) (j t : ℕ)
    → (us : List (List RulePart))
    → length xs ≡ j → total_stored_part_count xs ≡ length parts → all_parts parts 0 xs ≡ us
    → all_parts parts 0 (xs ++ Floating t ∷ []) ≡ us ++ (Constant t ∷ Variable j ∷ []) ∷ []
all_parts_push_floating parts xs j t us length_is part_count_is parts_are =
    let index_is : 0 + length xs ≡ j = omega arith in
    rw (append-nil, parts_are, index_is) at
    (all_parts_push parts [] 0 xs (Floating t) part_count_is)

pub part_count_push_floating : (parts : List RulePart) (xs : List Hypothesis) (t : ℕ)
    → total_stored_part_count xs ≡ length parts → total_stored_part_count (xs ++ Floating t ∷ []) ≡
    length parts
part_count_push_floating parts xs t part_count_is = grind (arith, nat_tests, total_part_count_push)

-- otherwise it requires the parts of its formula
module _ (parts added : List RulePart) (xs : List Hypothesis) (n : ℕ)
    (n_is_length : n ≡ length added) (part_count_is : total_stored_part_count xs ≡ length parts)
  where
    pub all_parts_push_essential : (us : List (List RulePart)) → all_parts parts 0 xs ≡ us
        → all_parts (parts ++ added) 0 (xs ++ Essential n ∷ []) ≡ us ++ added ∷ []
    all_parts_push_essential us parts_are =
        rw (parts_are, take_all n added (omega arith)) at
        (all_parts_push parts added 0 xs (Essential n) part_count_is)

    pub part_count_push_essential : total_stored_part_count (xs ++ Essential n ∷ [])
        ≡ length (parts ++ added)
    part_count_push_essential =
        omega (arith, total_part_count_push xs (Essential n), length-append parts added)

module _ (db : List Statement) (hs : List Formula) where
  pub parts_below : (f : Formula) → AreCovered db hs f
      → All (IsVariableBelow (length hs)) (parts_of db hs f)
  parts_below f is_covered = All-map (IsVariableBelow (length hs)) (part_of db hs) f
      (λ i d i_lt_length. part_is_below (get_or f i d) _ (is_covered i d i_lt_length))
    where
      part_is_below : (s : ℕ) (v : Bool) → (v ≡ true → IsBound (variables_context db) hs s)
          → IsVariableBelow (length hs) (cond v (Variable (floating_index db hs s)) (Constant s))
      part_is_below s true bound_if = floating_index_lt_length db hs s (bound_if refl)
      part_is_below s false bound_if = tt

  pub constants_below : (n : ℕ) (f : Formula) → All (λ s. s < n) f
      → All (IsConstantBelow n) (parts_of db hs f)
  constants_below n f f_in_range = All-map (IsConstantBelow n) (part_of db hs) f
      (λ i d i_lt_length. constant_is_below (get_or f i d) _ (f_in_range i d i_lt_length))
    where
      constant_is_below : (s : ℕ) (v : Bool) → s < n
          → IsConstantBelow n (cond v (Variable (floating_index db hs s)) (Constant s))
      constant_is_below s true s_lt_n = tt
      constant_is_below s false s_lt_n = s_lt_n

  pub covered : (f : Formula) → AreBound (variables_context db) hs f → AreCovered db hs f
  covered f are_bound =
      All-from_recursion (λ x. is_variable_number db x ≡ true → IsBound (variables_context db) hs x)
      f are_bound

  pub covered_all : (mandatory : List ℕ)
      → AllByRecursion (AreBound (variables_context db) hs) (map (formula_at db) mandatory)
      → All (λ h. AreCovered db hs (formula_at db h)) mandatory
  covered_all mandatory are_bound i d i_lt_length = covered (formula_at db (get_or mandatory i d))
      (rw (get_or-map (formula_at db) mandatory i d [] i_lt_length) at
      (All-from_recursion (AreBound (variables_context db) hs) (map (formula_at db) mandatory)
      are_bound i [] (rw length-map i_lt_length)))

  abbrev AreBothBound : Pair → Type 0
  AreBothBound p =
      IsBound (variables_context db) hs p.low × IsBound (variables_context db) hs p.high

  -- parts by the indices of the variables' `$f` are those of the formula
  pub indexed_parts_are_parts : (indices : List ℕ) → AreFloatingIndices db hs indices
      → (f : Formula)
      → AreCovered db hs f → indexed_parts db indices f ≡ parts_of db hs f
  indexed_parts_are_parts indices are_floating_indices [] is_covered = refl
  indexed_parts_are_parts indices are_floating_indices (s ∷ f) is_covered =
      ap₂ (λ (p : RulePart) (ps : List RulePart). p ∷ ps)
      (symbol_part_is (is_variable_number db s) (is_covered 0 0 (omega arith)))
      (indexed_parts_are_parts indices are_floating_indices f (All-tail
      (λ x. is_variable_number db x ≡ true → IsBound (variables_context db) hs x) s f is_covered))
    where
      symbol_part_is : (v : Bool) → (v ≡ true → IsBound (variables_context db) hs s)
          → cond v (Variable (get_or indices s 0)) (Constant s)
          ≡ cond v (Variable (floating_index db hs s)) (Constant s)
      symbol_part_is true bound_if = ap Variable (are_floating_indices s (bound_if refl))
      symbol_part_is false bound_if = refl

  indexed_pairs_are_floating_indices : (indices : List ℕ) → AreFloatingIndices db hs indices
      → (ps : List (ℕ × ℕ)) → AllByRecursion AreBothBound (as_pairs ps)
      → indexed_pairs indices ps ≡ map {B = ℕ × ℕ}
      (λ (p : Pair). (floating_index db hs p.low, floating_index db hs p.high)) (as_pairs ps)
  indexed_pairs_are_floating_indices indices are_floating_indices [] are_bound = refl
  indexed_pairs_are_floating_indices indices are_floating_indices (p ∷ ps) are_bound =
      rw (are_floating_indices p.0 are_bound.0.0, are_floating_indices p.1 are_bound.0.1)
      (ap (λ (us : List (ℕ × ℕ)). (floating_index db hs p.0, floating_index db hs p.1) ∷ us)
      (indexed_pairs_are_floating_indices indices are_floating_indices ps are_bound.1))

  pairs_below : (ps : List Pair) → AllByRecursion AreBothBound ps
      → All (λ (p : ℕ × ℕ). (p.0 < length hs) × (p.1 < length hs))
      (map {B = ℕ × ℕ} (λ (p : Pair). (floating_index db hs p.low, floating_index db hs p.high)) ps)
  pairs_below ps are_bound = All-map (λ (p : ℕ × ℕ). (p.0 < length hs) × (p.1 < length hs))
      {Y = Pair} (λ p. (floating_index db hs p.low, floating_index db hs p.high)) ps
      (λ i d i_lt_length.
      let bound = All-from_recursion AreBothBound ps are_bound i d i_lt_length in
      (floating_index_lt_length db hs _ bound.0, floating_index_lt_length db hs _ bound.1))

-- what was made is the rule of the assertion
module _ (db : List Statement) (a : ℕ) (is_assertion : is_assertion_at db a ≡ true)
    (complete : IsComplete (variables_context db) (frame_at db a)) where
  abbrev frame_formulas : List Formula
  frame_formulas = map (formula_at db) (mandatory_hypotheses db a)

  pub is_compiled_rule : (mandatory : List ℕ) (symbol_pairs : List (ℕ × ℕ)) (f : Formula)
      (indices : List ℕ)
      → (hypotheses : List Hypothesis) (pairs : List (ℕ × ℕ)) (parts formula : List RulePart)
      → mandatory ≡ mandatory_hypotheses db a → as_pairs symbol_pairs ≡ mandatory_pairs db a → f
      ≡ formula_at db a
      → All (λ s. s < length (symbol_names db)) f
      → AreCompiled db mandatory hypotheses parts
      → AreFloatingIndices db (map (formula_at db) mandatory) indices → pairs
      ≡ indexed_pairs indices symbol_pairs
      → formula ≡ parts_of db (map (formula_at db) mandatory) f
      → IsCompiled db (compiled_rule a hypotheses pairs parts formula)
  is_compiled_rule mandatory symbol_pairs f indices hypotheses pairs parts formula mandatory_is
      pairs_is f_is symbols_known compiled_parts are_floating_indices pairs_made formula_made =
      let compiled = rw mandatory_is at compiled_parts in
      let indices_are = rw mandatory_is at are_floating_indices in
      let formula_is = rw (mandatory_is, f_is) at formula_made in
      let count_is : length hypotheses ≡ length frame_formulas = rw length-map compiled.count_is in
      let pairs_are : pairs ≡ map {B = ℕ × ℕ} (λ (p : Pair). (
        floating_index db frame_formulas p.low,
        floating_index db frame_formulas p.high,
      )) (mandatory_pairs db a) = rw (pairs_made, ← pairs_is) (indexed_pairs_are_floating_indices db
      frame_formulas indices indices_are symbol_pairs (rw (← pairs_is) at complete.pairs)) in
      record {
        is_assertion = is_assertion;
        is_complete = complete;
        part_count_is = compiled.part_count_is;
        parts_in_range = rw compiled.count_is compiled.parts_in_range;
        pairs_in_range = rw (pairs_are, count_is)
            (pairs_below db frame_formulas (mandatory_pairs db a) complete.pairs);
        formula_in_range = rw (formula_is, count_is) (parts_below db frame_formulas _
            (covered db frame_formulas (formula_at db a) complete.formula));
        constants_in_range = rw formula_made (constants_below db _ _ f symbols_known);
        hypotheses_are = compiled.parts_are;
        pairs_are = pairs_are;
        formula_is = formula_is;
      }

-- the indices in a list to which they were written back
pub written_back : (db : List Statement) (hs : List Formula) (new old : List ℕ) (n : ℕ)
    (current : List ℕ) → current ≡ take n (new ++ drop (length new) old) → length new ≡ n
    → AreFloatingIndices db hs new → AreFloatingIndices db hs current
written_back db hs new old n current current_is length_is are_floating_indices =
    grind (arith, common_steps, take_at)
