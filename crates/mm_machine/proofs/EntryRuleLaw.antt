-- What stands for the variables by the entries of their hypotheses is what the substitution of the
-- definitions does.
use Rattle.std.proofs.lemmas.Grind.{common_steps}
use Rattle.std.proofs.Common.{◌≡◌, ℕ, suc, ◌-◌, ◌<◌, ◌≤◌, Bool, true, false, ◌&&◌, List, [], ◌∷◌}
use Rattle.std.proofs.Common.{◌++◌, length, take, drop, map, get_or, nat_le, refl, sym, ap, ap₂}
use Rattle.std.proofs.Common.{◌∙◌, arith, All, cond, IsTrue, le-leb, Err, length-drop}
use Rattle.std.proofs.lemmas.List.{length-map, drop-map}
use Rattle.std.proofs.lemmas.List.Elements.{All-get_or, All-drop}
use Rattle.std.proofs.lemmas.Bool.{lt-leb}
use Rattle.mm_spec.specs.Valid.{too_few}
use Rattle.std.specs.List.{list_all, AllByRecursion}
use Rattle.mm_spec.specs.Derivation.{Formula, Pair, Substitution, substitute, are_all_disjoint}
use Rattle.mm_spec.specs.Limits.{formula_limit}
use Rattle.mm_spec.specs.Laws.Stack.{substitution_from, tail, are_equal, apply, unless_failed}
use Rattle.mm_spec.specs.Laws.Complete.{IsBound, AreBound}
use Rattle.mm_machine.specs.declared.entry.Entry.{Entry}
use Rattle.mm_rule.specs.declared.rule.Hypothesis.{Hypothesis}
use Rattle.mm_rule.specs.declared.rule.RulePart.{RulePart}
use Rattle.mm_rule.specs.declared.rule.RulePart.TheVariants.{Constant, Variable}
use Rattle.mm_spec.specs.Statement.{Statement}
use Rattle.mm_spec.specs.Frame.{is_variable_number, frame_at}
use Rattle.mm_spec.specs.Citation.{context_at}
use Rattle.mm_nodes.specs.Strings.{string_of}
use Rattle.mm_machine.specs.Entries.{no_entry, entry_formula, entry_formulas, IsEntry}
use Rattle.mm_rule.specs.Rule.{floating_index, parts_of, stored_part_count, all_parts, CompiledRule}
use Rattle.mm_rule.specs.Rule.{IsCompiled}
use Rattle.mm_machine.specs.Filled.{body_string_at, filled_part, filled_parts}
use Rattle.mm_machine.specs.Distinct.{are_bodies_disjoint}
use Rattle.mm_machine.specs.State.{applied}
use Rattle.mm_rule.proofs.FirstFloatLaw.{floating_index_lt_length, substitution_is_tail_at_index}
use Rattle.mm_machine.proofs.FilledLaw.{symbol_string_is}

pub entry_formula_is_at : (nodes : List (List ℕ)) (es : List Entry) (j : ℕ) → j < length es
    → entry_formula nodes (get_or es j no_entry) ≡ get_or (entry_formulas nodes es) j []
entry_formula_is_at nodes es j h1 = grind (arith, common_steps)

-- the body is the formula without its first symbol
body_is_tail : (nodes : List (List ℕ)) (e : Entry) → IsEntry nodes e
    → string_of nodes e.body ≡ tail (entry_formula nodes e)
body_is_tail nodes e is_entry = grind (arith, common_steps, symbol_string_is)

module _ (db : List Statement) (t : ℕ) (hs : List Formula) (nodes : List (List ℕ)) (es : List Entry)
    (entries_in : All (IsEntry nodes) es) (counts_equal : length es ≡ length hs) where
  abbrev pub σ : Substitution
  σ = substitution_from (context_at db t) hs (entry_formulas nodes es)

  pub replacement_is : (x : ℕ) → IsBound (context_at db t) hs x
      → body_string_at nodes es (floating_index db hs x) ≡ σ x
  replacement_is x is_bound =
      let j = floating_index db hs x in
      let j_lt_length_hs : j < length hs = floating_index_lt_length db hs x is_bound in
      let j_lt_length_es : j < length es = omega (arith, j_lt_length_hs, counts_equal) in
      let is_entry = All-get_or (IsEntry nodes) es j no_entry j_lt_length_es entries_in in
      body_is_tail nodes (get_or es j no_entry) is_entry
      ∙ ap tail (entry_formula_is_at nodes es j j_lt_length_es)
      ∙ sym (substitution_is_tail_at_index db t hs (entry_formulas nodes es) x
      (length-map es (entry_formula nodes) ∙ counts_equal) is_bound)

  pub replaced_is_substituted : (f : Formula) → AreBound (context_at db t) hs f
      → filled_parts nodes es (parts_of db hs f) ≡ substitute (context_at db t) σ f
  replaced_is_substituted [] are_bound = refl
  replaced_is_substituted (s ∷ f) are_bound =
      ap₂ (λ u v. u ++ v)
      (symbol_is_substituted (is_variable_number db s) are_bound.0)
      (replaced_is_substituted f are_bound.1)
    where
      symbol_is_substituted : (v : Bool) → (IsTrue v → IsBound (context_at db t) hs s)
          → filled_part nodes es (cond v (Variable (floating_index db hs s)) (Constant s))
          ≡ cond v (σ s) (s ∷ [])
      symbol_is_substituted true bound_if_variable = replacement_is s (bound_if_variable refl)
      symbol_is_substituted false bound_if_variable = refl

  pub all_replaced_are_substituted : (fs : List Formula)
      → AllByRecursion (AreBound (context_at db t) hs) fs
      → map (filled_parts nodes es) (map (parts_of db hs) fs)
      ≡ map (substitute (context_at db t) σ) fs
  all_replaced_are_substituted [] all_bound = refl
  all_replaced_are_substituted (f ∷ fs) all_bound =
      ap₂ (λ u us. u ∷ us)
      (replaced_is_substituted f all_bound.0) (all_replaced_are_substituted fs all_bound.1)

  pub pair_tests_equal : (pairs : List Pair) → AllByRecursion
      (λ p. IsBound (context_at db t) hs p.low × IsBound (context_at db t) hs p.high) pairs
      → list_all (are_bodies_disjoint db t nodes es)
      (map (λ (p : Pair). (floating_index db hs p.low, floating_index db hs p.high)) pairs)
      ≡ list_all (λ p. are_all_disjoint (context_at db t) (σ p.low) (σ p.high)) pairs
  pair_tests_equal [] all_bound = refl
  pair_tests_equal (p ∷ pairs) all_bound =
      ap₂ (λ u v. u && v)
      (ap₂ (are_all_disjoint (context_at db t))
      (replacement_is p.low all_bound.0.0) (replacement_is p.high all_bound.0.1))
      (pair_tests_equal pairs all_bound.1)

pub length_all_parts : (parts : List RulePart) (j : ℕ) (hypotheses : List Hypothesis)
    → length (all_parts parts j hypotheses) ≡ length hypotheses
length_all_parts parts j [] = refl
length_all_parts parts j (a ∷ hypotheses) =
    ap suc (length_all_parts (drop (stored_part_count a) parts) (suc j) hypotheses)

-- the step of an assertion, by the tests that the code makes
pub applied_is_tested : (db : List Statement) (t : ℕ) (c : CompiledRule) (nodes : List (List ℕ))
    (stack premises : List Entry) → IsCompiled db c → length c.hypotheses ≤ length stack
    → premises ≡ drop (length stack - length c.hypotheses) stack → All (IsEntry nodes) premises
    → length premises ≡ length c.hypotheses → (b1 b2 : Bool)
    → b1 ≡ are_equal (entry_formulas nodes premises)
    (map (filled_parts nodes premises) (all_parts c.parts 0 c.hypotheses))
    → b2 ≡ list_all (are_bodies_disjoint db t nodes premises) c.pairs
    → applied db t c.assertion (entry_formulas nodes stack)
    ≡ unless_failed true b1 b2
    (nat_le (length (filled_parts nodes premises c.formula)) formula_limit)
    (take (length stack - length c.hypotheses) (entry_formulas nodes stack)
    ++ filled_parts nodes premises c.formula ∷ [])
applied_is_tested db t c nodes stack premises rule hypotheses_le_stack premises_are premises_in
    premise_count_is b1 b2 b1_is b2_is =
    let context = context_at db t in
    let a = frame_at db c.assertion in
    let hs = a.hypotheses in
    let es = entry_formulas nodes stack in
    let ps = entry_formulas nodes premises in
    let m = length stack - length c.hypotheses in
    let entry_count : length es ≡ length stack = length-map stack (entry_formula nodes) in
    let hypothesis_counts_equal : length c.hypotheses ≡ length hs =
    sym (length_all_parts c.parts 0 c.hypotheses)
    ∙ ap length rule.hypotheses_are
    ∙ length-map hs (parts_of db hs) in
    let counts_equal : length premises ≡ length hs = premise_count_is ∙ hypothesis_counts_equal in
    let σ' : Substitution = σ db t hs nodes premises premises_in counts_equal in
    let are_enough : nat_le (length hs) (length es) ≡ true =
    le-leb _ _ (omega (arith, entry_count, hypothesis_counts_equal, hypotheses_le_stack)) in
    let below_is : length es - length hs ≡ m =
    omega (arith, entry_count, hypothesis_counts_equal) in
    let premise_formulas_are : drop m es ≡ ps =
    drop-map (entry_formula nodes) m stack ∙ ap (entry_formulas nodes) (sym premises_are) in
    let matched_is : are_equal ps (map (substitute context σ') hs) ≡ b1 =
    ap (are_equal ps)
    (sym (all_replaced_are_substituted db t hs nodes premises premises_in counts_equal hs
    rule.is_complete.hypotheses)
    ∙ ap (map (filled_parts nodes premises)) (sym rule.hypotheses_are))
    ∙ sym b1_is in
    let disjoint_is :
    list_all (λ (p : Pair). are_all_disjoint context (σ' p.low) (σ' p.high)) a.pairs ≡ b2 =
    sym (pair_tests_equal db t hs nodes premises premises_in counts_equal a.pairs
    rule.is_complete.pairs)
    ∙ ap (list_all (are_bodies_disjoint db t nodes premises)) (sym rule.pairs_are)
    ∙ sym b2_is in
    let formula_is : substitute context σ' a.formula ≡ filled_parts nodes premises c.formula =
    sym (replaced_is_substituted db t hs nodes premises premises_in counts_equal a.formula
    rule.is_complete.formula)
    ∙ ap (filled_parts nodes premises) (sym rule.formula_is) in
    ap₂ (λ b i. apply context a b (take i es) (drop i es)) are_enough below_is
    ∙ ap (λ z. apply context a true (take m es) z) premise_formulas_are
    ∙ ap₂ (λ x y. unless_failed true x y
    (nat_le (length (substitute context σ' a.formula)) formula_limit)
    (take m es ++ substitute context σ' a.formula ∷ [])) matched_is disjoint_is
    ∙ ap (λ z. unless_failed true b1 b2 (nat_le (length z) formula_limit) (take m es ++ z ∷ []))
    formula_is

-- the same by the values that the code has
pub rule_test_by_stack : (db : List Statement) (t : ℕ) (c : CompiledRule) (nodes : List (List ℕ))
    → (stack premises : List Entry) (n below : ℕ)
    → IsCompiled db c → n ≡ length c.hypotheses → n ≤ length stack → below ≡ length stack - n
    → premises ≡ drop below stack → All (IsEntry nodes) stack → (ps : List (ℕ × ℕ)) → ps ≡ c.pairs
    → (b1 b2 : Bool) → b1 ≡ are_equal (entry_formulas nodes premises)
    (map (filled_parts nodes premises) (all_parts c.parts 0 c.hypotheses))
    → b2 ≡ list_all (are_bodies_disjoint db t nodes premises) ps
    → applied db t c.assertion (entry_formulas nodes stack)
    ≡ unless_failed true b1 b2
    (nat_le (length (filled_parts nodes (drop below stack) c.formula)) formula_limit)
    (take below (entry_formulas nodes stack)
    ++ filled_parts nodes (drop below stack) c.formula ∷ [])
rule_test_by_stack db t c nodes stack premises n below rule n_is n_le_length below_is premises_are
    entries_in ps ps_are b1 b2 b1_is b2_is =
    let taken = drop below stack in
    let below_is_difference : below ≡ length stack - length c.hypotheses =
    omega (arith, below_is, n_is) in
    let matched_is : b1 ≡ are_equal (entry_formulas nodes taken)
    (map (filled_parts nodes taken) (all_parts c.parts 0 c.hypotheses)) =
    b1_is
    ∙ ap (λ z. are_equal (entry_formulas nodes z)
    (map (filled_parts nodes z) (all_parts c.parts 0 c.hypotheses))) premises_are in
    let disjoint_is : b2 ≡ list_all (are_bodies_disjoint db t nodes taken) c.pairs =
    b2_is
    ∙ ap (λ z. list_all (are_bodies_disjoint db t nodes z) ps) premises_are
    ∙ ap (list_all (are_bodies_disjoint db t nodes taken)) ps_are in
    applied_is_tested db t c nodes stack taken rule (omega (arith, n_is, n_le_length))
    (ap (λ b. drop b stack) below_is_difference) (All-drop (IsEntry nodes) below stack entries_in)
    (omega (arith, below_is, n_is, n_le_length, length-drop below stack)) b1 b2 matched_is
    disjoint_is
    ∙ ap (λ b. unless_failed true b1 b2
    (nat_le (length (filled_parts nodes taken c.formula)) formula_limit)
    (take b (entry_formulas nodes stack) ++ filled_parts nodes taken c.formula ∷ []))
    (sym below_is_difference)

-- too few entries
pub applied_is_too_few : (db : List Statement) (t : ℕ) (c : CompiledRule) (nodes : List (List ℕ))
    (stack : List Entry) → IsCompiled db c → length stack < length c.hypotheses
    → applied db t c.assertion (entry_formulas nodes stack) ≡ Err too_few
applied_is_too_few db t c nodes stack rule stack_lt_hypotheses =
    grind (arith, common_steps, length-map, length_all_parts, lt-leb)
