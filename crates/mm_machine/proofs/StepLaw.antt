-- The formula that a step pushes, and the entries after it.
use Rattle.std.proofs.lemmas.Grind.{common_steps}
use Rattle.std.proofs.Common.{◌≡◌, ℕ, ◌<◌, ◌≤◌, Bool, true, false, List, [], ◌∷◌, ◌++◌, length}
use Rattle.std.proofs.Common.{take, drop, get_or, nat_le, Ok, Err, refl, sym, ap, ◌∙◌, subst, arith}
use Rattle.std.proofs.Common.{All, length-append, length-drop, slice_range, le-leb, ap₂, Result}
use Rattle.std.proofs.Common.{OnOk, OnErr, IfErr}
use Rattle.std.specs.List.{AllByRecursion}
use Rattle.std.proofs.lemmas.Bool.{lt-leb}
use Rattle.std.proofs.lemmas.List.{take_rest, drop-map, length-map}
use Rattle.std.proofs.lemmas.List.Elements.{recursion_from_All, All-from_recursion, All-take}
use Rattle.std.proofs.lemmas.List.Elements.{All-push, All-drop}
use Rattle.mm_spec.specs.Statement.{Statement}
use Rattle.mm_spec.specs.Frame.{symbol_names}
use Rattle.mm_spec.specs.Derivation.{Formula}
use Rattle.mm_spec.specs.Limits.{formula_limit}
use Rattle.mm_spec.specs.Valid.{too_long}
use Rattle.mm_spec.specs.Laws.Stack.{unless_too_long}
use Rattle.mm_nodes.specs.Strings.{first_node, string_of, joined_string_of}
use Rattle.mm_rule.specs.declared.rule.RulePart.{RulePart}
use Rattle.mm_rule.specs.declared.rule.RulePart.TheVariants.{Constant, Variable}
use Rattle.mm_rule.specs.Rule.{CompiledRule, IsCompiled, IsConstantBelow, IsVariableBelow}
use Rattle.mm_machine.specs.declared.entry.Entry.{Entry}
use Rattle.mm_machine.specs.declared.reason.StepRefused.{StepRefused}
use Rattle.mm_machine.specs.Entries.{no_entry, IsEntry, entry_formula, entry_formulas, AreInRange}
use Rattle.mm_machine.specs.Filled.{filled_part, filled_parts}
use Rattle.mm_machine.specs.State.{applied}
use Rattle.mm_machine.specs.Applied.{entries_after, TestsRule, IsStepRefusalOf}
use Rattle.mm_machine.proofs.EntryRuleLaw.{entry_formula_is_at}
use Rattle.mm_machine.proofs.FilledLaw.{symbol_string_is, All_behind, All_flat_map}

-- symbols as bodies
pub joined_symbols : (nodes : List (List ℕ)) (u : List ℕ) → All (λ s. s < first_node) u
    → joined_string_of nodes u ≡ u
joined_symbols nodes u are_symbols =
    each u (recursion_from_All (λ s. s < first_node) u are_symbols)
  where
    each : (u : List ℕ) → AllByRecursion (λ s. s < first_node) u → joined_string_of nodes u ≡ u
    each [] all_below = refl
    each (s ∷ u) all_below =
        ap (λ v. v ++ joined_string_of nodes u) (symbol_string_is nodes s all_below.0)
        ∙ ap (λ v. s ∷ v) (each u all_below.1)

-- ---- the entries after a step

ok_is : (b : Bool) (fs out : List Formula) → unless_too_long b fs ≡ Ok out → fs ≡ out
ok_is false fs out ends = absurd (cc)
ok_is true fs out ends = cc

module _ (nodes : List (List ℕ)) (es : List Entry) (below : ℕ) (parts : List RulePart) where
  abbrev filled : Formula
  filled = filled_parts nodes (drop below es) parts

  pub entries_if_short : (f : Formula) → f ≡ filled → length f ≤ formula_limit
      → entries_after nodes es below parts ≡ Ok (take below (entry_formulas nodes es) ++ f ∷ [])
  entries_if_short f f_is length_le =
      ap (λ b. unless_too_long b (take below (entry_formulas nodes es) ++ filled ∷ []))
      (le-leb (length filled) formula_limit (omega (arith, length_le, ap length f_is)))
      ∙ ap (λ z. Ok (take below (entry_formulas nodes es) ++ z ∷ [])) (sym f_is)

  pub entries_too_long : formula_limit < length filled
      → entries_after nodes es below parts ≡ Err too_long
  entries_too_long limit_lt =
      ap (λ b. unless_too_long b (take below (entry_formulas nodes es) ++ filled ∷ []))
      (lt-leb (length filled) formula_limit limit_lt)

  pub has_entry_after : (out : List Formula) → entries_after nodes es below parts ≡ Ok out
      → 0 < length out
  has_entry_after out entries_are =
      omega (
        arith,
        ap length (ok_is (nat_le (length filled) formula_limit) _ out entries_are),
        length-append (take below (entry_formulas nodes es)) (filled ∷ []),
      )

-- ---- symbols of the database

module _ (w : ℕ) where
  abbrev IsBelow : List ℕ → Type 0
  IsBelow u = All (λ s. s < w) u

  pub formula_at_in_range : (nodes : List (List ℕ)) (es : List Entry) (j : ℕ)
      → AreInRange w (entry_formulas nodes es) → j < length es
      → IsBelow (entry_formula nodes (get_or es j no_entry))
  formula_at_in_range nodes es j all_in_range j_lt =
      subst IsBelow (sym (entry_formula_is_at nodes es j j_lt))
      (all_in_range j [] (omega (arith, j_lt, length-map es (entry_formula nodes))))

  -- what replaces a variable by an entry
  pub body_in_range : (nodes : List (List ℕ)) (es : List Entry) (j : ℕ)
      → AreInRange w (entry_formulas nodes es) → j < length es
      → IsBelow (string_of nodes (get_or es j no_entry).body)
  body_in_range nodes es j all_in_range j_lt =
      All_behind (λ s. s < w) (string_of nodes (get_or es j no_entry).typecode) (string_of nodes
      (get_or es j no_entry).body) (formula_at_in_range nodes es j all_in_range j_lt)

  pub filled_in_range : (nodes : List (List ℕ)) (es : List Entry) (parts : List RulePart)
      → AreInRange w (entry_formulas nodes es) → All (IsConstantBelow w) parts
      → All (IsVariableBelow (length es)) parts → IsBelow (filled_parts nodes es parts)
  filled_in_range nodes es parts all_in_range constants_below variables_below =
      All_flat_map (λ s. s < w) (filled_part nodes es) parts (λ i d i_lt. part_in_range
      (get_or parts i d) (constants_below i d i_lt) (variables_below i d i_lt))
    where
      part_in_range : (p : RulePart) → IsConstantBelow w p → IsVariableBelow (length es) p
          → IsBelow (filled_part nodes es p)
      part_in_range (Constant s) is_below in_range =
          All-from_recursion (λ s. s < w) (s ∷ []) (is_below, tt)
      part_in_range (Variable j) is_below in_range = body_in_range nodes es j all_in_range in_range

  -- the entries after a step
  pub in_range_after : (fs gs : List Formula) (below : ℕ) (f : Formula) → AreInRange w fs
      → IsBelow f → gs ≡ take below fs ++ f ∷ [] → AreInRange w gs
  in_range_after fs gs below f fs_in_range f_in_range gs_are =
      rw gs_are (All-push IsBelow (take below fs) f (All-take IsBelow below fs fs_in_range)
      f_in_range)

  pub replaced_in_range : {T E : Type 0} (r : Result T E) (fs gs : List Formula) (below : ℕ)
      (f : Formula) → AreInRange w fs → IsBelow f → OnOk r (gs ≡ take below fs ++ f ∷ [])
      → OnErr r (gs ≡ take below fs) → AreInRange w gs
  replaced_in_range (Ok x) fs gs below f fs_in_range f_in_range gs_are gs_if_err =
      in_range_after fs gs below f fs_in_range f_in_range gs_are
  replaced_in_range (Err e) fs gs below f fs_in_range f_in_range gs_if_ok gs_are =
      rw gs_are (All-take IsBelow below fs fs_in_range)

  pub pushed_in_range : (nodes : List (List ℕ)) (es : List Entry) (below : ℕ)
      (parts : List RulePart) (out : List Formula) → AreInRange w (entry_formulas nodes es)
      → All (IsConstantBelow w) parts → All (IsVariableBelow (length (drop below es))) parts
      → entries_after nodes es below parts ≡ Ok out → AreInRange w out
  pushed_in_range nodes es below parts out es_in_range constants_below variables_below
      entries_are =
      let f = filled_parts nodes (drop below es) parts in
      in_range_after (entry_formulas nodes es) out below f es_in_range (filled_in_range nodes
      (drop below es) parts (subst (AreInRange w) (drop-map (entry_formula nodes) below es)
      (All-drop IsBelow below (entry_formulas nodes es) es_in_range)) constants_below
      variables_below) (sym (ok_is (nat_le (length f) formula_limit) _ out entries_are))

-- ---- by the values that the code has

pub premises_are : (stack stack' : List Entry) (below : ℕ) → stack' ≡ stack
    → slice_range stack' below (length stack') ≡ drop below stack
premises_are stack stack' below stack_is = grind (arith, common_steps, slice_range, take_rest)

pub variables_are_below_premises : (stack stack' : List Entry) (below : ℕ) (parts : List RulePart)
    → stack' ≡ stack → All (IsVariableBelow (length (drop below stack))) parts
    → All (IsVariableBelow (length (slice_range stack' below (length stack')))) parts
variables_are_below_premises stack stack' below parts stack_is variables_below =
    grind (arith, common_steps, premises_are)

pub premises_are_entries : (nodes : List (List ℕ)) (stack stack' : List Entry) (below : ℕ)
    → stack' ≡ stack → All (IsEntry nodes) stack
    → All (IsEntry nodes) (slice_range stack' below (length stack'))
premises_are_entries nodes stack stack' below stack_is are_entries =
    subst (All (IsEntry nodes)) (sym (premises_are stack stack' below stack_is))
    (All-drop (IsEntry nodes) below stack are_entries)

pub premises_are_in_range : (w : ℕ) (nodes nodes' : List (List ℕ)) (stack : List Entry) (below : ℕ)
    → nodes' ≡ nodes → AreInRange w (entry_formulas nodes stack)
    → AreInRange w (entry_formulas nodes' (slice_range stack below (length stack)))
premises_are_in_range w nodes nodes' stack below nodes_equal in_range =
    rw (nodes_equal, take_rest stack below) (subst (AreInRange w) (drop-map (entry_formula nodes)
    below stack) (All-drop (λ f. All (λ s. s < w) f) below (entry_formulas nodes stack) in_range))

pub formulas_below_are_in_range : (w : ℕ) (nodes nodes' : List (List ℕ)) (stack : List Entry)
    (gs : List Formula) (below : ℕ) → nodes' ≡ nodes → gs ≡ take below (entry_formulas nodes' stack)
    → AreInRange w (entry_formulas nodes stack) → AreInRange w gs
formulas_below_are_in_range w nodes nodes' stack gs below nodes_equal gs_are in_range =
    grind (arith, common_steps, All-take)

-- ---- the step of a rule that was tested

module _ (db : List Statement) (t : ℕ) (c : CompiledRule) (nodes nodes' : List (List ℕ))
    (stack : List Entry) (below : ℕ) (parts : List RulePart) (nodes_equal : nodes' ≡ nodes)
    (parts_are : parts ≡ c.formula) (tested : TestsRule db t c nodes stack (Ok below)) where
  applied_is : applied db t c.assertion (entry_formulas nodes stack)
      ≡ entries_after nodes' stack below parts
  applied_is =
      tested.1 ∙ ap₂ (λ ns f. entries_after ns stack below f) (sym nodes_equal) (sym parts_are)

  premise_count_is : length c.hypotheses ≡ length (drop below stack)
  premise_count_is = omega (arith, tested.0, length-drop below stack)

  pub below_le_length : below ≤ length stack
  below_le_length = omega (arith, tested.0)

  pub parts_below : IsCompiled db c → All (IsVariableBelow (length (drop below stack))) parts
  parts_below rule =
      rw parts_are (subst (λ n. All (IsVariableBelow n) c.formula) premise_count_is
      rule.formula_in_range)

  pub step_if_ok : {T : Type 0} (r : Result T StepRefused) (nodes'' : List (List ℕ))
      (stack'' : List Entry)
      → OnOk r (entries_after nodes' stack below parts ≡ Ok (entry_formulas nodes'' stack''))
      → OnOk r (applied db t c.assertion (entry_formulas nodes stack)
      ≡ Ok (entry_formulas nodes'' stack''))
  step_if_ok (Ok x) nodes'' stack'' entries_are = applied_is ∙ entries_are
  step_if_ok (Err e) nodes'' stack'' entries_are = tt

  pub step_has_entry : {T : Type 0} (r : Result T StepRefused) (nodes'' : List (List ℕ))
      (stack'' : List Entry)
      → OnOk r (entries_after nodes' stack below parts ≡ Ok (entry_formulas nodes'' stack''))
      → OnOk r (0 < length (entry_formulas nodes'' stack''))
  step_has_entry (Ok x) nodes'' stack'' entries_are =
      has_entry_after nodes' stack below parts (entry_formulas nodes'' stack'') entries_are
  step_has_entry (Err e) nodes'' stack'' entries_are = tt

  pub step_refusal_is_right : {T : Type 0} (r : Result T StepRefused) (nodes'' : List (List ℕ))
      (stack'' : List Entry)
      → IfErr r (λ e. IsStepRefusalOf e (entries_after nodes' stack below parts))
      → IfErr r (λ e. IsStepRefusalOf e (applied db t c.assertion (entry_formulas nodes stack)))
  step_refusal_is_right (Ok x) nodes'' stack'' refused = refused
  step_refusal_is_right (Err e) nodes'' stack'' refused =
      subst (IsStepRefusalOf e) (sym applied_is) refused

  pub step_in_range : {T : Type 0} (r : Result T StepRefused) (nodes'' : List (List ℕ))
      (stack'' : List Entry) → IsCompiled db c
      → AreInRange (length (symbol_names db)) (entry_formulas nodes stack)
      → OnOk r (entries_after nodes' stack below parts ≡ Ok (entry_formulas nodes'' stack''))
      → OnErr r ((w : ℕ) → AreInRange w (entry_formulas nodes' stack)
      → AreInRange w (entry_formulas nodes'' stack''))
      → AreInRange (length (symbol_names db)) (entry_formulas nodes'' stack'')
  step_in_range (Ok x) nodes'' stack'' rule old_in_range entries_are stay =
      pushed_in_range _ nodes' stack below parts (entry_formulas nodes'' stack'') (rw nodes_equal
      old_in_range) (rw parts_are rule.constants_in_range) (parts_below rule) entries_are
  step_in_range (Err e) nodes'' stack'' rule old_in_range entries_are stay =
      stay _ (rw nodes_equal old_in_range)
