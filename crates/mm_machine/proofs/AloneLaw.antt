-- The step of an assertion without hypotheses pushes its formula.
use Rattle.std.proofs.lemmas.Grind.{common_steps}
use Rattle.std.proofs.Common.{◌≡◌, ℕ, ◌-◌, ◌<◌, ◌≤◌, Bool, true, false, List, [], ◌∷◌, ◌++◌, length}
use Rattle.std.proofs.Common.{take, drop, map, nat_le, refl, ap, ap₂, ◌∙◌, subst, arith, All, cond}
use Rattle.std.proofs.Common.{Some, Ok, Err, le-leb}
use Rattle.std.specs.List.{list_all, AllByRecursion}
use Rattle.std.proofs.lemmas.Bool.{lt-leb}
use Rattle.std.proofs.lemmas.List.{take_all, drop_all, length-map}
use Rattle.std.proofs.lemmas.List.Elements.{recursion_from_All}
use Rattle.mm_spec.specs.Statement.{Statement}
use Rattle.mm_spec.specs.Derivation.{Formula, Pair, Frame, Context, Substitution, assertion}
use Rattle.mm_spec.specs.Derivation.{substitute, are_all_disjoint}
use Rattle.mm_spec.specs.Limits.{formula_limit}
use Rattle.mm_spec.specs.Valid.{too_long}
use Rattle.mm_spec.specs.Frame.{is_variable_number, formula_at, frame_at}
use Rattle.mm_spec.specs.Citation.{context_at}
use Rattle.mm_spec.specs.Laws.Stack.{substitution_from, are_equal, unless_failed, unless_too_long}
use Rattle.mm_spec.specs.Laws.Stack.{apply, label_entries}
use Rattle.mm_rule.specs.declared.rule.RulePart.TheVariants.{Constant, Variable}
use Rattle.mm_rule.specs.Rule.{floating_index, parts_of, IsVariableBelow, CompiledRule, IsCompiled}
use Rattle.mm_machine.specs.State.{applied}
use Rattle.mm_machine.proofs.EntryRuleLaw.{length_all_parts}

empty_of_length_0 : {X : Type 0} (xs : List X) → length xs ≡ 0 → xs ≡ []
empty_of_length_0 xs h1 = grind (arith, common_steps)

no_pairs : (ps : List (ℕ × ℕ)) → All (λ (p : ℕ × ℕ). (p.0 < 0) × (p.1 < 0)) ps → length ps ≡ 0
no_pairs [] all_below_0 = refl
no_pairs (p ∷ ps) all_below_0 =
    absurd (omega (
      arith,
      (recursion_from_All (λ (p : ℕ × ℕ). (p.0 < 0) × (p.1 < 0)) (p ∷ ps)
          all_below_0).0.0,
    ))

-- a frame without hypotheses and pairs, whose formula has no variables
module _ (c : Context) (a : Frame) (hypotheses_are_nil : a.hypotheses
    ≡ []) (pairs_are_nil : a.pairs ≡ [])
    (formula_stays : (σ : Substitution) → substitute c σ a.formula ≡ a.formula) where
  step_alone : (es : List Formula) → label_entries c (Some (assertion a)) es
      ≡ unless_too_long (nat_le (length a.formula) formula_limit) (es ++ a.formula ∷ [])
  step_alone es =
      let length_hypotheses_is_0 : length a.hypotheses ≡ 0 = ap length hypotheses_are_nil in
      let n = length es - length a.hypotheses in
      let length_es_le_n : length es ≤ n = omega (arith, length_hypotheses_is_0) in
      let σ = substitution_from c a.hypotheses [] in
      ap (λ b. apply c a b (take n es) (drop n es)) (le-leb _ _
      (omega (arith, length_hypotheses_is_0))) ∙ ap₂ (λ below premises. apply c a true below
      premises) (take_all n es length_es_le_n) (drop_all n es length_es_le_n)
      ∙ ap₂ (λ matched disjoint. unless_failed true matched disjoint
      (nat_le (length (substitute c σ a.formula)) formula_limit) (es ++ substitute c σ a.formula
      ∷ [])) (ap (λ hs. are_equal [] (map (substitute c σ) hs)) hypotheses_are_nil)
      (ap (list_all (λ (p : Pair). are_all_disjoint c (σ p.low) (σ p.high))) pairs_are_nil)
      ∙ ap (λ f. unless_too_long (nat_le (length f) formula_limit) (es ++ f ∷ [])) (formula_stays σ)

module _ (db : List Statement) (t : ℕ) (hs : List Formula) (σ : Substitution) where
  formula_stays_itself : (f : Formula) → AllByRecursion (IsVariableBelow 0) (parts_of db hs f)
      → substitute (context_at db t) σ f ≡ f
  formula_stays_itself [] variables_below_0 = refl
  formula_stays_itself (s ∷ f) variables_below_0 =
      ap₂ (λ u v. u ++ v) (symbol_stays (is_variable_number db s) variables_below_0.0)
      (formula_stays_itself f variables_below_0.1)
    where
      symbol_stays : (v : Bool) → IsVariableBelow 0 (cond v (Variable (floating_index db hs s))
          (Constant s)) → cond v (σ s) (s ∷ []) ≡ s ∷ []
      symbol_stays true variable_below_0 = absurd (omega (arith, variable_below_0))
      symbol_stays false variable_below_0 = refl

module _ (db : List Statement) (t : ℕ) (c : CompiledRule) (rule : IsCompiled db c)
    (length_is_0 : length c.hypotheses ≡ 0) where
  abbrev frame : Frame
  frame = frame_at db c.assertion

  abbrev f : Formula
  f = formula_at db c.assertion

  hypotheses_are : frame.hypotheses ≡ []
  hypotheses_are =
      empty_of_length_0 frame.hypotheses (omega (
        arith,
        length_is_0,
        ap length rule.hypotheses_are,
        length_all_parts c.parts 0 c.hypotheses,
        length-map frame.hypotheses (parts_of db frame.hypotheses),
      ))

  pairs_are : frame.pairs ≡ []
  pairs_are =
      empty_of_length_0 frame.pairs (omega (
        arith,
        no_pairs c.pairs
            (subst (λ n. All (λ (p : ℕ × ℕ). (p.0 < n) × (p.1 < n)) c.pairs) length_is_0
            rule.pairs_in_range),
        ap length rule.pairs_are ∙ length-map {B = ℕ × ℕ} frame.pairs
            (λ (p : Pair).
            (floating_index db frame.hypotheses p.low, floating_index db frame.hypotheses p.high)),
      ))

  symbols_are_constants : AllByRecursion (IsVariableBelow 0) (parts_of db frame.hypotheses f)
  symbols_are_constants =
      recursion_from_All (IsVariableBelow 0) (parts_of db frame.hypotheses f)
      (subst (All (IsVariableBelow 0)) rule.formula_is
      (subst (λ n. All (IsVariableBelow n) c.formula) length_is_0 rule.formula_in_range))

  applied_pushes_formula : (es : List Formula) → applied db t c.assertion es
      ≡ unless_too_long (nat_le (length f) formula_limit) (es ++ f ∷ [])
  applied_pushes_formula es =
      step_alone (context_at db t) frame hypotheses_are pairs_are
      (λ σ. formula_stays_itself db t frame.hypotheses σ f symbols_are_constants) es

  pub applied_alone_is_ok : (es : List Formula) → length f ≤ formula_limit
      → applied db t c.assertion es ≡ Ok (es ++ f ∷ [])
  applied_alone_is_ok es length_le_limit =
      applied_pushes_formula es ∙ ap (λ b. unless_too_long b (es ++ f ∷ [])) (le-leb _ _
      length_le_limit)

  pub applied_alone_is_too_long : (es : List Formula) → formula_limit < length f
      → applied db t c.assertion es ≡ Err too_long
  applied_alone_is_too_long es limit_lt_length =
      applied_pushes_formula es ∙ ap (λ b. unless_too_long b (es ++ f ∷ [])) (lt-leb _ _
      limit_lt_length)
