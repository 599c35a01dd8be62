-- The labels of a forest are all performed. Where the step of a label fails, that is told with its
-- reason, and then the labels are those of no forest.
use Rattle.std.proofs.Common.{◌≡◌, ℕ, suc, ◌+◌, ◌-◌, true, List, [], ◌∷◌, ◌++◌, map, length, take}
use Rattle.std.proofs.Common.{drop, Option, Some, None, Ok, Err, nat_le, sym, ap, ap₂, ◌∙◌, subst}
use Rattle.std.proofs.Common.{append-nil, arith, le-leb, rules}
use Rattle.std.specs.List.{list_all}
use Rattle.std.proofs.lemmas.Bool.{false_from_ne_true, lt-leb}
use Rattle.mm_spec.specs.Derivation.{Formula, Referent, hypothesis, assertion, Context}
use Rattle.mm_spec.specs.Derivation.{Substitution, substitute, are_all_disjoint, Trees, none}
use Rattle.mm_spec.specs.Derivation.{formulas, postfix, AreDerivations}
use Rattle.mm_spec.specs.Limits.{formula_limit}
use Rattle.mm_spec.specs.Valid.{Reason, too_few, unmatched, not_disjoint, too_long, Fails}
use Rattle.mm_spec.proofs.UnifyLaw.{tested_equal_are_equal, found_gives_formula}
use Rattle.mm_spec.proofs.UnifyLaw.{found_keeps_disjoint}
use Rattle.mm_spec.specs.Laws.Stack.{substitution_from, IsCompleteReferent, label_entries}
use Rattle.mm_spec.specs.Laws.Stack.{unless_failed, unless_too_long}
use Rattle.mm_spec.proofs.StackStepsLaw.{AreGood, StopsAtLabel, proceed, perform_labels}
use Rattle.mm_spec.proofs.StackStepsLaw.{forest_is_performed, good_append_is_good_parts}
use Rattle.mm_spec.proofs.StackStepsLaw.{found_matches_if_any}

-- the labels are the postfix list of a forest of derivations
abbrev pub IsPostfixOfForest : Context → List ℕ → Type 0
IsPostfixOfForest c labels = (forest : Trees) × AreDerivations c forest × (postfix forest ≡ labels)

module _ (c : Context) where
  -- where a step fails, no further one is performed, for that reason
  pub step_stops_if_fails : (r : Option Referent) (es : List Formula) (reason : Reason)
      → IsCompleteReferent c r → Fails c r es reason → label_entries c r es ≡ Err reason
  step_stops_if_fails None es _ is_complete fails = absurd fails
  step_stops_if_fails (Some (hypothesis g)) es too_long is_complete fails =
      ap (λ b. unless_too_long b (es ++ g ∷ [])) (lt-leb (length g) formula_limit fails)
  step_stops_if_fails (Some (hypothesis g)) es _ is_complete fails = absurd fails
  step_stops_if_fails (Some (assertion a)) es too_few is_complete fails = grind arith
  step_stops_if_fails (Some (assertion a)) es unmatched is_complete fails =
      search (rules, arith, nat_le, le-leb, false_from_ne_true, tested_equal_are_equal)
  step_stops_if_fails (Some (assertion a)) es not_disjoint is_complete
      (τ, are_enough, premises_are, not_all_disjoint) =
      let n = length es - length a.hypotheses in
      let ps = drop n es in
      let σ = substitution_from c a.hypotheses ps in
      let substitutions_equal :
      substitution_from c a.hypotheses (map (substitute c τ) a.hypotheses) ≡ σ =
      ap (substitution_from c a.hypotheses) (sym premises_are) in
      let disjoint_tests_equal =
      subst (λ (s : Substitution). list_all (λ p. are_all_disjoint c (s p.low) (s p.high)) a.pairs
      ≡ list_all (λ p. are_all_disjoint c (τ p.low) (τ p.high)) a.pairs)
      substitutions_equal (found_keeps_disjoint c a.hypotheses τ a.pairs is_complete.pairs) in
      ap₂ (λ enough matched. unless_failed enough matched
      (list_all (λ p. are_all_disjoint c (σ p.low) (σ p.high)) a.pairs)
      (nat_le (length (substitute c σ a.formula)) formula_limit)
      (take n es ++ substitute c σ a.formula ∷ []))
      (le-leb (length a.hypotheses) (length es) are_enough)
      (found_matches_if_any c a ps τ is_complete premises_are)
      ∙ ap (λ disjoint. unless_failed true true disjoint
      (nat_le (length (substitute c σ a.formula)) formula_limit)
      (take n es ++ substitute c σ a.formula ∷ []))
      (disjoint_tests_equal ∙ false_from_ne_true _ not_all_disjoint)
  step_stops_if_fails (Some (assertion a)) es too_long is_complete
      (τ, are_enough, premises_are, all_disjoint, exceeds_limit) =
      let n = length es - length a.hypotheses in
      let ps = drop n es in
      let σ = substitution_from c a.hypotheses ps in
      let substitutions_equal :
      substitution_from c a.hypotheses (map (substitute c τ) a.hypotheses) ≡ σ =
      ap (substitution_from c a.hypotheses) (sym premises_are) in
      let disjoint_tests_equal =
      subst (λ (s : Substitution). list_all (λ p. are_all_disjoint c (s p.low) (s p.high)) a.pairs
      ≡ list_all (λ p. are_all_disjoint c (τ p.low) (τ p.high)) a.pairs)
      substitutions_equal (found_keeps_disjoint c a.hypotheses τ a.pairs is_complete.pairs) in
      let formulas_equal =
      subst (λ (s : Substitution). substitute c s a.formula ≡ substitute c τ a.formula)
      substitutions_equal
      (found_gives_formula c a.hypotheses τ a.formula is_complete.formula) in
      ap₂ (λ enough matched. unless_failed enough matched
      (list_all (λ p. are_all_disjoint c (σ p.low) (σ p.high)) a.pairs)
      (nat_le (length (substitute c σ a.formula)) formula_limit)
      (take n es ++ substitute c σ a.formula ∷ []))
      (le-leb (length a.hypotheses) (length es) are_enough)
      (found_matches_if_any c a ps τ is_complete premises_are)
      ∙ ap₂ (λ disjoint fits. unless_failed true true disjoint fits
      (take n es ++ substitute c σ a.formula ∷ []))
      (disjoint_tests_equal ∙ all_disjoint)
      (ap (λ f. nat_le (length f) formula_limit) formulas_equal ∙ lt-leb _ _ exceeds_limit)

  -- all labels of a forest of derivations are performed, and leave the formulas of the forest
  pub run_of_forest : (ls : List ℕ) → AreGood c ls → (forest : Trees) → AreDerivations c forest
      → postfix forest ≡ ls → perform_labels c 0 ls [] ≡ Ok (formulas forest)
  run_of_forest ls are_good forest derives labels_are =
      let postfix_is_good : AreGood c (postfix forest) = subst (AreGood c) (sym labels_are) are_good
      in
      ap (λ x. perform_labels c 0 x []) (sym labels_are ∙ sym (append-nil (postfix forest)))
      ∙ forest_is_performed c forest derives postfix_is_good 0 [] []

  -- the first step that fails is that of a label after a forest of derivations; this tells the
  -- place and the reason
  pub run_stops : (ls : List ℕ) (reason : Reason) → AreGood c ls
      → (s : StopsAtLabel c none ls reason)
      → perform_labels c 0 ls [] ≡ Err (record { at = length s.before; reason = reason })
  run_stops ls reason are_good stopped =
      let split_labels_are_good : AreGood c (stopped.before ++ stopped.label ∷ stopped.after) =
      subst (AreGood c) stopped.splits are_good in
      let parts_are_good = good_append_is_good_parts c stopped.before
      (stopped.label ∷ stopped.after) split_labels_are_good in
      let reached_are_good : AreGood c (postfix stopped.reached) = subst (AreGood c)
      (sym stopped.labels) parts_are_good.0 in
      let labels_are : ls ≡ postfix stopped.reached ++ stopped.label ∷ stopped.after =
      stopped.splits ∙ ap (λ x. x ++ stopped.label ∷ stopped.after) (sym stopped.labels) in
      let indices_equal : 0 + length (postfix stopped.reached) ≡ length stopped.before =
      let lengths_equal = ap length stopped.labels in omega (arith, lengths_equal) in
      ap (λ x. perform_labels c 0 x []) labels_are
      ∙ forest_is_performed c stopped.reached stopped.derivations reached_are_good 0 (stopped.label
      ∷ stopped.after) []
      ∙ ap (λ r. proceed r (0 + length (postfix stopped.reached))
      (perform_labels c (suc (0 + length (postfix stopped.reached))) stopped.after))
      (step_stops_if_fails (c.referent stopped.label) (formulas stopped.reached) reason
      parts_are_good.1.0 stopped.fails)
      ∙ ap (λ index. Err (record { at = index; reason = reason })) indices_equal

  -- if the step of a label fails, the labels are the postfix list of no forest of derivations
  pub stopped_no_forest : (ls : List ℕ) (reason : Reason) → AreGood c ls
      → StopsAtLabel c none ls reason → ¬ IsPostfixOfForest c ls
  stopped_no_forest ls reason are_good stopped is_postfix =
      let run_succeeds = run_of_forest ls are_good is_postfix.0 is_postfix.1 is_postfix.2 in
      let run_fails = run_stops ls reason are_good stopped in
      cc
