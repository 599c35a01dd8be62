-- One step of the checker.
use Rattle.std.proofs.Common.{◌≡◌, ℕ, ◌<◌, ◌++◌, ◌∷◌, [], List, Bool, true, false, ◌&&◌, ◌||◌, ◌==◌}
use Rattle.std.proofs.Common.{◌≤◌, Err}
use Rattle.std.proofs.Common.{length, length-append, get_or, slice_get, Some, None, Ok, Option}
use Rattle.std.proofs.Common.{Result, refl, sym, ap, ◌∙◌, subst, arith}
use Rattle.std.proofs.Math.Bool.{or-false}
use Rattle.std.proofs.lemmas.Bool.{eqb-true}
use Rattle.mm_spec.specs.Statement.{Statement}
use Rattle.mm_spec.specs.Derivation.{Formula, is_member}
use Rattle.mm_spec.specs.Steps.{label, marked}
use Rattle.mm_spec.specs.Valid.{Reason}
use Rattle.mm_spec.specs.Citation.{context_at}
use Rattle.mm_spec.specs.Laws.Stack.{IsCompleteReferent, label_entries}
use Rattle.mm_rule.specs.Assertions.{is_assertion_at}
use Rattle.mm_machine.specs.DisjointCache.{KnownPairs}
use Rattle.mm_machine.specs.State.{MachineState, machine_state, applied}
use Rattle.mm_machine.specs.Applied.{IsStepRefusalOf}
use Rattle.mm_machine.specs.declared.reason.StepRefused.{StepRefused}
use Rattle.mm_spec.specs.Limits.{formula_limit}
use Rattle.mm_spec.specs.Frame.{formula_at}
use Rattle.mm_spec.specs.Valid.{too_long}
use Rattle.mm_rule.specs.Rule.{CompiledRule}
use Rattle.mm_rules.specs.Rules.{IsRuleOf}
use Rattle.mm_machine.specs.declared.reason.StepRefused.TheVariants.{Fault, Memory}
use Rattle.mm_machine.proofs.AloneLaw.{applied_alone_is_ok, applied_alone_is_too_long}
use Rattle.mm_check.specs.Checker.{CheckerState, checker_state, Performs, IsStepRefusal}
use Rattle.mm_check.specs.Checker.{IsPushRefusal}
use Rattle.mm_check.proofs.CompilerStateLaw.{assertion_rule}
use Rattle.mm_check.proofs.RanLaw.{marked_formula_is}

module _ (db : List Statement) (t : ℕ) where
  pub length_push_is_positive : (es : List Formula) (f : Formula) → 0 < length (es ++ f ∷ [])
  length_push_is_positive es f = omega (arith, length-append es (f ∷ []))

  pub repeated_step_performs : (c : CheckerState) (j n : ℕ) (m : MachineState)
      → n < length c.machine.marks → get_or c.machine.marks n 0 ≡ j
      → m ≡ machine_state (c.machine.stack ++ get_or c.machine.formulas n [] ∷ []) c.machine.marks
      c.machine.formulas c.machine.variable_flags
      → Performs db t (marked j) c (checker_state m c.rules c.noted c.cache c.kept)
  repeated_step_performs c j n m n_lt_length mark_is entries_are =
      let out : Option Formula → Result (List Formula) Reason =
      λ o. elim o [ None ↦ Ok c.machine.stack | Some f ↦ Ok (c.machine.stack ++ f ∷ []) ] in
      record {
        entries_are =
            λ ends agree. ap out (sym (ap (slice_get ends) mark_is)
            ∙ marked_formula_is ends c.machine.marks c.machine.formulas n agree n_lt_length)
            ∙ ap Ok (sym (ap (λ s. s.stack) entries_are));
        marks_stay = ap (λ s. s.marks) entries_are;
        formulas_stay = ap (λ s. s.formulas) entries_are;
        has_entry = rw entries_are (length_push_is_positive c.machine.stack (get_or
            c.machine.formulas n []));
        noted_are = λ x. sym (or-false (is_member c.noted x));
      }

  module _ (c : CheckerState) (a : ℕ)
      (rule_is_complete : IsCompleteReferent (context_at db t) ((context_at db t).referent a))
      (is_assertion : is_assertion_at db a ≡ true) where
    pub applied_step_performs : (m : MachineState) (noted : List ℕ) (cache : KnownPairs)
        → applied db t a c.machine.stack ≡ Ok m.stack → m.marks ≡ c.machine.marks
        → m.formulas ≡ c.machine.formulas → 0 < length m.stack
        → ((x : ℕ) → is_member noted x ≡ (is_member c.noted x || (x == a)))
        → Performs db t (label a) c (checker_state m c.rules noted cache c.kept)
    applied_step_performs m noted cache entries_are marks_stay formulas_stay has_entry noted_are =
        record {
          entries_are =
              λ ends agree. ap (λ r. label_entries (context_at db t) r c.machine.stack)
              (assertion_rule db t a is_assertion rule_is_complete) ∙ entries_are;
          marks_stay = marks_stay;
          formulas_stay = formulas_stay;
          has_entry = has_entry;
          noted_are = λ x. noted_are x ∙ ap (λ b. is_member c.noted x || b) (both_hold x (x == a)
              refl);
        }
      where
        both_hold : (x : ℕ) (b : Bool) → (x == a) ≡ b → b ≡ (b && is_assertion_at db x)
        both_hold x false equality = refl
        both_hold x true equality = sym (ap (is_assertion_at db) (eqb-true x a equality)
            ∙ is_assertion)

    pub refusal_is_of_step : (e : StepRefused) → IsStepRefusalOf e (applied db t a c.machine.stack)
        → IsStepRefusal db t (label a) c e
    refusal_is_of_step e is_refusal =
        λ ends agree. subst (IsStepRefusalOf e) (sym (ap (λ r. label_entries (context_at db t) r
        c.machine.stack) (assertion_rule db t a is_assertion rule_is_complete))) is_refusal

    -- the formula of an assertion without hypotheses is pushed
    pub alone_is_applied : (r : CompiledRule) → IsRuleOf db r a → length r.hypotheses ≡ 0
        → length (formula_at db a) ≤ formula_limit
        → applied db t a c.machine.stack ≡ Ok (c.machine.stack ++ formula_at db a ∷ [])
    alone_is_applied r is_rule no_hypotheses length_le_limit =
        subst (λ x. applied db t x c.machine.stack ≡ Ok (c.machine.stack ++ formula_at db x ∷ []))
        is_rule.assertion_is (applied_alone_is_ok db t r is_rule.is_compiled no_hypotheses
        c.machine.stack (subst (λ x. length (formula_at db x) ≤ formula_limit)
        (sym is_rule.assertion_is) length_le_limit))

    -- that it isn't pushed is a refusal of the step
    pub push_refusal_is_of_step : (r : CompiledRule) → IsRuleOf db r a → length r.hypotheses ≡ 0
        → (e : StepRefused) → IsPushRefusal (formula_at db a) e → IsStepRefusal db t (label a) c e
    push_refusal_is_of_step r is_rule no_hypotheses e is_refusal =
        refusal_is_of_step e (by_kind e is_refusal)
      where
        by_kind : (e : StepRefused) → IsPushRefusal (formula_at db a) e
            → IsStepRefusalOf e (applied db t a c.machine.stack)
        by_kind Memory is_refusal = tt
        by_kind (Fault reason) is_refusal =
            subst (λ x. applied db t x c.machine.stack ≡ Err too_long) is_rule.assertion_is
            (applied_alone_is_too_long db t r is_rule.is_compiled no_hypotheses c.machine.stack
            (subst (λ x. formula_limit < length (formula_at db x)) (sym is_rule.assertion_is)
            is_refusal.1))
            ∙ ap Err (sym is_refusal.0)
