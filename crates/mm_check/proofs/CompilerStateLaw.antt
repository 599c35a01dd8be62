-- What a good label stands for, by whether it is that of an assertion.
use Rattle.std.proofs.Common.{◌≡◌, ℕ, ◌<◌, Bool, true, false, List, [], ◌∷◌, length, Option, None}
use Rattle.std.proofs.Common.{Some, slice_get, refl, sym, ap, ◌∙◌, subst, true≢false}
use Rattle.std.specs.List.{list_any}
use Rattle.mm_spec.specs.Statement.{Statement, floating, essential, axiomatic, provable}
use Rattle.mm_spec.specs.Scope.{active_at}
use Rattle.mm_spec.specs.Frame.{formula_at, frame_at}
use Rattle.mm_spec.specs.Derivation.{Referent, hypothesis, assertion}
use Rattle.mm_spec.specs.Citation.{context_at, referent_of, referent_at, is_assertion}
use Rattle.mm_spec.specs.Laws.Stack.{IsCompleteReferent, IsGoodStep}
use Rattle.mm_spec.proofs.FindsLaw.{got_lt_length}
use Rattle.mm_spec.specs.Steps.{Step, label, marked}
use Rattle.mm_rule.specs.Assertions.{is_assertion_at}
use Rattle.mm_check.specs.Contract.{IsLabelBelow}

module _ (db : List Statement) (t j : ℕ) where
  -- the statement of a good label, and what it stands for
  record HasStatement : Type 0 where
    pub statement : Statement
    pub statement_is : slice_get db j ≡ Some statement
    pub rule_is : referent_at db t j ≡ referent_of db j statement

  good_label_has_statement : IsCompleteReferent (context_at db t) (referent_at db t j)
      → HasStatement
  good_label_has_statement is_complete = is_statement (active_at db j t) refl (slice_get db j) refl
      is_complete
    where
      out : Bool → Option Statement → Option Referent
      out b o = elim b
          [ false ↦ None | true ↦ elim o [ None ↦ None | Some s ↦ referent_of db j s ] ]

      is_statement : (b : Bool) → active_at db j t ≡ b → (o : Option Statement) → slice_get db j ≡ o
          → IsCompleteReferent (context_at db t) (out b o) → HasStatement
      is_statement false not_active o statement_is is_good = absurd is_good
      is_statement true active_at_t None statement_is is_complete = absurd is_complete
      is_statement true active_at_t (Some s) statement_is is_complete =
          record {
            statement = s;
            statement_is = statement_is;
            rule_is = ap (λ b. out b (slice_get db j)) active_at_t
                ∙ ap (λ o. out true o) statement_is;
          }

  pub good_label_is_below : IsCompleteReferent (context_at db t) (referent_at db t j)
      → j < length db
  good_label_is_below is_complete = let labelled = good_label_has_statement is_complete in
      got_lt_length db j labelled.statement labelled.statement_is

  assertion_flag_is : (s : Statement) (b : Bool) → slice_get db j ≡ Some s
      → is_assertion_at db j ≡ b → list_any is_assertion (s ∷ []) ≡ b
  assertion_flag_is s b statement_is flag_is =
      sym (ap (λ o. list_any is_assertion (elim o [ None ↦ [] | Some s ↦ s ∷ [] ])) statement_is)
      ∙ flag_is

  pub assertion_rule : is_assertion_at db j ≡ true
      → IsCompleteReferent (context_at db t) (referent_at db t j)
      → referent_at db t j ≡ Some (assertion (frame_at db j))
  assertion_rule labels_assertion is_complete =
      let labelled = good_label_has_statement is_complete in labelled.rule_is
      ∙ rule_is labelled.statement (assertion_flag_is labelled.statement true labelled.statement_is
      labels_assertion)
    where
      rule_is : (s : Statement) → list_any is_assertion (s ∷ []) ≡ true
          → referent_of db j s ≡ Some (assertion (frame_at db j))
      rule_is (axiomatic l p xs d) is_assertion = refl
      rule_is (provable l p xs e ps d) is_assertion = refl
      rule_is _ is_assertion = absurd (true≢false (sym is_assertion))

  pub hypothesis_rule : is_assertion_at db j ≡ false
      → IsCompleteReferent (context_at db t) (referent_at db t j)
      → referent_at db t j ≡ Some (hypothesis (formula_at db j))
  hypothesis_rule not_assertion is_complete =
      let labelled = good_label_has_statement is_complete in
      labelled.rule_is ∙ rule_is labelled.statement (assertion_flag_is labelled.statement false
      labelled.statement_is not_assertion)
      (subst (IsCompleteReferent (context_at db t)) labelled.rule_is is_complete)
    where
      rule_is : (s : Statement) → list_any is_assertion (s ∷ []) ≡ false
          → IsCompleteReferent (context_at db t) (referent_of db j s)
          → referent_of db j s ≡ Some (hypothesis (formula_at db j))
      rule_is (floating l p xs d) not_assertion is_complete = refl
      rule_is (essential l p xs d) not_assertion is_complete = refl
      rule_is (axiomatic l p xs d) not_assertion is_complete = absurd (true≢false
          not_assertion)
      rule_is (provable l p xs e ps d) not_assertion is_complete = absurd (true≢false
          not_assertion)
      rule_is _ not_assertion is_complete = absurd is_complete

-- the label of a good step is that of a statement
pub good_step_label_is_below : (db : List Statement) (t n : ℕ) (s : Step)
    → IsGoodStep (context_at db t) n s → IsLabelBelow s (length db)
good_step_label_is_below db t n (label l) is_good = good_label_is_below db t l is_good
good_step_label_is_below db t n (marked j) is_good = tt
