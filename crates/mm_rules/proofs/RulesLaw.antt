-- Rules in the lists of all rules.
use Rattle.std.proofs.Common.{◌≡◌, ℕ, List, [], ◌∷◌, ◌++◌, length, refl, ap}
use Rattle.std.proofs.Common.{◌∙◌, arith, length-append}
use Rattle.std.proofs.lemmas.List.{take_all, drop_at}
use Rattle.std.proofs.lemmas.List.Elements.{All-push}
use Rattle.mm_spec.specs.Statement.{Statement}
use Rattle.mm_rule.specs.declared.rule.RulePart.{RulePart}
use Rattle.mm_rule.specs.declared.rule.Hypothesis.{Hypothesis}
use Rattle.mm_rules.specs.declared.rules.RuleRanges.{RuleRanges}
use Rattle.mm_rules.specs.declared.rules.IndexRange.{IndexRange}
use Rattle.mm_rule.specs.Rule.{compiled_rule, IsCompiled}
use Rattle.mm_rules.specs.Rules.{rule_lists, elements_in, IsIndexRange, HasRule, AreRules}
use Rattle.mm_rule.proofs.SliceLaw.{stretch_of_longer_list}

-- a range of a list in the same list with more elements at its end
module _ {X : Type 0} (xs added : List X) (s : IndexRange) where
  is_range_of_longer : IsIndexRange (length xs) s → IsIndexRange (length (xs ++ added)) s
  is_range_of_longer is_range = record {
    start_le_end = is_range.start_le_end;
    end_le_length = omega (arith, is_range.end_le_length, length-append xs added);
  }

  elements_stay : IsIndexRange (length xs) s → elements_in (xs ++ added) s ≡ elements_in xs s
  elements_stay is_range = stretch_of_longer_list xs added s.start s.end is_range.start_le_end
      is_range.end_le_length

  module _ (start_is : s.start ≡ length xs) (end_is : s.end ≡ length (xs ++ added)) where
    added_range_is_range : IsIndexRange (length (xs ++ added)) s
    added_range_is_range = record {
      start_le_end = omega (arith, length-append xs added);
      end_le_length = omega arith;
    }

    elements_are_added : elements_in (xs ++ added) s ≡ added
    elements_are_added = rw (start_is, end_is, drop_at xs added (length xs) refl)
        (take_all _ added (omega (arith, length-append xs added)))

module _ (db : List Statement) (ranges : List RuleRanges) (hypotheses a : List Hypothesis)
    (pairs p : List (ℕ × ℕ))
    (parts q f : List RulePart) where
  -- the rules that were there
  has_rule_still : (new : List RuleRanges) (s : RuleRanges) → HasRule db
      (rule_lists ranges hypotheses pairs parts) s
      → HasRule db (rule_lists new (hypotheses ++ a) (pairs ++ p) ((parts ++ q) ++ f)) s
  has_rule_still new s has_rule =
      let parts_range = is_range_of_longer parts q s.parts has_rule.parts_are_range in
      let formula_range = is_range_of_longer parts q s.formula has_rule.formula_is_range in
      record {
        hypotheses_are_range =
            is_range_of_longer hypotheses a s.hypotheses has_rule.hypotheses_are_range;
        pairs_are_range = is_range_of_longer pairs p s.pairs has_rule.pairs_are_range;
        parts_are_range = is_range_of_longer (parts ++ q) f s.parts parts_range;
        formula_is_range = is_range_of_longer (parts ++ q) f s.formula formula_range;
        is_compiled = rw (
          elements_stay hypotheses a s.hypotheses has_rule.hypotheses_are_range,
          elements_stay pairs p s.pairs has_rule.pairs_are_range,
          elements_stay (parts ++ q) f s.parts parts_range,
          elements_stay parts q s.parts has_rule.parts_are_range,
          elements_stay (parts ++ q) f s.formula formula_range,
          elements_stay parts q s.formula has_rule.formula_is_range,
        ) has_rule.is_compiled;
      }

  -- and one more
  module _ (s : RuleRanges) (hypotheses_start : s.hypotheses.start ≡ length hypotheses)
      (hypotheses_end : s.hypotheses.end ≡ length (hypotheses ++ a))
      (pairs_start : s.pairs.start ≡ length pairs)
      (pairs_end : s.pairs.end ≡ length (pairs ++ p)) (parts_start : s.parts.start ≡ length parts)
      (parts_end : s.parts.end ≡ length (parts ++ q))
      (formula_start : s.formula.start ≡ length (parts ++ q))
      (formula_end : s.formula.end ≡ length ((parts ++ q) ++ f))
      (is_compiled : IsCompiled db (compiled_rule s.assertion a p q f)) where
    has_new_rule : (new : List RuleRanges)
        → HasRule db (rule_lists new (hypotheses ++ a) (pairs ++ p) ((parts ++ q) ++ f)) s
    has_new_rule new =
        let parts_range = added_range_is_range parts q s.parts parts_start parts_end in
        record {
          hypotheses_are_range =
              added_range_is_range hypotheses a s.hypotheses hypotheses_start hypotheses_end;
          pairs_are_range = added_range_is_range pairs p s.pairs pairs_start pairs_end;
          parts_are_range = is_range_of_longer (parts ++ q) f s.parts parts_range;
          formula_is_range =
              added_range_is_range (parts ++ q) f s.formula formula_start formula_end;
          is_compiled = rw (
            elements_are_added hypotheses a s.hypotheses hypotheses_start hypotheses_end,
            elements_are_added pairs p s.pairs pairs_start pairs_end,
            elements_stay (parts ++ q) f s.parts parts_range,
            elements_are_added parts q s.parts parts_start parts_end,
            elements_are_added (parts ++ q) f s.formula formula_start formula_end,
          ) is_compiled;
        }

    pub are_rules_with_one_more : AreRules db (rule_lists ranges hypotheses pairs parts)
        → AreRules db (rule_lists (ranges ++ s ∷ []) (hypotheses ++ a) (pairs ++ p) ((parts ++ q) ++
        f))
    are_rules_with_one_more are_rules =
        let new = ranges ++ s ∷ [] in
        All-push (HasRule db (rule_lists new (hypotheses ++ a) (pairs ++ p) ((parts ++ q) ++ f)))
        ranges s (λ i d i_lt_length. has_rule_still new _ (are_rules i d i_lt_length))
        (has_new_rule new)

-- the same by the values that the code has
pub are_rules_with_one_more_at : (db : List Statement) (ranges ranges' : List RuleRanges)
    (hypotheses a hypotheses' : List Hypothesis)
    → (pairs p pairs' : List (ℕ × ℕ)) (parts q f parts_and_q parts' : List RulePart)
    (s : RuleRanges)
    → ranges' ≡ ranges ++ s ∷ [] → hypotheses' ≡ hypotheses ++ a → pairs' ≡ pairs ++ p → parts_and_q
    ≡ parts ++ q
    → parts' ≡ parts_and_q ++ f → s.hypotheses.start ≡ length hypotheses → s.hypotheses.end ≡ length
    hypotheses'
    → s.pairs.start ≡ length pairs → s.pairs.end ≡ length pairs' → s.parts.start ≡ length parts
    → s.parts.end ≡ length parts_and_q → s.formula.start ≡ length parts_and_q → s.formula.end
    ≡ length parts'
    → IsCompiled db (compiled_rule s.assertion a p q f) → AreRules db
    (rule_lists ranges hypotheses pairs parts)
    → AreRules db (rule_lists ranges' hypotheses' pairs' parts')
are_rules_with_one_more_at db ranges ranges' hypotheses a hypotheses' pairs p pairs' parts q f
    parts_and_q parts' s
    ranges_are hypotheses_are pairs_are parts_and_q_are parts_are hypotheses_start hypotheses_end
    pairs_start pairs_end parts_start parts_end formula_start formula_end is_compiled are_rules =
    let all_parts_are : parts' ≡ (parts ++ q) ++ f = parts_are ∙ ap (λ z. z ++ f) parts_and_q_are in
    rw (ranges_are, hypotheses_are, pairs_are, all_parts_are)
    (are_rules_with_one_more db ranges hypotheses a pairs p parts q f s hypotheses_start
    (hypotheses_end ∙ ap length hypotheses_are) pairs_start (pairs_end ∙ ap length pairs_are)
    parts_start (parts_end ∙ ap length parts_and_q_are)
    (formula_start ∙ ap length parts_and_q_are) (formula_end ∙ ap length all_parts_are) is_compiled
    are_rules)
