use Rattle.std.proofs.Common.{◌&&◌, ◌∙◌, arith, ap, sym, length, take_all, false}
use Rattle.std.proofs.Math.Bool.{and-false}
use Rattle.std.specs.List.{list_any}
use Rattle.mm_spec.specs.Derivation.{is_member}
use Rattle.mm_spec.specs.Frame.{symbol_names, is_variable_number, formula_at}
use Rattle.mm_frame.proofs.HypothesesLaw.{essential_lt_k}
use Rattle.mm_frame.proofs.StampsLaw.{fresh_stamps_are_of_none}
use Rattle.mm_frame.proofs.LoopsLaw.{variables_with_next_formula}
use Rattle.mm_frame.proofs.hypotheses.list_essential_variables.Goals as goal

pub formula-requires : goal.formula-requires
formula-requires g c =
    let i = c.loop-essential.essential-index in
    let assertion_lt_length = c.requires.assertion_lt_length in
    let essential_lt_assertion =
    essential_lt_k c.args.statements.now.list c.args.assertion c.args.essentials.now
    c.requires.are_active i c.loop-essential-test.true in
    omega (arith, essential_lt_assertion, assertion_lt_length)

pub loop-essential-init : goal.loop-essential-init
loop-essential-init g c = record {
  stamps =
      fresh_stamps_are_of_none (length (symbol_names c.args.statements.now.list)) c.args.assertion
      c.args.stamps.now.items
      c.clear.new.self.items c.requires.are_fresh.count c.requires.are_fresh.stamps_le_stamp
      c.clear.ensures.items;
  variables =
      λ x.
      ap (λ xs. is_member xs x) c.clear.ensures.items
      ∙ sym (and-false (is_variable_number c.args.statements.now.list x));
}

pub loop-essential-preserved : goal.loop-essential-preserved
loop-essential-preserved g c = record {
  stamps = c.in_ok-add_variables.ensures.are_stamps;
  variables =
      λ x.
      variables_with_next_formula x (formula_at c.args.statements.now.list) c.args.essentials.now
      c.loop-essential.essential-index 0 c.formula.result.now _ _
      (is_variable_number c.args.statements.now.list x)
      false
      c.loop-essential-test.true
      c.formula.ensures.formula (c.loop-essential.invariant.variables x)
      (c.in_ok-add_variables.ensures.variables_are_added x);
}

pub returns-clause-variables_are : goal.returns-clause-variables_are
returns-clause-variables_are g c = λ x.
    let db = c.args.statements.now.list in
    c.loop-essential.invariant.variables x
    ∙ ap (λ ys. is_variable_number db x && list_any (λ j. is_member (formula_at db j) x) ys)
    (take_all c.loop-essential.essential-index c.args.essentials.now c.loop-essential-test.false)
