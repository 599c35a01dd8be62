use Rattle.std.proofs.Common.{arith, ℕ, List, ap, ◌∙◌, ◌&&◌, ◌||◌, take_all}
use Rattle.mm_spec.specs.Derivation.{is_member}
use Rattle.mm_spec.specs.Frame.{is_variable_number}
use Rattle.mm_frame.proofs.LoopsLaw.{listed_of_no_symbols, listed_with_next_symbol}
use Rattle.mm_frame.proofs.hypotheses.add_variables.Goals as goal

pub loop-symbol-init : goal.loop-symbol-init
loop-symbol-init g c = record {
  stamps = c.requires.are_stamps;
  variables =
      λ x. listed_of_no_symbols (is_member c.args.variables.now.items x)
      (is_variable_number c.args.statements.now.list x);
}

pub add_variable-requires-clause-symbol_lt_count : goal.add_variable-requires-clause-symbol_lt_count
add_variable-requires-clause-symbol_lt_count g c =
    let symbol_lt_count =
    c.requires.symbols_lt_count c.loop-symbol.symbol-index c.symbol-item.result
    c.loop-symbol-test.true in
    let symbol_is_item = c.symbol-item.is in
    omega (arith, symbol_lt_count, symbol_is_item)

pub loop-symbol-preserved : goal.loop-symbol-preserved
loop-symbol-preserved g c = record {
  stamps = c.in_ok-add_variable.ensures.are_stamps;
  variables =
      λ x.
      listed_with_next_symbol c.args.symbols.now c.loop-symbol.symbol-index c.symbol-item.result x _
      _ _
      (is_variable_number c.args.statements.now.list x) c.loop-symbol-test.true c.symbol-item.is
      (c.loop-symbol.invariant.variables x) (c.in_ok-add_variable.ensures.variable_is_added x);
}

pub returns-clause-variables_are_added : goal.returns-clause-variables_are_added
returns-clause-variables_are_added g c = λ x.
    c.loop-symbol.invariant.variables x
    ∙ ap (λ (xs : List ℕ). is_member c.args.variables.now.items x
    || (is_variable_number c.args.statements.now.list x && is_member xs x))
    (take_all c.loop-symbol.symbol-index c.args.symbols.now c.loop-symbol-test.false)
