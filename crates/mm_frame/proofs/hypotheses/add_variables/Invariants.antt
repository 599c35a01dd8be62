use Rattle.std.proofs.Common.{◌≡◌, ℕ, ◌&&◌, ◌||◌, length, take}
use Rattle.mm_spec.specs.Derivation.{is_member}
use Rattle.mm_spec.specs.Frame.{symbol_names, is_variable_number}
use Rattle.mm_frame.specs.Hypotheses.{AreStamps}
use Rattle.mm_frame.proofs.hypotheses.add_variables.Given as goal

abbrev pub invariant-loop-symbol : goal.invariant-loop-symbol
invariant-loop-symbol g l = record {
  stamps : AreStamps (length (symbol_names l.statements.list)) l.stamp l.stamps.items
      l.variables.items;
  variables : (x : ℕ)
      → is_member l.variables.items x
      ≡ (is_member l.initial.variables.items x
      || (is_variable_number l.statements.list x && is_member (take l.symbol-index l.symbols) x));
}
