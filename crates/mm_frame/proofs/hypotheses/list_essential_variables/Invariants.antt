use Rattle.std.proofs.Common.{◌≡◌, ℕ, ◌+◌, ◌&&◌, length, take}
use Rattle.std.specs.List.{list_any}
use Rattle.mm_spec.specs.Derivation.{is_member}
use Rattle.mm_spec.specs.Frame.{symbol_names, is_variable_number, formula_at}
use Rattle.mm_frame.specs.Hypotheses.{AreStamps}
use Rattle.mm_frame.proofs.hypotheses.list_essential_variables.Given as goal

abbrev pub invariant-loop-essential : goal.invariant-loop-essential
invariant-loop-essential g l = record {
  stamps : AreStamps (length (symbol_names l.statements.list)) (l.assertion + 1) l.stamps.items
      l.variables.items;
  variables : (x : ℕ)
      → is_member l.variables.items x
      ≡ (is_variable_number l.statements.list x
      && list_any (λ j. is_member (formula_at l.statements.list j) x)
      (take l.essential-index l.essentials));
}
