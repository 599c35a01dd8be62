use Rattle.std.proofs.Common.{◌≡◌, ℕ, ◌||◌, take}
use Rattle.std.specs.List.{list_any}
use Rattle.mm_spec.specs.Derivation.{is_member}
use Rattle.mm_frame.specs.Hypotheses.{is_float_of}
use Rattle.mm_frame.proofs.hypotheses.add_floats.Given as goal

abbrev pub invariant-loop-symbol : goal.invariant-loop-symbol
invariant-loop-symbol g l =
    (j : ℕ)
    → is_member l.hypotheses.items j ≡ (is_member l.initial.hypotheses.items j
    || list_any (is_float_of l.statements.list l.at l.last_floats j)
    (take l.symbol-index l.variables))
