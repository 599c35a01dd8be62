use Rattle.std.proofs.Common.{◌≡◌, ℕ, ◌&&◌, not, take, nat_eq, slice_index}
use Rattle.mm_spec.specs.Derivation.{is_member}
use Rattle.mm_spec.specs.Frame.{is_variable_number}
use Rattle.mm_frame.proofs.hypotheses.list_further_variables.Given as goal

abbrev pub invariant-loop-symbol : goal.invariant-loop-symbol
invariant-loop-symbol g l =
    (x : ℕ)
    → is_member l.further.items x
    ≡ (is_member (take l.symbol-index l.symbols) x
    && (is_variable_number l.statements.list x && not (nat_eq (slice_index l.stamps x) l.stamp)))
