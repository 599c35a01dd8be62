use Rattle.std.proofs.Common.{◌≡◌, ℕ, ◌&&◌, ◌||◌, take}
use Rattle.mm_spec.specs.Derivation.{is_member}
use Rattle.mm_database.specs.DisjointIndex.{is_active_local}
use Rattle.mm_database.specs.Pairs.{has_pair}
use Rattle.mm_frame.proofs.disjoint.append_all_active_wide.Given as goal

abbrev pub invariant-loop-symbol : goal.invariant-loop-symbol
invariant-loop-symbol g l =
    (j y : ℕ)
    → has_pair l.by_statement.items j y
    ≡ (has_pair l.initial.by_statement.items j y
    || (is_member (take l.symbol-index l.symbols) y
    && (has_pair l.disjoint_index.by_symbol y j
    && is_active_local l.blocks j l.fn.at)))
