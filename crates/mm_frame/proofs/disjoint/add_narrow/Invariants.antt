use Rattle.std.proofs.Common.{◌≡◌, ℕ, ◌&&◌, ◌||◌, take}
use Rattle.mm_spec.specs.Derivation.{is_member}
use Rattle.mm_database.specs.Pairs.{has_pair}
use Rattle.mm_database.specs.DisjointIndex.{row_of}
use Rattle.mm_frame.specs.Together.{is_higher_variable_in_row}
use Rattle.mm_frame.proofs.disjoint.add_narrow.Given as goal

abbrev pub invariant-loop-variable : goal.invariant-loop-variable
invariant-loop-variable g l =
    (x y : ℕ)
    → has_pair l.pairs.items x y
    ≡ (has_pair l.initial.pairs.items x y
    || (is_member (take l.variable-index l.disjoint_variables) x
    && is_higher_variable_in_row l.blocks (row_of l.disjoint_index.rows x) x l.disjoint_variables
    l.fn.at y))
