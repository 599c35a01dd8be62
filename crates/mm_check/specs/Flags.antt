-- The flags of entries and of steps, during a pass over the steps of a proof from last to first.
use Rattle.std.specs.Prelude.{ℕ, Bool, true, ◌&&◌, List, [], map, slice_set, if◌then◌else◌}
use Rattle.std.specs.List.{list_any}
use Rattle.mm_spec.specs.Statement.{Statement}
use Rattle.mm_spec.specs.Scope.{statement_at}
use Rattle.mm_spec.specs.Frame.{is_essential, mandatory_hypotheses}
use Rattle.mm_spec.specs.Steps.{Step, label, marked}
use Rattle.mm_rule.specs.Assertions.{is_assertion_at}

-- for each mandatory hypothesis of an assertion, whether its entry is essential, given whether the
-- assertion's node is essential
abbrev pub child_flags : List Statement → Bool → ℕ → List Bool
child_flags db node_is_essential l =
    map (λ h. node_is_essential && list_any is_essential (statement_at db h))
    (mandatory_hypotheses db l)

-- the flags of the entries that a step takes from the stack, given whether the entry that it pushes
-- is essential
abbrev pub taken_flags : List Statement → Bool → Step → List Bool
taken_flags db entry_is_essential (label l) =
    if is_assertion_at db l then child_flags db entry_is_essential l else []
taken_flags db entry_is_essential (marked j) = []

-- the flags of the earlier steps, given whether the entry that the step pushes is essential
abbrev pub step_flags_after : Bool → Step → List Bool → List Bool
step_flags_after entry_is_essential (label l) step_flags = step_flags
step_flags_after entry_is_essential (marked j) step_flags =
    if entry_is_essential then slice_set step_flags j true else step_flags
