use Rattle.std.proofs.Common.{◌≡◌, take}
use Rattle.mm_machine.specs.Distinct.{HaveVariables}
use Rattle.mm_machine.proofs.distinct.collect_variables.Given as goal

abbrev pub invariant-loop-number : goal.invariant-loop-number
invariant-loop-number g l = record {
  nodes_stay : l.nodes ≡ l.fn.nodes;
  have_variables : HaveVariables l.database.statements l.fn.nodes (take l.number-index l.listed)
      l.list.items l.segments.items;
}
