use Rattle.std.proofs.Common.{◌≡◌, ◌+◌, ◌≤◌, drop, length, map}
use Rattle.mm_spec.specs.Laws.Stack.{are_equal}
use Rattle.mm_rule.specs.Rule.{all_parts, total_stored_part_count}
use Rattle.mm_machine.specs.Entries.{entry_formula}
use Rattle.mm_machine.specs.Filled.{filled_parts}
use Rattle.mm_machine.proofs.EntryFitLaw.{fit_from}
use Rattle.mm_machine.proofs.entry_match.premises_match.Given as goal

abbrev pub invariant-loop-j : goal.invariant-loop-j
invariant-loop-j g l = record {
  nodes_stay : l.nodes ≡ l.fn.nodes;
  room_stays : length l.rule.parts ≤ length l.list;
  part_count_is : l.part_index + total_stored_part_count (drop l.j l.rule.hypotheses)
      ≡ length l.rule.parts;
  test_is_rest_test : are_equal (map (entry_formula l.fn.nodes) l.premises)
      (map (filled_parts l.fn.nodes l.premises) (all_parts l.rule.parts 0 l.rule.hypotheses))
      ≡ fit_from l.fn.nodes l.premises l.rule.parts l.rule.hypotheses l.j l.part_index;
}
