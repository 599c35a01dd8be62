use Rattle.std.proofs.Common.{◌≡◌, take, map, length, All}
use Rattle.mm_spec.specs.Frame.{formula_at}
use Rattle.mm_rule.specs.Rule.{parts_of, all_parts, total_stored_part_count, IsVariableBelow}
use Rattle.mm_rules.proofs.compile.compile_hypotheses.Given as goal

abbrev pub invariant-loop-index : goal.invariant-loop-index
invariant-loop-index g l = record {
  parts_are : all_parts l.parts.items 0 l.hypotheses.items
      ≡ map (parts_of l.database.statements (map (formula_at l.database.statements) l.mandatory))
      (map (formula_at l.database.statements) (take l.index l.mandatory));
  count_is : length l.hypotheses.items ≡ l.index;
  part_count_is : total_stored_part_count l.hypotheses.items ≡ length l.parts.items;
  parts_in_range : All (IsVariableBelow (length l.mandatory)) l.parts.items;
}
