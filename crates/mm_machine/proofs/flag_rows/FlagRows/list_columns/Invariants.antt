use Rattle.std.proofs.Common.{◌≤◌, length, take}
use Rattle.mm_machine.specs.declared.flag_rows.TheConstants.{ROW_WORDS}
use Rattle.mm_machine.specs.FlagRows.{StayDisjoint, AreColumnsOf}
use Rattle.mm_machine.proofs.flag_rows.FlagRows.list_columns.Given as goal

abbrev pub invariant-loop-symbol : goal.invariant-loop-symbol
invariant-loop-symbol g l = record {
  stay_disjoint : StayDisjoint l.initial.self l.self;
  length_le : length l.columns.items ≤ ROW_WORDS;
  are_columns : AreColumnsOf l.self.symbols l.columns.items (take l.symbol-index l.symbols);
}
