use Rattle.std.proofs.Common.{◌≡◌}
use Rattle.mm_machine.specs.FlagRows.{StayDisjointWith}
use Rattle.mm_machine.proofs.flag_rows.FlagRows.insert_in_row.Given as goal

abbrev pub invariant-loop-other : goal.invariant-loop-other
invariant-loop-other g l = record {
  symbols_stay : l.self.symbols ≡ l.initial.self.symbols;
  stay_disjoint : StayDisjointWith l.fn._symbol l.others l.initial.self l.self;
}
