use Rattle.std.proofs.Common.{subst, arith}
use Rattle.std.proofs.lemmas.List.{get_or-take, length-take-le}
use Rattle.mm_machine.specs.FlagRows.{HasColumn}
use Rattle.mm_machine.proofs.FlagRowsLaw.{next_has_column}
use Rattle.mm_machine.proofs.flag_rows.FlagRows.list_columns.Goals as goal

pub loop-symbol-preserved : goal.loop-symbol-preserved
loop-symbol-preserved g c = record {
  stay_disjoint = record {
    stay = λ db t disjoint. c.in-Some.ensures.stay_disjoint.stay db t
        (c.loop-symbol.invariant.stay_disjoint.stay db t disjoint);
  };
  length_le = c.add_column.ensures.length_le;
  are_columns =
      next_has_column c.loop-symbol.self.symbols c.find_or_add.new.self.symbols
      c.loop-symbol.columns.items c.add_column.new.columns.items c.args.symbols.now
      c.loop-symbol.symbol-index c.symbol-item.result c.in-Some.column c.loop-symbol-test.true
      c.symbol-item.is c.in-Some.ensures.extends c.add_column.ensures.columns_stay
      c.in-Some.ensures.index_lt_row_length c.in-Some.ensures.index_lt_length
      c.in-Some.ensures.finds_symbol
      (c.add_column.ensures.has_column c.if-not-add_column.false)
      c.loop-symbol.invariant.are_columns;
}

pub returns-clause-are_columns : goal.returns-clause-are_columns
returns-clause-are_columns g c = λ is_true k d k_lt.
    subst (HasColumn c.loop-symbol.self.symbols c.loop-symbol.columns.items)
    (get_or-take c.loop-symbol.symbol-index c.args.symbols.now k d
    (omega (arith, k_lt, c.loop-symbol-test.false)))
    (c.loop-symbol.invariant.are_columns k d (omega (
      arith,
      k_lt,
      c.loop-symbol-test.false,
      c.loop-symbol.auto.symbol-index-end,
      length-take-le c.loop-symbol.symbol-index c.args.symbols.now
          c.loop-symbol.auto.symbol-index-end,
    )))
