use Rattle.mm_rows.proofs.TableLaw.{set_bit_is_next_marked, no_bit_no_mark}
use Rattle.mm_rows.proofs.table.MarkedRows.next_marked.Goals as goal

pub returns-in-Some-clause-is_first : goal.returns-in-Some-clause-is_first
returns-in-Some-clause-is_first g c =
    let found = c.in-Some.ensures.is_first in
    let marked =
    set_bit_is_next_marked c.args.self.now c.args.row c.row.result.now c.row.ensures c.args.from
    c.in-Some.column found.0 found.2 found.3 in
    (found.0, marked.0, marked.1, marked.2)

pub returns-in-None-clause-none_is_there : goal.returns-in-None-clause-none_is_there
returns-in-None-clause-none_is_there g c =
    no_bit_no_mark c.args.self.now c.args.row c.row.result.now c.row.ensures c.args.from
    c.in-None.ensures.none_is_there
