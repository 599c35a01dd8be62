use Rattle.std.proofs.Common.{rules, arith}
use Rattle.mm_nodes.proofs.StoreLaw.{body_if_some}
use Rattle.mm_nodes.proofs.WalkLaw.{equal_if_same, equal_if_empty}
use Rattle.mm_nodes.proofs.nodes.Nodes.is_equal.Goals as goal

pub returns-then-symbol_count-eq0-clause-tells_equal :
    goal.returns-then-symbol_count-eq0-clause-tells_equal
returns-then-symbol_count-eq0-clause-tells_equal g c = search (rules, arith, equal_if_empty)

pub returns-then-is_listed-clause-tells_equal : goal.returns-then-is_listed-clause-tells_equal
returns-then-is_listed-clause-tells_equal g c = search (rules, arith, equal_if_same)

pub is_equal_by_symbols-requires-clause-is_body :
    goal.is_equal_by_symbols-requires-clause-is_body
is_equal_by_symbols-requires-clause-is_body g c = search (rules, arith, body_if_some)
