use Rattle.std.proofs.Common.{rules, arith}
use Rattle.std.proofs.lemmas.Grind.{common_steps}
use Rattle.mm_frame.proofs.FramesLaw.{last_floats_at_start}
use Rattle.mm_frame.proofs.SymbolFactsLaw.{disjoint_ends_at_start}
use Rattle.mm_frame.proofs.symbol_facts.symbol_facts_before.Goals as goal

pub loop-statement-init : goal.loop-statement-init
loop-statement-init g c = record {
  last_floats = search (rules, arith, last_floats_at_start);
  disjoint_ends = search (rules, arith, disjoint_ends_at_start);
}

pub add_symbol_facts-requires-clause-statement_lt_length :
    goal.add_symbol_facts-requires-clause-statement_lt_length
add_symbol_facts-requires-clause-statement_lt_length g c = search (rules, arith)

pub returns : goal.returns
returns g c = grind (arith, common_steps, c.loop-statement-test.false, c.loop-statement.invariant)
