use Rattle.mm_frame.specs.SymbolFacts.{AreSymbolFacts}
use Rattle.mm_frame.proofs.symbol_facts.symbol_facts_before.Given as goal

abbrev pub invariant-loop-statement : goal.invariant-loop-statement
invariant-loop-statement g l =
    AreSymbolFacts l.statements.list l.statements.blocks l.statement l.facts
