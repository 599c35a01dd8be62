use Rattle.std.proofs.Common.{◌≡◌, ◌≤◌}
use Rattle.mm_frame.specs.Neighbours.{IsReady}
use Rattle.mm_frame.specs.SymbolFacts.{AreSymbolFacts}
use Rattle.mm_database.specs.Frames.{frames_between}
use Rattle.mm_frame.proofs.frames.frames_between.Given as goal

abbrev pub invariant-loop-statement : goal.invariant-loop-statement
invariant-loop-statement g l = record {
  facts : AreSymbolFacts l.sources.statements.now.list l.sources.statements.now.blocks l.statement
      l.facts;
  ready : IsReady l.sources.statements.now.list l.fn.from l.statement l.scratch;
  from_le_statement : l.fn.from ≤ l.statement;
  frames : l.frames ≡ frames_between l.sources.statements.now.list l.fn.from l.statement;
}
