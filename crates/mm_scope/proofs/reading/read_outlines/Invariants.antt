use Rattle.std.proofs.Common.{◌≡◌, ◌≤◌, ◌++◌, ℕ, drop, length, take, None}
use Rattle.mm_spec.specs.Frame.{symbol_names}
use Rattle.mm_outline.specs.Statements.{statements}
use Rattle.mm_scope.specs.Formulas.{numbers_by}
use Rattle.mm_scope.specs.Scopes.{AreKnown}
use Rattle.mm_scope.specs.Outlines.{AreOutlinesFrom}
use Rattle.mm_scope.specs.ReadSoFar.{IsReadSoFar, read_with}
use Rattle.mm_scope.proofs.ReadLaw.{IsReadTo}
use Rattle.mm_scope.proofs.reading.read_outlines.Given as goal

abbrev pub invariant-loop-outline : goal.invariant-loop-outline
invariant-loop-outline g l = record {
  are_first : l.read.outlines.items ≡ take l.outline-index l.outlines;
  from : ℕ;
  reading : IsReadTo l.text l.tokens
      (statements l.text l.tokens l.read.outlines.items) l.depth from;
  left : AreOutlinesFrom l.text l.tokens l.depth from
      (drop l.outline-index l.outlines) l.rest;
  is_read_so_far : IsReadSoFar (statements l.text l.tokens l.read.outlines.items)
      (read_with (take l.first l.numbers.items) l.read);
  no_fault : l.read.fault ≡ None;
  are_known : AreKnown l.read.scope;
  first_le_count : l.first ≤ length l.numbers.items;
  numbers_left : l.numbers.items
      ≡ take l.first l.numbers.items
      ++ numbers_by (symbol_names (statements l.text l.tokens l.outlines))
      (statements l.text l.tokens (drop l.outline-index l.outlines));
}
