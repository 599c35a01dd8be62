use Rattle.std.proofs.Common.{◌≡◌, length}
use Rattle.mm_spec.specs.Frame.{symbol_names}
use Rattle.mm_rules.specs.Rules.{AreRules}
use Rattle.mm_rules.proofs.rules.Rules.hold_between.Given as goal

abbrev pub invariant-loop-statement : goal.invariant-loop-statement
invariant-loop-statement g l = record {
  symbol_count : l.compiler.symbol_count ≡ length (symbol_names l.database.statements);
  rules : AreRules l.database.statements l.self;
}
