use Rattle.std.proofs.Common.{rules, arith}
use Rattle.std.proofs.lemmas.Result.{on_ok_weaker}
use Rattle.mm_rules.proofs.CompleteLaw.{complete_at}
use Rattle.mm_rules.proofs.rules.Rules.hold_rule.Goals as goal

pub compile-requires-clause-is_complete : goal.compile-requires-clause-is_complete
compile-requires-clause-is_complete g c = search (rules, arith, complete_at)

pub returns-clause-are_rules : goal.returns-clause-are_rules
returns-clause-are_rules g c =
    on_ok_weaker c.add.result (λ keeps. keeps _ c.requires.are_rules
    (rw c.rule-rule.ensures c.in_ok-compile.ensures.is_compiled)) c.add.ensures
