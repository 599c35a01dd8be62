use Rattle.std.proofs.Common.{◌≡◌, take}
use Rattle.mm_rules.specs.Rules.{indexed_pairs}
use Rattle.mm_rules.proofs.compile.compile_pairs.Given as goal

abbrev pub invariant-loop-pair : goal.invariant-loop-pair
invariant-loop-pair g l = l.pairs.items ≡ indexed_pairs l.indices (take l.pair-index
    l.symbol_pairs)
