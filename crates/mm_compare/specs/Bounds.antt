-- Pairs of numbers of symbols.
use Rattle.std.specs.Prelude.{◌<◌, List, All, length}
use Rattle.mm_spec.specs.Statement.{Statement}
use Rattle.mm_spec.specs.Derivation.{Pair}
use Rattle.mm_spec.specs.Frame.{symbol_names}

-- both numbers of each pair are those of symbols
abbrev pub AreSymbolPairs : List Statement → List Pair → Type 0
AreSymbolPairs db pairs =
    All (λ p. (p.low < length (symbol_names db)) × (p.high < length (symbol_names db))) pairs
