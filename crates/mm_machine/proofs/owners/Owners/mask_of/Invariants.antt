use Rattle.std.proofs.Common.{◌≡◌, ◌<◌, All, length, take}
use Rattle.mm_machine.specs.Masks.{AreMasked}
use Rattle.mm_machine.specs.FlagRows.{ExtendsSymbols}
use Rattle.mm_machine.proofs.owners.Owners.mask_of.Given as goal

abbrev pub invariant-loop-symbol : goal.invariant-loop-symbol
invariant-loop-symbol g l = record {
  variables_stay : l.self.variable_flags ≡ l.fn.self.variable_flags;
  extends : ExtendsSymbols l.fn.self.symbols l.self.symbols;
  stay_in_range : All (λ s. s < length l.fn.self.variable_flags) l.fn.self.symbols
      → All (λ s. s < length l.fn.self.variable_flags) l.self.symbols;
  are_masked : AreMasked l.fn.self.variable_flags l.self.symbols l.mask (take l.symbol-index
      l.formula);
}
