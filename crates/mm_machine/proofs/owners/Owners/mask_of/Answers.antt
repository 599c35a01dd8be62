use Rattle.std.proofs.Common.{rules, ◌<◌, ◌∙◌, All, length, sym, subst, arith}
use Rattle.std.proofs.lemmas.Grind.{common_steps}
use Rattle.std.proofs.lemmas.List.Elements.{All-nil}
use Rattle.mm_machine.specs.Masks.{IsMasked}
use Rattle.mm_machine.proofs.OwnersLaw.{itself_extended, extended_further, mask_more}
use Rattle.mm_machine.proofs.owners.Owners.mask_of.Goals as goal

pub loop-symbol-init : goal.loop-symbol-init
loop-symbol-init g c = grind (arith, common_steps, itself_extended, All-nil)

pub mask_of_symbol-mask-requires : goal.mask_of_symbol-mask-requires
mask_of_symbol-mask-requires g c = search (rules, arith)

pub loop-symbol-preserved : goal.loop-symbol-preserved
loop-symbol-preserved g c =
    let inv = c.loop-symbol.invariant in
    let after = c.mask_of_symbol-mask.ensures in
    record {
      variables_stay = after.variables_stay ∙ inv.variables_stay;
      extends =
          extended_further c.args.self.now.symbols c.loop-symbol.self.symbols
          c.mask_of_symbol-mask.new.self.symbols inv.extends after.extends;
      stay_in_range = λ in_range.
          subst (λ vs'. All (λ s. s < length vs') c.mask_of_symbol-mask.new.self.symbols)
          inv.variables_stay
          (after.stay_in_range (subst (λ vs'. All (λ s. s < length vs') c.loop-symbol.self.symbols)
          (sym inv.variables_stay) (inv.stay_in_range in_range)));
      are_masked =
          mask_more c.args.self.now.variable_flags c.loop-symbol.self.symbols
          c.mask_of_symbol-mask.new.self.symbols c.loop-symbol.mask c.mask_of_symbol-mask.result
          c.args.formula.now c.loop-symbol.symbol-index c.symbol-item.result after.extends
          c.loop-symbol-test.true c.symbol-item.is inv.are_masked
          (subst (λ vs'. IsMasked vs' c.mask_of_symbol-mask.new.self.symbols
          c.mask_of_symbol-mask.result c.symbol-item.result) inv.variables_stay after.is_masked);
    }
