use Rattle.std.proofs.Common.{rules, ◌≡◌, ◌<◌, ◌∙◌, get_or, true, sym, ap, arith}
use Rattle.std.proofs.lemmas.Grind.{common_steps}
use Rattle.std.proofs.lemmas.Bool.Decides.{nat_tests}
use Rattle.std.proofs.lemmas.List.{get_or_default}
use Rattle.mm_spec.specs.Derivation.{are_disjoint}
use Rattle.mm_spec.specs.Citation.{context_at}
use Rattle.mm_machine.specs.declared.owners.TheConstants.{OTHERS}
use Rattle.mm_machine.proofs.OwnersLaw.{all_to_come, one_less, none_to_come}
use Rattle.mm_machine.proofs.rule_conditions.is_disjoint_by_mask.Goals as goal

pub loop-bit-init : goal.loop-bit-init
loop-bit-init g c = grind (arith, common_steps, all_to_come, c.requires.cached_are_disjoint)

pub returns-then-rest-eq0-clause-are_apart : goal.returns-then-rest-eq0-clause-are_apart
returns-then-rest-eq0-clause-are_apart g c = search (rules, arith, none_to_come)

pub loop-bit-preserved : goal.loop-bit-preserved
loop-bit-preserved g c =
    record {
      so_far =
          one_less (λ i. (i < OTHERS) × (are_disjoint (context_at c.args.database.now.statements
          c.args.theorem) c.args.symbol (get_or c.args.owners.now i 0) ≡ true)) c.args.mask
          c.loop-bit.rest _ (omega (arith, c.if-index-ge-OTHERS.false))
          ((
            c.if-index-ge-OTHERS.false,
            ap (are_disjoint (context_at c.args.database.now.statements
                c.args.theorem) c.args.symbol) (sym (c.index-owners-index.is ∙ get_or_default
                c.args.owners.now _ _ 0 c.if-index-owners.false)) ∙ sym
                c.are_disjoint.ensures.tells_disjoint ∙ c.if-not-are_disjoint.false,
          ))
          c.loop-bit.invariant.so_far;
      cache = c.are_disjoint.ensures.cached_are_disjoint;
    }

pub returns-clause-are_apart : goal.returns-clause-are_apart
returns-clause-are_apart g c = grind (arith, nat_tests, none_to_come, c.loop-bit.invariant.so_far)
