use Rattle.std.proofs.Common.{rules, ◌<◌, ◌∙◌, get_or, subst, arith}
use Rattle.std.proofs.lemmas.Grind.{common_steps}
use Rattle.std.proofs.lemmas.Bool.Decides.{nat_tests}
use Rattle.std.proofs.lemmas.List.{get_or_default}
use Rattle.mm_machine.specs.declared.owners.TheConstants.{OTHERS}
use Rattle.mm_machine.specs.Masks.{IsDisjointFromMask}
use Rattle.mm_machine.proofs.OwnersLaw.{all_to_come, one_less, none_to_come}
use Rattle.mm_machine.proofs.rule_conditions.are_disjoint_by_masks.Goals as goal

pub loop-bit-init : goal.loop-bit-init
loop-bit-init g c = grind (arith, common_steps, all_to_come, c.requires.cached_are_disjoint)

pub returns-then-rest-eq0-clause-are_apart : goal.returns-then-rest-eq0-clause-are_apart
returns-then-rest-eq0-clause-are_apart g c = search (rules, arith, none_to_come)

pub loop-bit-preserved : goal.loop-bit-preserved
loop-bit-preserved g c =
    record {
      so_far =
          one_less (λ i. (i < OTHERS) × IsDisjointFromMask c.args.database.now.statements
          c.args.theorem c.args.owners.now (get_or c.args.owners.now i 0) c.args.second)
          c.args.first c.loop-bit.rest _ (omega (arith, c.if-index-ge-OTHERS.false)) ((
            c.if-index-ge-OTHERS.false,
            subst (λ o. IsDisjointFromMask c.args.database.now.statements
                c.args.theorem c.args.owners.now o c.args.second) (c.index-owners-index.is
                ∙ get_or_default c.args.owners.now _ _ 0 c.if-index-owners.false)
                (c.is_disjoint_by_mask.ensures.are_apart c.if-not-is_disjoint_by_mask.false),
          ))
          c.loop-bit.invariant.so_far;
      cache = c.is_disjoint_by_mask.ensures.cached_are_disjoint;
    }

pub returns-clause-are_apart : goal.returns-clause-are_apart
returns-clause-are_apart g c = grind (arith, nat_tests, none_to_come, c.loop-bit.invariant.so_far)
