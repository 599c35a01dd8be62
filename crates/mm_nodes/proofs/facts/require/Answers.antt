use Rattle.std.proofs.Common.{rules, arith, eqb-true, eqb}
use Rattle.std.proofs.lemmas.Bool.Decides.{nat_tests}
use Rattle.std.proofs.lemmas.List.Elements.{All-get_or}
use Rattle.mm_nodes.proofs.OverlapLaw.{comes_to_nothing, comes_to_itself, holds_of_itself}
use Rattle.mm_nodes.proofs.OverlapLaw.{same_overlap}
use Rattle.mm_nodes.proofs.facts.require.Goals as goal

pub returns-then-eq : goal.returns-then-eq
returns-then-eq g c nodes is_overlap n below =
    search (rules, arith, comes_to_nothing, holds_of_itself, eqb-true)

pub returns-then-eq-2 : goal.returns-then-eq-2
returns-then-eq-2 g c nodes is_overlap n below =
    grind (
      arith,
      nat_tests,
      same_overlap,
      eqb,
      comes_to_nothing,
      All-get_or,
      c.eq-2.ensures,
      c.if-eq-2.true,
      c.slot_of-slot.ensures,
    )

pub returns : goal.returns
returns g c nodes is_overlap n below = search (rules, arith, comes_to_itself)
