use Rattle.std.proofs.Common.{rules, arith, eqb-true}
use Rattle.mm_nodes.proofs.WalkLaw.{symbol_string}
use Rattle.mm_nodes.proofs.OverlapLaw.{symbols_hold, comes_to_nothing}
use Rattle.mm_nodes.proofs.facts.take_apart.Goals as goal
use Rattle.mm_nodes.proofs.facts.take_apart.Goals.{then-first_length-second_length+in_default}
use Rattle.mm_nodes.proofs.facts.take_apart.Goals.{else-first_length-second_length}

pub returns-in-None-clause-comes_to_parts : goal.returns-in-None-clause-comes_to_parts
returns-in-None-clause-comes_to_parts g c same =
    search (
      rules,
      arith,
      then-first_length-second_length+in_default,
      else-first_length-second_length,
      symbol_string,
      comes_to_nothing,
      symbols_hold,
      eqb-true,
    )
