use Rattle.std.proofs.Common.{rules, arith, eqb-true}
use Rattle.std.proofs.lemmas.Grind.{common_steps}
use Rattle.std.proofs.lemmas.List.{nil_from_length}
use Rattle.mm_spec.proofs.FindsLaw.{passing_statement, got_lt_length}
use Rattle.mm_tell.proofs.NamedLaw.{no_pairs}
use Rattle.mm_tell.proofs.dummies.Scratch.list_theorem.Goals as goal

pub returns-then-is_empty-clause-pairs_are : goal.returns-then-is_empty-clause-pairs_are
returns-then-is_empty-clause-pairs_are g c =
    search (rules, arith, nil_from_length, eqb-true, no_pairs)

pub list_used-requires-clause-theorem_lt_length : goal.list_used-requires-clause-theorem_lt_length
list_used-requires-clause-theorem_lt_length g c =
    grind (arith, common_steps, passing_statement, got_lt_length, c.requires)

pub list_pairs-requires-clause-theorem_le_length : goal.list_pairs-requires-clause-theorem_le_length
list_pairs-requires-clause-theorem_le_length g c =
    grind (arith, common_steps, passing_statement, got_lt_length, c.requires)
