use Rattle.std.proofs.Common.{rules, arith}
use Rattle.std.proofs.lemmas.List.Elements.{All-weaker}
use Rattle.mm_machine.proofs.entry_stack.nodes_to_keep.Goals as goal

pub returns-clause-entries_are_kept : goal.returns-clause-entries_are_kept
returns-clause-entries_are_kept g c = search (rules, arith, All-weaker)
