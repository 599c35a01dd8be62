use Rattle.std.proofs.Common.{rules, arith}
use Rattle.std.proofs.lemmas.List.{length-take-le, length-drop, take_rest}
use Rattle.mm_nodes.proofs.CopyLaw.{put_twice}
use Rattle.mm_nodes.proofs.copy.put_ends.Goals as goal

pub returns-clause-are_written : goal.returns-clause-are_written
returns-clause-are_written c =
    search (rules, arith, take_rest, length-drop, put_twice, length-take-le)
