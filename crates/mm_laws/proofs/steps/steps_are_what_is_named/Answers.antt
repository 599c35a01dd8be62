use Rattle.std.proofs.Common.{rules, arith}
use Rattle.mm_laws.proofs.SpelledStepsLaw.{steps_are_named, steps_are_labels_where_read}
use Rattle.mm_laws.proofs.UniqueStepsLaw.{named_steps_are_unique}
use Rattle.mm_laws.proofs.steps.steps_are_what_is_named.Goals as goal

pub returns : goal.returns
returns c =
    search (rules, arith, steps_are_named, named_steps_are_unique, steps_are_labels_where_read)
