use Rattle.mm_check.proofs.WalkLaw.{AreFoundFrom}
use Rattle.mm_check.proofs.essential.note_essential.Given as goal

abbrev pub invariant-loop-i : goal.invariant-loop-i
invariant-loop-i g l =
    AreFoundFrom l.database.statements l.theorem l.steps.steps l.i l.entry_flags.items
    l.step_flags.items l.noted
