use Rattle.std.proofs.Common.{◌≤◌}
use Rattle.mm_lex.specs.Stretches.{NoWhite}
use Rattle.mm_lex.proofs.ends.after_white.Given as goal

abbrev pub invariant-loop-place : goal.invariant-loop-place
invariant-loop-place l =
    record {
      from_le_place : l.from ≤ l.place;
      place_le_to : l.place ≤ l.to;
      not_white : NoWhite l.text l.place l.to;
    }

abbrev pub decreases-loop-place : goal.decreases-loop-place
decreases-loop-place l = l.place

abbrev pub invariant-loop-place-2 : goal.invariant-loop-place-2
invariant-loop-place-2 l =
    record {
      from_le_place : l.from ≤ l.place;
      place_le_to : l.place ≤ l.to;
      not_white : NoWhite l.text l.place l.to;
    }

abbrev pub decreases-loop-place-2 : goal.decreases-loop-place-2
decreases-loop-place-2 l = l.place
