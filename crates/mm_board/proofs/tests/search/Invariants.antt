use Rattle.std.proofs.Common.{◌≡◌, false, None}
use Rattle.mm_board.specs.Models.{IsSeatOf}
use Rattle.mm_board.proofs.tests.search.Given as goal

abbrev pub invariant-loop : goal.invariant-loop
invariant-loop g l =
    IsSeatOf l.board l.seat × (l.seat.view.over ≡ false) × (l.seat.view.open_number ≡ None)
