use Rattle.std.proofs.Common.{◌≡◌, ℕ, List, [], vec_len}
use Rattle.std.specs.List.{All}
use Rattle.std.specs.Prelude.{IfOk}
use Rattle.mm_scope.specs.Numbering.{AreNumbersBefore, IsNumberedStretch}
use Rattle.mm_scope.proofs.numbering.joined_numbers.Given as goal

abbrev pub invariant-joining : goal.invariant-joining
invariant-joining g l =
    (wanted : ℕ → List ℕ) (len : ℕ) → wanted 0 ≡ []
    → All (λ r. IfOk r (IsNumberedStretch wanted len)) l.initial.unjoined.items
    → AreNumbersBefore wanted len l.joined
    × All (λ r. IfOk r (IsNumberedStretch wanted len)) l.unjoined.items

abbrev pub decreases-joining : goal.decreases-joining
decreases-joining g l = vec_len l.unjoined
