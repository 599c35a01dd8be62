use Rattle.std.proofs.Common.{◌≡◌, ◌≤◌, ◌<◌, ◌-◌, ℕ, length, get_or, false}
use Rattle.mm_bytes.specs.Masks.{is_bad}
use Rattle.mm_bytes.proofs.slices.first_bad.Given as goal

abbrev pub invariant-loop-at : goal.invariant-loop-at
invariant-loop-at l =
    record {
      within : l.at ≤ length l.bytes;
      good : (k : ℕ) → k < l.at → is_bad (get_or l.bytes k 0) ≡ false;
    }

abbrev pub decreases-loop-at : goal.decreases-loop-at
decreases-loop-at l = length l.bytes - l.at

abbrev pub invariant-loop-at-2 : goal.invariant-loop-at-2
invariant-loop-at-2 l =
    record {
      within : l.at ≤ length l.bytes;
      good : (k : ℕ) → k < l.at → is_bad (get_or l.bytes k 0) ≡ false;
    }

abbrev pub decreases-loop-at-2 : goal.decreases-loop-at-2
decreases-loop-at-2 l = length l.bytes - l.at
