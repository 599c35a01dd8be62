-- What a seat's view says, and the record in it: the open number, and the settled, reported and
-- skipped numbers.
use Rattle.std.specs.Prelude.{◌≡◌, ℕ, ◌+◌, ◌==◌, false, Option, None, Some, List, [], ◌∷◌, length}
use Rattle.std.specs.Prelude.{if◌then◌else◌}
use Rattle.mm_board.specs.declared.board.TheConstants.{MOST_SEATS}
use Rattle.mm_board.specs.declared.views.View.{View}

-- the first seat of a board of n numbers: it stands for all seats that a board has at a time, and
-- its record is empty
abbrev pub first_view : ℕ → View
first_view n =
    record {
      count = n;
      share = MOST_SEATS;
      open_number = None;
      settled = [];
      reported = [];
      skipped = [];
      seen = n;
      over = false;
    }

-- how often x occurs in the list
abbrev pub times_in : ℕ → List ℕ → ℕ
times_in x [] = 0
times_in x (y ∷ ys) = (if y == x then 1 else 0) + times_in x ys

-- 1 if x is the open number, otherwise 0
abbrev pub times_open : ℕ → Option ℕ → ℕ
times_open x None = 0
times_open x (Some i) = if i == x then 1 else 0

-- how often x occurs in the seat's record
abbrev pub times_recorded : ℕ → View → ℕ
times_recorded x v =
    times_open x v.open_number + times_in x v.settled + times_in x v.reported + times_in x v.skipped

-- 1 if a number is open, otherwise 0
abbrev pub open_count : Option ℕ → ℕ
open_count None = 0
open_count (Some i) = 1

-- how many numbers the seat's record has
abbrev pub record_length : View → ℕ
record_length v = open_count v.open_number + length v.settled + length v.reported + length v.skipped

-- the seat's record has no number
pub record HasEmptyRecord (v : View) : Type 0 where
  pub nothing_open : v.open_number ≡ None
  pub none_settled : v.settled ≡ []
  pub none_reported : v.reported ≡ []
  pub none_skipped : v.skipped ≡ []
