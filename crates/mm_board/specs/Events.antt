-- The events of a board: what each step found in its word, what it answers, and the view that it
-- leaves the seat with.
use Rattle.std.specs.Prelude.{ℕ, ◌+◌, ◌-◌, ◌||◌, min, nat_lt, true, false, Option, None, Some, List}
use Rattle.std.specs.Prelude.{[], ◌∷◌, ◌++◌, if◌then◌else◌}
use Rattle.mm_board.specs.declared.views.View.{View}
use Rattle.mm_board.specs.Rule.{BoardRule, IsSeatView}

-- this is the claim word of some state that meets the rule, in which a seat has the view v
abbrev pub IsClaimWord : View → ℕ → Type 0
IsClaimWord v claim =
    (floor settled : ℕ) × (views : List View) × BoardRule v.count claim floor settled views
    × IsSeatView views v

-- this is the floor word of some state that meets the rule, in which a seat has the view v
abbrev pub IsFloorWord : View → ℕ → Type 0
IsFloorWord v floor =
    (claim settled : ℕ) × (views : List View) × BoardRule v.count claim floor settled views
    × IsSeatView views v

-- this is the settled word of some state that meets the rule, in which a seat has the view v
abbrev pub IsSettledWord : View → ℕ → Type 0
IsSettledWord v settled =
    (claim floor : ℕ) × (views : List View) × BoardRule v.count claim floor settled views
    × IsSeatView views v

-- what a claim that found c answers, at a board of n numbers
abbrev pub claim_answer : ℕ → ℕ → Option ℕ
claim_answer n c = if nat_lt c n then Some c else None

-- a claim that found c: c is open if it is below the count, and otherwise the seat is over
abbrev pub after_claim : View → ℕ → View
after_claim v c =
    if nat_lt c v.count then record v { open_number = Some c } else record v { over = true }

-- the open number after a look that found f: an open number above f is closed
abbrev pub open_after_look : Option ℕ → ℕ → Option ℕ
open_after_look None f = None
open_after_look (Some i) f = if nat_lt f i then None else Some i

-- the numbers that a look that found f skips: an open number above f
abbrev pub skipped_by_look : Option ℕ → ℕ → List ℕ
skipped_by_look None f = []
skipped_by_look (Some i) f = if nat_lt f i then i ∷ [] else []

-- a look that found f: an open number above f becomes skipped
abbrev pub after_look : View → ℕ → View
after_look v f = record v {
  open_number = open_after_look v.open_number f;
  skipped = v.skipped ++ skipped_by_look v.open_number f;
  seen = f;
}

-- the open number, as a list
abbrev pub open_list : Option ℕ → List ℕ
open_list None = []
open_list (Some i) = i ∷ []

-- the open number, or 0
abbrev pub open_or_zero : Option ℕ → ℕ
open_or_zero None = 0
open_or_zero (Some i) = i

-- a report that found f: the open number becomes reported, and the lesser of it and f is seen
abbrev pub after_report : View → ℕ → View
after_report v f = record v {
  open_number = None;
  reported = v.reported ++ open_list v.open_number;
  seen = min f (open_or_zero v.open_number);
}

-- a settle, whatever it found: the open number becomes settled
abbrev pub after_settle : View → ℕ → View
after_settle v found =
    record v { open_number = None; settled = v.settled ++ open_list v.open_number }

-- a split: the seat gives one share away
abbrev pub after_split : View → View
after_split v = record v { share = v.share - 1 }

-- the new seat of a split: share 1, nothing open, an empty record, and the same `seen` and `over`
abbrev pub new_seat_view : View → View
new_seat_view v =
    record v { share = 1; open_number = None; settled = []; reported = []; skipped = [] }

-- A split that turns the view v of a seat into w, and gives a new seat the view u, changes nothing
-- else: if the rule holds before it, it holds of the same words and the same views of all other
-- seats after it.
abbrev pub SplitKeepsRule : ℕ → View → View → View → Type 0
SplitKeepsRule n v w u =
    (claim_word floor_word settled_word : ℕ) (before after : List View)
    → BoardRule n claim_word floor_word settled_word (before ++ v ∷ after)
    → BoardRule n claim_word floor_word settled_word (before ++ w ∷ (after ++ u ∷ []))

-- a join: records and shares are added, the lesser `seen` is kept, and the seat is over if either
-- was. The second seat has nothing open
abbrev pub after_join : View → View → View
after_join v w = record {
  count = v.count;
  share = v.share + w.share;
  open_number = v.open_number;
  settled = v.settled ++ w.settled;
  reported = v.reported ++ w.reported;
  skipped = v.skipped ++ w.skipped;
  seen = min v.seen w.seen;
  over = v.over || w.over;
}

-- what a join leaves of the second seat: nothing
abbrev pub spent_view : View
spent_view =
    record {
      count = 0;
      share = 0;
      open_number = None;
      settled = [];
      reported = [];
      skipped = [];
      seen = 0;
      over = false;
    }
