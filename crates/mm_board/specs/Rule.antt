-- The rule of a board of n numbers. It holds between any two steps, of three words and of the views
-- of all seats: the seats in use, those that were dropped, and those that were joined to another,
-- which are spent: share 0 and an empty record.
use Rattle.std.specs.Prelude.{◌≡◌, ℕ, ◌+◌, ◌≤◌, ◌<◌, ◌⊎◌, min, nat_lt, true, List, [], ◌∷◌, length}
use Rattle.std.specs.Prelude.{if◌then◌else◌}
use mathlib.Core.Option.{some}
use lib.ListN.{get_elem?}
use Rattle.mm_board.specs.declared.board.TheConstants.{MOST_SEATS}
use Rattle.mm_board.specs.declared.views.View.{View}
use Rattle.mm_board.specs.Records.{times_in, times_recorded, record_length, HasEmptyRecord}

-- f of each view, added up
abbrev pub total : (View → ℕ) → List View → ℕ
total f [] = 0
total f (v ∷ vs) = f v + total f vs

-- how often x occurs as reported, over the records of all seats
abbrev pub times_reported : List View → ℕ → ℕ
times_reported views x = total (λ v. times_in x v.reported) views

-- how often x occurs as skipped, over the records of all seats
abbrev pub times_skipped : List View → ℕ → ℕ
times_skipped views x = total (λ v. times_in x v.skipped) views

-- how many numbers are settled, over the records of all seats
abbrev pub settled_count : List View → ℕ
settled_count views = total (λ v. length v.settled) views

-- 1 if x is below n, otherwise 0
abbrev pub once_below : ℕ → ℕ → ℕ
once_below x n = if nat_lt x n then 1 else 0

-- the share of the seat if it is over, otherwise 0
abbrev pub over_share : View → ℕ
over_share v = if v.over then v.share else 0

-- n, or a number that some seat reported
abbrev pub IsCountOrReported : ℕ → List View → ℕ → Type 0
IsCountOrReported n views x = (x ≡ n) ⊎ (0 < times_reported views x)

-- the least reported number, or n if there is none
pub record IsLeastReported (n : ℕ) (views : List View) (x : ℕ) : Type 0 where
  pub le_count : x ≤ n
  pub le_each_reported : (y : ℕ) → 0 < times_reported views y → x ≤ y
  pub is_count_or_reported : IsCountOrReported n views x

-- some seat has this view
abbrev pub IsSeatView : List View → View → Type 0
IsSeatView views v = (seat : ℕ) × (get_elem? views seat ≡ some v)

-- what the rule requires of one seat, at the claim word and the floor word
pub record SeatRule (n : ℕ) (views : List View) (claim_word floor_word : ℕ)
    (v : View) : Type 0 where
  pub count_is_n : 0 < v.share → v.count ≡ n
  -- what it has seen is at least the floor, and is n or reported
  pub floor_le_seen : 0 < v.share → floor_word ≤ v.seen
  pub seen_is_count_or_reported : 0 < v.share → IsCountOrReported n views v.seen
  -- it is over only if the claim word is above n
  pub over_only_past_count : v.over ≡ true → n < claim_word
  pub spent_has_empty_record : v.share ≡ 0 → HasEmptyRecord v

-- the rule, of the claim word, the floor word, the settled word and the views of all seats
pub record BoardRule (n claim_word floor_word settled_word : ℕ) (views : List View) : Type 0 where
  -- each number below both the claim word and n is in one record, once, and no other number is in
  -- any
  pub each_recorded_once : (x : ℕ) → total (times_recorded x) views
      ≡ once_below x (min claim_word n)
  -- all records together have that many numbers: it follows from `each_recorded_once`, but stands
  -- here since the proof would have to count the numbers
  pub record_lengths_are_claimed : total record_length views ≡ min claim_word n
  -- the floor word is the least reported number, or n
  pub floor_is_least_reported : IsLeastReported n views floor_word
  -- the settled word is the number of settled numbers
  pub settled_word_is_count : settled_word ≡ settled_count views
  -- each skipped number is above the floor
  pub skipped_gt_floor : (x : ℕ) → 0 < times_skipped views x → floor_word < x
  pub seats_obey_rule : (seat : ℕ) (v : View) → get_elem? views seat ≡ some v
      → SeatRule n views claim_word floor_word v
  -- the shares add up to all seats, and the claim word is at most n plus the shares of the seats
  -- that are over: no word wraps
  pub shares_are_most_seats : total (λ v. v.share) views ≡ MOST_SEATS
  pub claim_word_is_bounded : claim_word ≤ n + total over_share views
