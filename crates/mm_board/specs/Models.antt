-- What contracts see of a board and of a seat, and what each keeps inside.
use Rattle.std.specs.Prelude.{◌≡◌, ℕ, ◌<◌, ◌≤◌, Bool, Option, List, []}
use Rattle.atomic_table.specs.Seated.{TableId}
use Rattle.mm_board.specs.declared.board.TheConstants.{MOST_NUMBERS, MOST_SEATS}
use Rattle.mm_board.specs.declared.views.View.{View}

-- a board: which one it is, and how many numbers it has
pub record BoardValue : Type 0 where
  pub table : TableId
  pub count : ℕ

-- a seat: of which board it is, and its view
pub record SeatValue : Type 0 where
  pub table : TableId
  pub view : View

-- the seat is of this board
abbrev pub IsSeatOf : BoardValue → SeatValue → Type 0
IsSeatOf board seat = (seat.table ≡ board.table) × (seat.view.count ≡ board.count)

-- A board keeps this of its table: three words, no slot, and the count of numbers as the key.
pub record IsBoardTable (table : TableId) (key count : ℕ) : Type 0 where
  pub three_words : table.words ≡ 3
  pub no_slot : table.slots ≡ 0
  pub key_is : key ≡ count
  pub count_le_most_numbers : count ≤ MOST_NUMBERS

-- the fields that a seat has at run time agree with its view, and its token has no slot
pub record ShowsView (view : View) (slots : List (ℕ × Unit {0})) (share : ℕ)
    (open_number : Option ℕ) (seen : ℕ) (over : Bool) : Type 0 where
  pub share_is : share ≡ view.share
  pub open_is : open_number ≡ view.open_number
  pub seen_is : seen ≡ view.seen
  pub over_is : over ≡ view.over
  pub some_share : 0 < share
  pub share_le_most_seats : share ≤ MOST_SEATS
  pub no_slot : slots ≡ []
