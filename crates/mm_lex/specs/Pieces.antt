-- What is known from a stretch of a text alone, in both comment modes.
use Rattle.std.specs.Prelude.{◌≡◌, ℕ, ◌≤◌, Bool, List, [], length, Option, Some, None, MatchOption}
use Rattle.std.specs.Prelude.{if◌then◌else◌}
use Rattle.mm_spec.specs.Limits.{text_limit}
use Rattle.mm_spec.specs.Words.{words_between}
use Rattle.mm_spec.specs.Readings.{Reading, reading}
use Rattle.mm_spec.specs.declared.Word.{Word}
use Rattle.mm_spec.specs.declared.Fault.{Fault}
use Rattle.mm_lex.specs.Stretches.{IsUnbroken, IsBroken}
use Rattle.mm_lex.specs.declared.modes.CommentState.{CommentState}
use Rattle.mm_lex.specs.declared.modes.CommentState.TheVariants.{Nowhere, Before, At}

-- A list of words read in one comment mode: its tokens before the first faulty word, the fault of
-- that word, and the comment that is open there: none, one that began before the words, or one that
-- began at a place among them.
pub record Side : Type 0 where
  pub tokens : List Word
  pub fault : Option Fault
  pub open_comment : CommentState

-- what is between the end of a head and the beginning of a tail, read outside and inside a comment
pub record Between : Type 0 where
  pub head_end : ℕ
  pub tail_start : ℕ
  pub outside : Side
  pub inside : Side

-- a stretch between two places, and what is between its head and its tail, unless it is unbroken
pub record Stretch : Type 0 where
  pub from : ℕ
  pub to : ℕ
  pub between : Option Between

abbrev pub stretch : ℕ → ℕ → Option Between → Stretch
stretch from to between = record { from = from; to = to; between = between }

-- ---- the summary of a stretch

-- the place of the open comment, if the one from before the words began at the place p
abbrev pub resolved : ℕ → CommentState → Option ℕ
resolved p Nowhere = None
resolved p Before = Some p
resolved p (At q) = Some q

-- what a side has read, if the comment from before the words began at the place p
abbrev pub side_reading : ℕ → Side → Reading
side_reading p s =
    record { tokens = s.tokens; fault = s.fault; open_comment = resolved p s.open_comment }

-- The two sides are the readings of the words, outside a comment, and inside one that began
-- anywhere before.
pub record AreReadings (text : List ℕ) (ws : List Word) (outside inside : Side) : Type 0 where
  pub read_outside : (p : ℕ) → reading text None ws ≡ side_reading p outside
  pub read_inside : (p : ℕ) → reading text (Some p) ws ≡ side_reading p inside

-- head and tail of a stretch are known by its white space, and the words between them are read
pub record IsReadBetween (text : List ℕ) (from to : ℕ) (b : Between) : Type 0 where
  pub broken : IsBroken text from to b.head_end b.tail_start
  pub readings : AreReadings text (words_between text b.head_end b.tail_start) b.outside b.inside

-- the summary of the stretch
abbrev pub IsSummary : List ℕ → Stretch → Type 0
IsSummary text s =
    MatchOption s.between (IsUnbroken text s.from s.to) (IsReadBetween text s.from s.to)

-- the stretch is a whole text that isn't too long, and this is its summary
pub record IsWholeText (text : List ℕ) (s : Stretch) : Type 0 where
  pub length_le_limit : length text ≤ text_limit
  pub summary : IsSummary text s
  pub from_is_zero : s.from ≡ 0
  pub to_is_length : s.to ≡ length text

-- ---- what its calls return

abbrev pub head_of : Stretch → Word
head_of s = record { start = s.from; end = elim s.between [ None ↦ s.from | Some b ↦ b.head_end ] }

abbrev pub tail_of : Stretch → Word
tail_of s = record { start = elim s.between [ None ↦ s.to | Some b ↦ b.tail_start ]; end = s.to }

abbrev pub tokens_in_mode : Bool → Stretch → List Word
tokens_in_mode inside s =
    elim s.between [ None ↦ [] | Some b ↦ (if inside then b.inside else b.outside).tokens ]

abbrev pub fault_in_mode : Bool → Stretch → Option Fault
fault_in_mode inside s =
    elim s.between [ None ↦ None | Some b ↦ (if inside then b.inside else b.outside).fault ]
