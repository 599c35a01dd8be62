-- How the rule and the events apply to an atomic table, whose words are the claim word, the floor
-- word and the settled word.
use Rattle.std.specs.Prelude.{◌≡◌, ℕ, length, slice_index}
use Rattle.atomic_table.specs.Table.{State, Me, Step}
use Rattle.mm_board.specs.declared.views.View.{View}
use Rattle.mm_board.specs.Rule.{BoardRule}

-- the table has three words, and they and the views of its seats meet the rule of a board of n
-- numbers
abbrev pub MeetsRule : ℕ → State (Unit {0}) View → Type 0
MeetsRule n s =
    (length s.words ≡ 3)
    × BoardRule n (slice_index s.words 0) (slice_index s.words 1) (slice_index s.words 2) s.views

-- what a token of the table has: a view, and slots, of which this table has none
abbrev pub TokenState : Type 0
TokenState = Me (Unit {0}) View

-- a step that found x in its word turned the view v into `after v x`, and x was there as `IsWord v
-- x` says
abbrev pub StepTells : (View → ℕ → Type 0) → (View → ℕ → View) → Step (Unit {0}) → TokenState → ℕ
    → TokenState → Type 0
StepTells IsWord after step old x new = (new.0 ≡ after old.0 x) × (new.1 ≡ old.1) × IsWord old.0 x

-- a step that only reads leaves the view as it is
abbrev pub unchanged_view : View → ℕ → View
unchanged_view v x = v
