-- What the parts of a piece stand for.
use Rattle.std.specs.Prelude.{ℕ, List, ◌++◌}
use Rattle.mm_spec.specs.declared.Word.{Word}
use Rattle.mm_lex.specs.Pieces.{AreReadings, Between, Side}
use Rattle.mm_lex.specs.Stretches.{joined_word}
use Rattle.mm_lex.specs.declared.modes.CommentState.{CommentState}
use Rattle.mm_lex.specs.declared.modes.CommentState.TheVariants.{Nowhere, Before, At}
use Rattle.mm_lex.specs.declared.modes.ModeReading.{ModeReading}
use Rattle.mm_lex.specs.declared.pieces.Between.{Between as LexedBetween}

abbrev pub side : {A : Type 0} → ModeReading A → Side
side mode =
    record { tokens = mode.tokens.items; fault = mode.fault; open_comment = mode.open_comment }

abbrev pub between_of : {A : Type 0} → LexedBetween A → Between
between_of between =
    record {
      head_end = between.head_end;
      tail_start = between.tail_start;
      outside = side between.outside;
      inside = side between.inside;
    }

-- Between the ends of two adjacent stretches there is what is between those of each, and the word
-- that they join.
abbrev pub IsJoined : List ℕ → (before after joined : Between) → Type 0
IsJoined text before after joined =
    (ws us : List Word)
    → AreReadings text ws before.outside before.inside
    → AreReadings text us after.outside after.inside
    → AreReadings text (ws ++ (joined_word before.tail_start after.head_end ++ us)) joined.outside
    joined.inside

-- the comment that is open after two lists of words: `first` says which is open after the first
-- list, the other argument which is open after the second list alone
abbrev pub carried : CommentState → CommentState → CommentState
carried first Nowhere = Nowhere
carried first Before = first
carried first (At q) = At q
