-- The words that statements have, and those that they type.
use Rattle.std.specs.Prelude.{ℕ, Bool, List, map, flat_map}
use Rattle.mm_spec.specs.Text.{Bytes, is_in}
use Rattle.mm_spec.specs.Statement.{Statement}
use Rattle.mm_spec.specs.Scope.{statement_at, typings_of}

-- the variables that a statement types: that of a `$f`
abbrev pub typed_words : Statement → List Bytes
typed_words s = map (λ t. t.variable) (typings_of s)

module _ (db : List Statement) (f : Statement → List Bytes) (w : Bytes) where
  -- whether statement j has the word among those that f gives
  abbrev pub has_word : ℕ → Bool
  has_word j = is_in w (flat_map f (statement_at db j))
