-- The letters of a proof spell one list of items. (This project's own.)
use Rattle.std.specs.Prelude.{◌≡◌, ◌≢◌, ℕ, List, [], ◌∷◌, codes}
use Rattle.mm_spec.specs.Text.{Token}
use Rattle.mm_spec.specs.Statement.{Statement}
use Rattle.mm_spec.specs.Proof.{reading_faults}
use Rattle.mm_laws.specs.Spelling.{Item, IsCompressed, letters_in, Spells}

-- the words of a compressed proof split into labels and letters in only one way
abbrev pub PartsAreUnique : Type 0
PartsAreUnique =
    (ts labels letters other_labels other_letters : List Token) → IsCompressed ts labels letters
    → IsCompressed ts other_labels other_letters
    → (labels ≡ other_labels) × (letters ≡ other_letters)

-- letters spell at most one list of items
abbrev pub SpellingIsUnique : Type 0
SpellingIsUnique =
    (letters : List ℕ) (items other_items : List Item)
    → Spells letters items → Spells letters other_items → items ≡ other_items

-- the letters of a compressed proof spell a list of items, which isn't empty
pub record IsSpelledOut (ts : List Token) : Type 0 where
  pub labels : List Token
  pub letters : List Token
  pub is_compressed : IsCompressed ts labels letters
  pub items : List Item
  pub items_are_spelled : Spells (letters_in letters) items
  pub has_items : items ≢ []

-- if reading finds no fault in a proof that begins with `(`, its letters spell some items
abbrev pub ProofsAreSpelled : Type 0
ProofsAreSpelled =
    (db : List Statement) (k end : ℕ) (t : Token) (ts : List Token) → t.word ≡ codes "("
    → reading_faults db k end (t ∷ ts) ≡ [] → IsSpelledOut (t ∷ ts)
