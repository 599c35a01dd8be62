-- What the lines of the statements tell: assertions, as words. (This project's own.)
use Rattle.std.specs.Prelude.{◌≡◌, ℕ, ◌<◌, ◌^◌, Bool, false, ◌||◌, ◌==◌, List, [], ◌∷◌, ◌++◌, map}
use Rattle.std.specs.Prelude.{length, Option, codes}
use Rattle.std.specs.List.{list_any, filter, range_with_len}
use Rattle.mm_spec.specs.Text.{Bytes, has_dollar}
use Rattle.mm_spec.specs.Statement.{Statement}
use Rattle.mm_spec.specs.Opened.{open_as_axioms}
use Rattle.mm_spec.specs.Lexed.{lexed_of}
use Rattle.mm_spec.specs.Derivation.{Pair}
use Rattle.mm_spec.specs.Frame.{formula_at, mandatory_hypotheses, mandatory_pairs}
use Rattle.mm_spec.specs.Assertion.{label_at, name_at, start_place, end_place, is_axiom_at, is_told}
use Rattle.mm_spec.specs.Assertion.{hypothesis_keyword, kind_letter, kind_keyword}
use Rattle.mm_spec.specs.Assertion.{dummies, dummy_pairs, statement_lines}
use Rattle.mm_spec.specs.Output.{IsRead}
use Rattle.mm_spec.specs.declared.Fault.{Fault}

-- a keyword, and the words after it
pub record Part : Type 0 where
  pub keyword : Bytes
  pub words : List Bytes

-- an assertion as words
pub record InWords : Type 0 where
  pub label : Bytes
  pub kind : ℕ
  -- the place of its label, and that after its `$.`
  pub start : ℕ
  pub end : ℕ
  -- of each mandatory hypothesis its keyword, and its label and symbols
  pub hypotheses : List Part
  -- the mandatory pairs, the dummy variables if there are any, and the pairs with these
  pub conditions : List Part
  -- its keyword and its symbols
  pub formula : Part

abbrev pub hypothesis_part : List Statement → ℕ → Part
hypothesis_part db j =
    record {
      keyword = hypothesis_keyword db j;
      words = label_at db j ∷ map (name_at db) (formula_at db j);
    }

abbrev pub pair_part : List Statement → Pair → Part
pair_part db p =
    record { keyword = codes "$d"; words = name_at db p.low ∷ name_at db p.high ∷ [] }

-- the dummy variables as one part, or nothing if there are none
abbrev pub dummies_part : List Statement → List ℕ → List Part
dummies_part db [] = []
dummies_part db (x ∷ xs) =
    record { keyword = codes "$v"; words = map (name_at db) (x ∷ xs) } ∷ []

abbrev pub formula_part : List Statement → (is_open : Bool) → ℕ → Part
formula_part db is_open k =
    record {
      keyword = kind_keyword is_open (is_axiom_at db k);
      words = map (name_at db) (formula_at db k);
    }

-- assertion k as words
abbrev pub in_words : List Statement → (is_open : Bool) → ℕ → InWords
in_words db is_open k =
    record {
      label = label_at db k;
      kind = kind_letter is_open (is_axiom_at db k);
      start = start_place db k;
      end = end_place db k;
      hypotheses = map (hypothesis_part db) (mandatory_hypotheses db k);
      conditions = map (pair_part db) (mandatory_pairs db k) ++ dummies_part db (dummies db k)
          ++ map (pair_part db) (dummy_pairs db k);
      formula = formula_part db is_open k;
    }

-- the assertions that the lines tell
abbrev pub assertions_told : List Statement → (is_open : ℕ → Bool) → Option Bytes → List InWords
assertions_told db is_open only =
    map (λ k. in_words db (is_open k) k) (filter (is_told db only) (range_with_len 0 (length db)))

-- whether a byte is a line feed or a space
abbrev pub is_gap : ℕ → Bool
is_gap b = b == 10 || b == 32

-- whether a byte is a `:`
abbrev pub is_colon : ℕ → Bool
is_colon b = b == 58

-- a word within a line: it has no line feed, no space and no `$`
pub record IsLineWord (w : Bytes) : Type 0 where
  pub no_gap : list_any is_gap w ≡ false
  pub no_dollar : has_dollar w ≡ false

-- labels and names of symbols are such words, labels have no `:`, and places have 64 bits
pub record AreSpelled (db : List Statement) : Type 0 where
  pub labels : (j : ℕ) → IsLineWord (label_at db j)
  pub labels_without_colon : (j : ℕ) → list_any is_colon (label_at db j) ≡ false
  pub names : (x : ℕ) → IsLineWord (name_at db x)
  pub places : (k : ℕ) → (start_place db k < 2 ^ 64) × (end_place db k < 2 ^ 64)

-- databases with the same lines have the same assertions
abbrev pub LinesTellAssertions : Type 0
LinesTellAssertions =
    (db other : List Statement) (is_open is_open_in_other : ℕ → Bool)
    (only only_of_other : Option Bytes)
    → AreSpelled db → AreSpelled other
    → statement_lines db is_open only ≡ statement_lines other is_open_in_other only_of_other
    → assertions_told db is_open only ≡ assertions_told other is_open_in_other only_of_other

-- what is read of a text is spelled so, as it counts with the flag and without it
abbrev pub ReadIsSpelled : Type 0
ReadIsSpelled =
    (text : List ℕ) (db : List Statement) (fault : Option Fault)
    → IsRead (length text) (lexed_of text) db fault
    → (with_open : Bool) → AreSpelled (open_as_axioms with_open db)
