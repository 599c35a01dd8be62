-- What one database has and another one hasn't: its assertions, and what its theorems rest on. What
-- an assertion says are its mandatory hypotheses in order, its formula, and which of its variables
-- have to be distinct (Metamath book, "Basic Syntax"). Labels of hypotheses, places, proofs and
-- dummy variables are no part of it. (When assertions are the same is this project's own.)
use Rattle.std.specs.Prelude.{◌≡◌, ℕ, Bool, true, ◌&&◌, not, List, [], ◌∷◌, ◌++◌, map, length}
use Rattle.std.specs.Prelude.{bytes_eq, codes, flat_map, Option, IsTrue, Decides, ◌⊎◌}
use Rattle.std.specs.Bool.{beq}
use Rattle.std.specs.Cmp.Lexicographic.{pointwise}
use Rattle.std.specs.List.{list_any, list_all, range_with_len, filter, AllZip}
use Rattle.std.specs.List.Sorted.{IsStrictlyIncreasing}
use Rattle.mm_spec.specs.Text.{Bytes}
use Rattle.mm_spec.specs.declared.Fault.{Fault}
use Rattle.mm_spec.specs.Statement.{Statement}
use Rattle.mm_spec.specs.Opened.{open_as_axioms}
use Rattle.mm_spec.specs.Lexed.{lexed_of}
use Rattle.mm_spec.specs.Scope.{statement_at}
use Rattle.mm_spec.specs.Derivation.{Pair, is_member}
use Rattle.mm_spec.specs.Frame.{symbol_names, index_of, formula_at, is_floating, disjoint_at}
use Rattle.mm_spec.specs.Frame.{mandatory_hypotheses, mandatory_pairs}
use Rattle.mm_spec.specs.Citation.{is_assertion, RestsOn}
use Rattle.mm_spec.specs.Assertion.{name_at, label_at, has_label, is_axiom_at, is_told}
use Rattle.mm_spec.specs.Assertion.{assertion_line}
use Rattle.mm_spec.specs.Report.{CitingRow, line, head_line, section, citation_line, refusal}
use Rattle.mm_spec.specs.Request.{Request}
use Rattle.mm_spec.specs.Output.{FirstFault, HasNoFault, is_theorem_at, is_open_at, theorems}
use Rattle.mm_spec.specs.Output.{columns}

-- ---- what assertions say

-- the number of the symbol with a name, or the count of symbols if none has it
abbrev pub number_of : List Statement → Bytes → ℕ
number_of db name = index_of name (symbol_names db)

module _ (db other : List Statement) where
  -- whether symbol x of the one has the name of symbol y of the other
  abbrev pub has_same_name : ℕ → ℕ → Bool
  has_same_name x y = bytes_eq (name_at db x) (name_at other y)

  -- whether two formulas are the same word for word
  abbrev pub are_same_symbols : List ℕ → List ℕ → Bool
  are_same_symbols xs ys = pointwise has_same_name xs ys

  -- whether two hypotheses are both `$f` or both `$e`, and are the same word for word
  abbrev pub is_same_hypothesis : ℕ → ℕ → Bool
  is_same_hypothesis i j =
      beq (list_any is_floating (statement_at db i)) (list_any is_floating (statement_at other j))
      && are_same_symbols (formula_at db i) (formula_at other j)

  -- whether the variables that a pair names are distinct at statement j of the other
  abbrev pub is_distinct_there : ℕ → Pair → Bool
  is_distinct_there j p =
      disjoint_at other j (number_of other (name_at db p.low)) (number_of other (name_at db p.high))

  -- whether each pair that assertion k requires to be distinct is distinct at j of the other
  abbrev pub are_distinct_there : ℕ → ℕ → Bool
  are_distinct_there k j = list_all (is_distinct_there j) (mandatory_pairs db k)

-- whether assertion k of the one and assertion j of the other have the same hypotheses and formula
abbrev pub has_same_formulas : List Statement → ℕ → List Statement → ℕ → Bool
has_same_formulas db k other j =
    pointwise (is_same_hypothesis db other) (mandatory_hypotheses db k)
    (mandatory_hypotheses other j)
    && are_same_symbols db other (formula_at db k) (formula_at other j)

-- whether assertion k of the one and assertion j of the other say the same
abbrev pub says_same : List Statement → ℕ → List Statement → ℕ → Bool
says_same db k other j =
    has_same_formulas db k other j
    && (are_distinct_there db other k j && are_distinct_there other db j k)

-- ---- the same assertion of two databases

-- a database as it is compared: its statements as they count, and which of them are open theorems
-- that count as axioms
pub record Side : Type 0 where
  pub statements : List Statement
  pub is_open : ℕ → Bool

abbrev pub side : List Statement → (ℕ → Bool) → Side
side db is_open = record { statements = db; is_open = is_open }

-- whether both are axioms, or both open theorems that count as axioms, or both theorems
abbrev pub is_same_kind : Side → ℕ → Side → ℕ → Bool
is_same_kind s k t j =
    beq (is_axiom_at s.statements k) (is_axiom_at t.statements j) && beq (s.is_open k) (t.is_open j)

-- whether assertion j of t is assertion k of s: it has its label, is of its kind, and says the same
abbrev pub is_same : Side → ℕ → Side → ℕ → Bool
is_same s k t j =
    has_label t.statements (label_at s.statements k) j
    && (list_any is_assertion (statement_at t.statements j)
    && (is_same_kind s k t j && says_same s.statements k t.statements j))

-- whether t has assertion k of s
abbrev pub is_there : Side → ℕ → Side → Bool
is_there s k t = list_any (is_same s k t) (range_with_len 0 (length t.statements))

-- whether statement k of s is an assertion that t hasn't, and has the typecode if one is chosen
abbrev pub is_only_in : Side → Option Bytes → Side → ℕ → Bool
is_only_in s only t k = is_told s.statements only k && not (is_there s k t)

-- the assertions of s that t hasn't, in file order
abbrev pub only_in : Side → Option Bytes → Side → List ℕ
only_in s only t = filter (is_only_in s only t) (range_with_len 0 (length s.statements))

-- the lines that tell these
abbrev pub lines_only_in : Side → Option Bytes → Side → List ℕ
lines_only_in s only t =
    flat_map (λ k. assertion_line s.statements (s.is_open k) k) (only_in s only t)

-- ---- what theorems rest on

-- t has a theorem with the label of theorem n of s that rests there on axiom a of s, for any
-- relation as resting
abbrev pub RestsThere : (Rests : ℕ → ℕ → Type 0) → Side → ℕ → ℕ → Side → Type 0
RestsThere Rests s n a t =
    (m : ℕ) × (b : ℕ) × IsTrue (is_theorem_at t.statements m)
    × IsTrue (has_label t.statements (label_at s.statements n) m) × IsTrue (is_same s a t b)
    × Rests m b

-- the list has exactly the axioms, or those with the typecode if one is chosen, on which theorem n
-- of s rests and no theorem of t with its label does, in file order
pub record AreShifted (Rests RestsInOther : ℕ → ℕ → Type 0) (only : Option Bytes) (s t : Side)
    (n : ℕ) (list : List ℕ) : Type 0 where
  pub rising : IsStrictlyIncreasing list
  pub shifted : (a : ℕ)
      → Decides (is_member list a)
      (IsTrue (is_member (columns s.statements only) a) × Rests n a
      × (¬ RestsThere RestsInOther s n a t))

-- the same by the citations of both
abbrev pub AreOnlyHere : Request → Side → ℕ → Side → List ℕ → Type 0
AreOnlyHere request s n t list =
    AreShifted (RestsOn s.statements request.essential) (RestsOn t.statements request.essential)
    request.only s t n list

-- r is the row of theorem n of s: its label, and the labels of these axioms
abbrev pub IsShiftRowOf : Request → Side → Side → ℕ → CitingRow → Type 0
IsShiftRowOf request s t n r =
    (r.label ≡ label_at s.statements n)
    × ((list : List ℕ) × AreOnlyHere request s n t list
    × (r.cited ≡ map (label_at s.statements) list))

-- the line of a row, if it has some axiom
abbrev pub shift_line : CitingRow → List ℕ
shift_line r = elim r.cited [ [] ↦ [] | l ∷ ls ↦ citation_line r ]

-- the bytes are the lines of the theorems of s that rest on what they don't rest on in t
pub record AreShiftLines (request : Request) (s t : Side) (bytes : List ℕ) : Type 0 where
  pub rows : List CitingRow
  pub are_rows : AllZip (IsShiftRowOf request s t) (theorems s.statements) rows
  pub bytes_are : bytes ≡ flat_map shift_line rows

-- ---- what is written

-- the differences: the assertions that only NEW or only OLD has, and what theorems rest on in NEW
-- and not in OLD, and the other way round
abbrev pub differences : (new gone gained lost : List ℕ) → List ℕ
differences new gone gained lost =
    head_line (codes "mmdepend-differences") 1 ++ section true (codes "new") new
    ++ section true (codes "gone") gone ++ section true (codes "gained") gained
    ++ section true (codes "lost") lost ++ line (codes "end")

-- the differences between two databases, with the statements as they count
abbrev pub AreDifferences : Request → Side → Side → List ℕ → Type 0
AreDifferences request old new bytes =
    (gained : List ℕ) × (lost : List ℕ) × AreShiftLines request new old gained
    × AreShiftLines request old new lost
    × (bytes ≡ differences (lines_only_in new request.only old)
    (lines_only_in old request.only new) gained lost)

-- what was read of a text, as it counts
abbrev pub counted : List Statement → Request → Side
counted db request =
    side (open_as_axioms request.with_open db) (is_open_at db request.with_open)

-- The output for two texts: the refusal of OLD for its first fault, after the word `old`; or if it
-- has none, that of NEW after the word `new`; or if neither has a fault, the differences.
abbrev pub IsComparison : (old new : List ℕ) → Request → List ℕ → Type 0
IsComparison old new request bytes =
    ((f : Fault) × FirstFault (length old) (lexed_of old) request.with_open f
    × (bytes ≡ codes "old " ++ refusal old f))
    ⊎ ((db : List Statement) × HasNoFault (length old) (lexed_of old) request.with_open db
    × (((f : Fault) × FirstFault (length new) (lexed_of new) request.with_open f
    × (bytes ≡ codes "new " ++ refusal new f))
    ⊎ ((other : List Statement) × HasNoFault (length new) (lexed_of new) request.with_open other
    × AreDifferences request (counted db request) (counted other request) bytes)))
