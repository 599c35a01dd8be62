-- What the definitions of a comparison mean. (This project's own.)
use Rattle.std.specs.Prelude.{◌≡◌, ℕ, ◌<◌, Bool, true, false, not, List, [], map, length, Option}
use Rattle.std.specs.Prelude.{All}
use Rattle.std.specs.List.{list_any}
use Rattle.mm_spec.specs.Text.{Bytes}
use Rattle.mm_spec.specs.Statement.{Statement}
use Rattle.mm_spec.specs.Scope.{statement_at}
use Rattle.mm_spec.specs.Derivation.{is_member}
use Rattle.mm_spec.specs.Frame.{formula_at, is_floating, disjoint_at, mandatory_hypotheses}
use Rattle.mm_spec.specs.Frame.{mandatory_pairs}
use Rattle.mm_spec.specs.Assertion.{name_at, is_told}
use Rattle.mm_spec.specs.Citation.{RestsOn}
use Rattle.mm_spec.specs.Output.{columns, theorems}
use Rattle.mm_spec.specs.Request.{Request}
use Rattle.mm_spec.specs.Comparison.{Side, number_of, says_same, is_there, only_in}
use Rattle.mm_spec.specs.Comparison.{AreDifferences, AreOnlyHere, RestsThere, differences}

-- a hypothesis as words: whether it is a `$f`, and its symbols
pub record InWords : Type 0 where
  pub is_float : Bool
  pub words : List Bytes

abbrev pub formula_words : List Statement → ℕ → List Bytes
formula_words db k = map (name_at db) (formula_at db k)

abbrev pub hypothesis_words : List Statement → ℕ → InWords
hypothesis_words db i =
    record {
      is_float = list_any is_floating (statement_at db i);
      words = formula_words db i;
    }

-- assertion k of the one and assertion j of the other have the same hypotheses in the same order,
-- the same formula, and what has to be distinct in the one is distinct in the other, all by words
pub record AreSameInWords (db : List Statement) (k : ℕ) (other : List Statement)
    (j : ℕ) : Type 0 where
  pub hypotheses : map (hypothesis_words db) (mandatory_hypotheses db k)
      ≡ map (hypothesis_words other) (mandatory_hypotheses other j)
  pub formula : formula_words db k ≡ formula_words other j
  pub distinct : All (λ p. disjoint_at other j (number_of other (name_at db p.low))
      (number_of other (name_at db p.high)) ≡ true) (mandatory_pairs db k)
  pub distinct_back : All (λ p. disjoint_at db k (number_of db (name_at other p.low))
      (number_of db (name_at other p.high)) ≡ true) (mandatory_pairs other j)

-- assertions that say the same are the same in words
abbrev pub SayTheSameInWords : Type 0
SayTheSameInWords =
    (db : List Statement) (k : ℕ) (other : List Statement) (j : ℕ)
    → says_same db k other j ≡ true → AreSameInWords db k other j

-- a database compared with itself has nothing of its own
abbrev pub HasAllOfItself : Type 0
HasAllOfItself = (s : Side) (only : Option Bytes) → only_in s only s ≡ []

-- no theorem rests on anything on which it doesn't rest in the same database
abbrev pub RestsOnNothingMore : Type 0
RestsOnNothingMore =
    (request : Request) (s : Side) (n : ℕ) (list : List ℕ)
    → is_member (theorems s.statements) n ≡ true → AreOnlyHere request s n s list → list ≡ []

-- each assertion of the one, or each with the typecode if one is chosen, is either in the other or
-- listed
abbrev pub IsThereOrListed : Type 0
IsThereOrListed =
    (s t : Side) (only : Option Bytes) (k : ℕ)
    → k < length s.statements → is_told s.statements only k ≡ true
    → is_member (only_in s only t) k ≡ not (is_there s k t)

-- with the texts exchanged, `new` and `gone` are exchanged, and `gained` and `lost`
abbrev pub ExchangedTextsExchangeSections : Type 0
ExchangedTextsExchangeSections =
    (request : Request) (old new : Side) (bytes : List ℕ)
    → AreDifferences request old new bytes
    → (own : List ℕ) × (gone : List ℕ) × (gained : List ℕ) × (lost : List ℕ)
    × (bytes ≡ differences own gone gained lost)
    × AreDifferences request new old (differences gone own lost gained)

-- if an axiom isn't among those that a theorem gained, and in the other database no theorem with
-- the theorem's label rests on that axiom, then the theorem doesn't rest on it
abbrev pub RestsOnNothingThatIsNotGained : Type 0
RestsOnNothingThatIsNotGained =
    (request : Request) (old new : Side) (n a : ℕ) (gained : List ℕ)
    → AreOnlyHere request new n old gained
    → is_member (columns new.statements request.only) a ≡ true → is_member gained a ≡ false
    → ¬ RestsThere (RestsOn old.statements request.essential) new n a old
    → ¬ RestsOn new.statements request.essential n a
