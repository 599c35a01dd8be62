-- What the letters of a compressed proof spell, and which steps its numbers name, as the book says
-- it: by what is where, without a reading from left to right (Metamath book, "Compressed Proofs").
use Rattle.std.specs.Prelude.{◌≡◌, ◌≢◌, ℕ, ◌+◌, ◌*◌, ◌^◌, ◌≤◌, Bool, true, false, List, [], ◌∷◌}
use Rattle.std.specs.Prelude.{◌++◌, length, Some, slice_get, flat_map, count_by, ◌⊎◌, codes, IsTrue}
use Rattle.std.specs.List.{list_any, AllByRecursion}
use Rattle.mm_spec.specs.Text.{Bytes, Token}
use Rattle.mm_spec.specs.Statement.{Statement}
use Rattle.mm_spec.specs.Scope.{active_at, statement_at}
use Rattle.mm_spec.specs.Frame.{mandatory_hypotheses}
use Rattle.mm_spec.specs.NormalProof.{is_labelled}
use Rattle.mm_spec.specs.CompressedProof.{mark_letter}
use Rattle.mm_spec.specs.Steps.{Step, label, marked}

-- ---- letters

-- what letters spell: a number, or a mark, which is a `Z`
pub data Item : Type 0 where
  number : ℕ → Item
  mark : Item

-- the letters `U` (85) to `Y` (89) are the earlier digits 1 to 5
pub record IsEarlyDigit (letter digit : ℕ) : Type 0 where
  pub digit_ge_1 : 1 ≤ digit
  pub digit_le_5 : digit ≤ 5
  pub letter_is : letter ≡ 84 + digit

-- the letters `A` (65) to `T` (84) are the last digits 1 to 20
pub record IsLastDigit (letter digit : ℕ) : Type 0 where
  pub digit_ge_1 : 1 ≤ digit
  pub digit_le_20 : digit ≤ 20
  pub letter_is : letter ≡ 64 + digit

-- earlier digits in base 5: each is worth its own value times 5 to the power of the number of
-- letters after it
abbrev pub AreEarlyDigits : List ℕ → ℕ → Type 0
AreEarlyDigits [] n = n ≡ 0
AreEarlyDigits (letter ∷ letters) n =
    (digit : ℕ) × (later_value : ℕ) × IsEarlyDigit letter digit × AreEarlyDigits letters later_value
    × (n ≡ digit * 5 ^ length letters + later_value)

-- the letters of a number: any number of earlier digits, then a last one; the value is that of the
-- earlier digits times 20, plus the last digit
pub record AreLettersOf (letters : List ℕ) (n : ℕ) : Type 0 where
  pub early_letters : List ℕ
  pub last_letter : ℕ
  pub letters_are : letters ≡ early_letters ++ last_letter ∷ []
  pub early_value : ℕ
  pub last_digit : ℕ
  pub are_early_digits : AreEarlyDigits early_letters early_value
  pub is_last_digit : IsLastDigit last_letter last_digit
  pub value_is : n ≡ early_value * 20 + last_digit

-- the letters of an item
abbrev pub IsSpelled : List ℕ → Item → Type 0
IsSpelled letters (number n) = AreLettersOf letters n
IsSpelled letters mark = letters ≡ mark_letter ∷ []

-- the letters are those of the items, concatenated
abbrev pub Spells : List ℕ → List Item → Type 0
Spells letters [] = letters ≡ []
Spells letters (item ∷ items) =
    (item_letters : List ℕ) × (later : List ℕ) × (letters ≡ item_letters ++ later)
    × IsSpelled item_letters item × Spells later items

-- the letters of the words, whatever white space is between the words
abbrev pub letters_in : List Token → List ℕ
letters_in ts = flat_map (λ t. t.word) ts

-- the words of a compressed proof: `(`, labels, `)`, and letters
pub record IsCompressed (ts labels letters : List Token) : Type 0 where
  pub opening : Token
  pub closing : Token
  pub words_are : ts ≡ opening ∷ (labels ++ closing ∷ letters)
  pub opening_is : opening.word ≡ codes "("
  pub closing_is : closing.word ≡ codes ")"
  pub no_label_closes : AllByRecursion (λ t. t.word ≢ codes ")") labels

-- ---- steps

abbrev pub is_number : Item → Bool
is_number (number n) = true
is_number mark = false

abbrev pub is_mark_item : Item → Bool
is_mark_item (number n) = false
is_mark_item mark = true

-- Mark k marks step i, both counted from 0: before it are k marks and the steps 0 to i.
pub record IsMark (items : List Item) (k i : ℕ) : Type 0 where
  pub items_before : List Item
  pub items_after : List Item
  pub items_are : items ≡ items_before ++ mark ∷ items_after
  pub mark_count_is : count_by is_mark_item items_before ≡ k
  pub number_count_is : count_by is_number items_before ≡ i + 1

-- What a number names, by the items before it: 1 to m the m mandatory hypotheses, m + 1 to m + n
-- the n labels in brackets, and m + n + 1 onwards the subproofs of the steps that are marked.
abbrev pub NamesStep : List ℕ → List ℕ → List Item → ℕ → Step → Type 0
NamesStep hypotheses labels items_before n (label j) =
    ((i : ℕ) × (n ≡ i + 1) × (slice_get hypotheses i ≡ Some j))
    ⊎ ((i : ℕ) × (n ≡ length hypotheses + (i + 1)) × (slice_get labels i ≡ Some j))
NamesStep hypotheses labels items_before n (marked i) =
    (k : ℕ) × (n ≡ length hypotheses + length labels + (k + 1)) × IsMark items_before k i

-- There are as many steps as numbers. The number with i numbers before it is step i, counted from
-- 0: the step is what it names.
pub record AreSteps (hypotheses labels : List ℕ) (items : List Item)
    (steps : List Step) : Type 0 where
  pub step_count_is : length steps ≡ count_by is_number items
  pub each_is_named : (items_before items_after : List Item) (n : ℕ)
      → items ≡ items_before ++ number n ∷ items_after
      → (s : Step) × (slice_get steps (count_by is_number items_before) ≡ Some s)
      × NamesStep hypotheses labels items_before n s

-- j is the only statement that is active at k and has the label
pub record IsUsable (db : List Statement) (k : ℕ) (w : Bytes) (j : ℕ) : Type 0 where
  pub statement_is_active : IsTrue (active_at db j k)
  pub statement_has_label : IsTrue (list_any (is_labelled w) (statement_at db j))
  pub no_other_is_usable : (i : ℕ) → IsTrue (active_at db i k)
      → IsTrue (list_any (is_labelled w) (statement_at db i)) → i ≡ j

-- ---- what is well formed

-- each number is at most `label_count`, the number of hypotheses and labels, plus the number of the
-- marks before it
abbrev pub NumbersNameSteps : ℕ → List Item → Type 0
NumbersNameSteps label_count items =
    (items_before items_after : List Item) (n : ℕ) → items ≡ items_before ++ number n ∷ items_after
    → n ≤ label_count + count_by is_mark_item items_before

-- before each mark there is a number
abbrev pub MarksFollowNumbers : List Item → Type 0
MarksFollowNumbers items =
    (items_before items_after : List Item) → items ≡ items_before ++ mark ∷ items_after
    → 1 ≤ count_by is_number items_before

-- a well-formed compressed proof
pub record IsWellSpelled (db : List Statement) (k : ℕ) (ts : List Token) : Type 0 where
  pub labels : List Token
  pub letters : List Token
  pub is_compressed : IsCompressed ts labels letters
  pub labels_are_usable : AllByRecursion (λ t. (j : ℕ) × IsUsable db k t.word j) labels
  pub items : List Item
  pub items_are_spelled : Spells (letters_in letters) items
  pub has_items : items ≢ []
  pub numbers_name_steps : NumbersNameSteps (length (mandatory_hypotheses db k) + length labels)
      items
  pub marks_follow_numbers : MarksFollowNumbers items
