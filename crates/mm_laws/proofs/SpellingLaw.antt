-- Letters spell one list of items at most, and those of a proof without reading faults spell one.
use Rattle.std.proofs.Common.{◌≡◌, ◌≢◌, ℕ, suc, ◌+◌, ◌-◌, ◌*◌, ◌^◌, ◌<◌, true, false, ◌⊎◌, inl, inr}
use Rattle.std.proofs.Common.{List, [], ◌∷◌, ◌++◌, map, length, fold, flat_map, Option, Some, None}
use Rattle.std.proofs.Common.{nat_le, bytes_eq, codes, refl, sym, ap, ap₂, ◌∙◌, subst, arith}
use Rattle.std.proofs.Common.{leb-true, append_assoc, length-append, rules}
use Rattle.std.specs.List.{AllByRecursion}
use Rattle.std.proofs.Math.Nat.{pow-succ'}
use Rattle.std.proofs.lemmas.Bool.{and_parts, cases_Bool}
use Rattle.std.proofs.lemmas.Bool.Decides.{not_from_Decides}
use Rattle.std.proofs.lemmas.List.{map-append}
use Rattle.std.proofs.lemmas.Option.{same_Some}
use Rattle.std.proofs.lemmas.Slice.Eq.{bytes_eq-Decides}
use Rattle.std.proofs.lemmas.Grind.{common_steps}
use Rattle.mm_spec.specs.Text.{Bytes, Token, fault}
use Rattle.mm_spec.specs.declared.Fault.{Fault}
use Rattle.mm_spec.specs.Statement.{Statement}
use Rattle.mm_spec.specs.Frame.{mandatory_hypotheses}
use Rattle.mm_spec.specs.NormalProof.{proof_label_faults}
use Rattle.mm_spec.specs.CompressedProof.{bracketed, with_label, Letter, letters_from, letters_of}
use Rattle.mm_spec.specs.CompressedProof.{Group, is_early_letter, is_last_letter, groups, value}
use Rattle.mm_spec.specs.CompressedProof.{letter_faults, compressed_faults, compressed_steps}
use Rattle.mm_spec.specs.Proof.{reading_faults, steps}
use Rattle.mm_laws.specs.Spelling.{Item, number, mark, IsEarlyDigit, IsLastDigit, AreEarlyDigits}
use Rattle.mm_laws.specs.Spelling.{AreLettersOf, IsSpelled, Spells, letters_in, IsCompressed}
use Rattle.mm_laws.specs.Laws.Letters.{PartsAreUnique, SpellingIsUnique, ProofsAreSpelled}
use Rattle.mm_spec.specs.declared.Code.TheVariants.{OpenBrackets}
use Rattle.mm_spec.proofs.FindsLaw.{equal_bytes_equal_words}
use Rattle.mm_spec.proofs.GroupsLaw.{AreFaultless, nil_if_not_positive, groups_are_faultless}
use Rattle.mm_spec.proofs.FaultlessLaw.{both_are_empty}

-- ---- one spelling

digit_unique : (b c d : ℕ) → IsEarlyDigit b c → IsEarlyDigit b d → c ≡ d
digit_unique b c d is_c is_d = omega arith

last_unique : (b c d : ℕ) → IsLastDigit b c → IsLastDigit b d → c ≡ d
last_unique b c d is_c is_d = omega arith

early_unique : (bs : List ℕ) (m n : ℕ) → AreEarlyDigits bs m → AreEarlyDigits bs n → m ≡ n
early_unique [] m n are_m are_n = are_m ∙ sym are_n
early_unique (b ∷ bs) m n are_m are_n =
    grind (arith, common_steps, digit_unique, (early_unique bs are_m.1 are_n.1 are_m.3 are_n.3))

-- what ends an item is no earlier digit
abbrev pub EndsItem : ℕ → Type 0
EndsItem b = (b < 85) ⊎ (89 < b)

pub no_early : (b d : ℕ) → EndsItem b → IsEarlyDigit b d → ⊥
no_early b d ends_item is_early_digit = omega arith

pub last_digit_ends : (b d : ℕ) → IsLastDigit b d → EndsItem b
last_digit_ends b d is_last_digit = inl (omega arith)

-- the letters of an item: earlier digits and what ends it
record IsItemLetters (letters : List ℕ) : Type 0 where
  pub early_letters : List ℕ
  pub last_letter : ℕ
  pub letters_are : letters ≡ early_letters ++ last_letter ∷ []
  pub early_value : ℕ
  pub are_early_digits : AreEarlyDigits early_letters early_value
  pub ends_item : EndsItem last_letter

abbrev item_letters : (item : Item) (letters : List ℕ) → IsSpelled letters item → IsItemLetters
    letters
item_letters (number n) letters is_spelled =
    record {
      early_letters = is_spelled.early_letters;
      last_letter = is_spelled.last_letter;
      letters_are = is_spelled.letters_are;
      early_value = is_spelled.early_value;
      are_early_digits = is_spelled.are_early_digits;
      ends_item = last_digit_ends is_spelled.last_letter is_spelled.last_digit
          is_spelled.is_last_digit;
    }
item_letters mark letters letters_are =
    record {
      early_letters = [];
      last_letter = 90;
      letters_are = letters_are;
      early_value = 0;
      are_early_digits = refl;
      ends_item = inr (omega arith);
    }

-- two such fronts of the same letters are one
fronts_equal : (early early' : List ℕ) (last_letter last_letter' m n : ℕ) (later later' : List ℕ)
    → AreEarlyDigits early m → AreEarlyDigits early' n → EndsItem last_letter
    → EndsItem last_letter'
    → early ++ last_letter ∷ later ≡ early' ++ last_letter' ∷ later' → (early
    ≡ early') × (last_letter ≡ last_letter') × (later ≡ later')
fronts_equal [] [] last_letter last_letter' m n later later' early_is_m early_is_n last_ends
    last_ends' letters_equal = (refl, cc, cc)
fronts_equal [] (c ∷ early') last_letter last_letter' m n later later' early_is_m early_is_n
    last_ends last_ends' letters_equal = search (rules, arith, no_early)
fronts_equal (c ∷ early) [] last_letter last_letter' m n later later' early_is_m early_is_n
    last_ends last_ends' letters_equal = search (rules, arith, no_early)
fronts_equal (c ∷ early) (d ∷ early') last_letter last_letter' m n later later' early_is_m
    early_is_n last_ends last_ends' letters_equal =
    let heads_equal : c ≡ d = cc in
    let tails_equal : early ++ last_letter ∷ later ≡ early' ++ last_letter' ∷ later' = cc in
    let rest_equal = fronts_equal early early' last_letter last_letter' early_is_m.1 early_is_n.1
    later later' early_is_m.3 early_is_n.3 last_ends last_ends' tails_equal in
    (ap₂ (λ x xs. x ∷ xs) heads_equal rest_equal.0, rest_equal.1, rest_equal.2)

item_letters_equal : (front front' later later' : List ℕ) → IsItemLetters front
    → IsItemLetters front' → front ++ later ≡ front' ++ later' → (front ≡ front') × (later ≡ later')
item_letters_equal front front' later later' is_item is_item' letters_equal =
    grind (arith, common_steps, append_assoc, fronts_equal)

parts_equal : (letters : List ℕ) (p q : IsItemLetters letters)
    → (p.early_letters ≡ q.early_letters) × (p.last_letter ≡ q.last_letter)
parts_equal letters p q = search (rules, arith, fronts_equal)

number_is_no_mark : (n : ℕ) (letters : List ℕ) → AreLettersOf letters n
    → IsSpelled letters mark → ⊥
number_is_no_mark n letters are_letters is_mark = grind (arith, common_steps, parts_equal)

-- the letters of one item are those of no other
pub spelled_item_is_unique : (a b : Item) (letters : List ℕ) → IsSpelled letters a
    → IsSpelled letters b → a ≡ b
spelled_item_is_unique a b letters h1 h2 =
    grind (arith, common_steps, parts_equal, early_unique, last_unique, number_is_no_mark)

no_letters_no_item : (item : Item) (letters later : List ℕ) → IsSpelled letters item
    → ¬ ([] ≡ letters ++ later)
no_letters_no_item item letters later is_spelled is_nil =
    let parts = item_letters item letters is_spelled in
    let lengths = ap length is_nil in
    let front = ap length parts.letters_are in
    omega (
      arith,
      length-append letters later,
      length-append parts.early_letters (parts.last_letter ∷ []),
    )

pub spelled_items_are_unique : SpellingIsUnique
spelled_items_are_unique letters [] [] spells_items spells_others = refl
spelled_items_are_unique letters [] (b ∷ other_items) spells_items spells_others =
    search (rules, arith, no_letters_no_item)
spelled_items_are_unique letters (a ∷ items) [] spells_items spells_others =
    search (rules, arith, no_letters_no_item)
spelled_items_are_unique letters (a ∷ items) (b ∷ other_items) spells_items spells_others =
    let parts_equal = item_letters_equal spells_items.0 spells_others.0 spells_items.1
    spells_others.1 (item_letters a spells_items.0 spells_items.3) (item_letters b spells_others.0
    spells_others.3) (sym spells_items.2 ∙ spells_others.2) in
    let items_equal : a ≡ b = spelled_item_is_unique a b spells_others.0 (subst (λ x. IsSpelled x a)
    parts_equal.0 spells_items.3) spells_others.3 in
    ap₂ (λ x xs. x ∷ xs) items_equal
    (spelled_items_are_unique spells_others.1 items other_items (subst (λ x. Spells x items)
    parts_equal.1 spells_items.4) spells_others.4)

-- ---- brackets

closes : (t : Token) (ts : List Token) → bytes_eq t.word (codes ")") ≡ true
    → bracketed (t ∷ ts) ≡ record { labels = []; letters = Some ts }
closes t ts is_bracket = rw (is_bracket, bracketed) refl

goes_on : (t : Token) (ts : List Token) → bytes_eq t.word (codes ")") ≡ false
    → bracketed (t ∷ ts) ≡ with_label t (bracketed ts)
goes_on t ts no_bracket = rw (no_bracket, bracketed) refl

-- the labels stand in the brackets, and the letters after them
pub bracketed_splits : (labels : List Token) (closing : Token) (letters : List Token)
    → closing.word ≡ codes ")" → AllByRecursion (λ t. t.word ≢ codes ")") labels
    → bracketed (labels ++ closing ∷ letters) ≡ record { labels = labels; letters = Some letters }
bracketed_splits [] closing letters is_closing no_label_closes = cc
bracketed_splits (t ∷ labels) closing letters is_closing no_label_closes =
    grind (
      arith,
      equal_bytes_equal_words,
      (bracketed_splits labels closing letters is_closing no_label_closes.1),
    )

-- the words of a compressed proof are read as one
pub compressed_reads : (db : List Statement) (k end : ℕ) (ts labels letters : List Token)
    → IsCompressed ts labels letters → (reading_faults db k end ts
    ≡ compressed_faults db k end (record { labels = labels; letters = Some letters }))
    × (steps db k ts ≡ compressed_steps db k (record { labels = labels; letters = Some letters }))
compressed_reads db k end ts labels letters is_compressed =
    search (rules, arith, bytes_eq-Decides, bracketed_splits)

pub parts_are_unique : PartsAreUnique
parts_are_unique ts labels letters other_labels other_letters is_compressed is_other_compressed =
    let words_equal = sym is_compressed.words_are ∙ is_other_compressed.words_are in
    let tails_equal : labels ++ is_compressed.closing ∷ letters
    ≡ other_labels ++ is_other_compressed.closing ∷ other_letters = cc in
    let brackets_equal =
    sym (bracketed_splits labels is_compressed.closing letters is_compressed.closing_is
    is_compressed.no_label_closes) ∙ ap bracketed tails_equal
    ∙ bracketed_splits other_labels is_other_compressed.closing other_letters
    is_other_compressed.closing_is is_other_compressed.no_label_closes in
    (ap (λ p. p.labels) brackets_equal, same_Some _ _ (ap (λ p. p.letters) brackets_equal))

-- the parts of words with brackets
record BracketParts (ts letters : List Token) : Type 0 where
  labels : List Token
  closing : Token
  words_are : ts ≡ labels ++ closing ∷ letters
  closing_is : closing.word ≡ codes ")"
  no_label_closes : AllByRecursion (λ t. t.word ≢ codes ")") labels

bracket_parts_of : (ts letters : List Token) → (bracketed ts).letters ≡ Some letters
    → BracketParts ts letters
bracket_parts_of [] letters letters_are = absurd (cc)
bracket_parts_of (t ∷ ts) letters letters_are = elim (cases_Bool (bytes_eq t.word (codes ")"))) [
  | inl is_bracket ↦ record {
    labels = [];
    closing = t;
    words_are = ap (λ xs. t ∷ xs)
        (same_Some _ _ (sym (ap (λ p. p.letters) (closes t ts is_bracket)) ∙ letters_are));
    closing_is = equal_bytes_equal_words t.word (codes ")") is_bracket;
    no_label_closes = tt;
  }
  | inr no_bracket ↦ let parts = bracket_parts_of ts letters
      (sym (ap (λ p. p.letters) (goes_on t ts no_bracket)) ∙ letters_are) in record {
        labels = t ∷ parts.labels;
        closing = parts.closing;
        words_are = ap (λ xs. t ∷ xs) parts.words_are;
        closing_is = parts.closing_is;
        no_label_closes = (
          not_from_Decides _ (bytes_eq-Decides t.word (codes ")")) no_bracket,
          parts.no_label_closes,
        );
      }
]

-- ---- groups

abbrev pub bytes_of : List Letter → List ℕ
bytes_of xs = map (λ x. x.byte) xs

abbrev pub AreEarly : List Letter → Type 0
AreEarly xs = AllByRecursion (λ x. is_early_letter x.byte ≡ true) xs

abbrev pub item_of : Group → Item
item_of g = elim (is_last_letter g.last.byte) [ true ↦ number (value g) | false ↦ mark ]

pub early_byte_is_digit : (b : ℕ) → is_early_letter b ≡ true → IsEarlyDigit b (b - 84)
early_byte_is_digit b is_early_byte = search (rules, arith, and_parts, nat_le, leb-true)

last_byte_is_digit : (b : ℕ) → is_last_letter b ≡ true → IsLastDigit b (b - 64)
last_byte_is_digit b is_last_byte = search (rules, arith, and_parts, nat_le, leb-true)

horner_step : (n d p q r : ℕ) → q ≡ 5 * p → (5 * n + d) * p + r ≡ n * q + (d * p + r)
horner_step n d p q r q_is = rw q_is (omega arith)

-- the value of earlier digits, after others
early_value_exists : (xs : List Letter) (n : ℕ) → AreEarly xs
    → (early_value : ℕ) × AreEarlyDigits (bytes_of xs) early_value
    × (fold (λ n x. 5 * n + (x.byte - 84)) n xs ≡ n * 5 ^ length (bytes_of xs) + early_value)
early_value_exists [] n are_early = (0, refl, omega arith)
early_value_exists (x ∷ xs) n are_early =
    let rest_value = early_value_exists xs (5 * n + (x.byte - 84)) are_early.1 in (
      (x.byte - 84) * 5 ^ length (bytes_of xs) + rest_value.0,
      (x.byte - 84, rest_value.0, early_byte_is_digit x.byte are_early.0, rest_value.1, refl),
      rest_value.2 ∙ horner_step n (x.byte - 84) (5 ^ length (bytes_of xs))
          (5 ^ suc (length (bytes_of xs))) rest_value.0 (pow-succ' 5 (length (bytes_of xs))),
    )

pub group_spells_its_value : (g : Group) → AreEarly g.early → is_last_letter g.last.byte ≡ true
    → AreLettersOf (bytes_of g.early ++ g.last.byte ∷ []) (value g)
group_spells_its_value g are_early is_last_byte =
    let early_value = early_value_exists g.early 0 are_early in
    let sum_is_early_value : 0 * 5 ^ length (bytes_of g.early) + early_value.0
    ≡ early_value.0 = omega arith in
    record {
      early_letters = bytes_of g.early;
      last_letter = g.last.byte;
      letters_are = refl;
      early_value = early_value.0;
      last_digit = g.last.byte - 64;
      are_early_digits = early_value.1;
      is_last_digit = last_byte_is_digit g.last.byte is_last_byte;
      value_is = ap (λ n. n * 20 + (g.last.byte - 64)) (early_value.2 ∙ sum_is_early_value);
    }

group_is_spelled : (g : Group) → AreEarly g.early
    → (is_last_letter g.last.byte ≡ true)
    ⊎ ((is_last_letter g.last.byte ≡ false) × (g.last.byte ≡ 90) × (g.early ≡ []))
    → IsSpelled (bytes_of g.early ++ g.last.byte ∷ []) (item_of g)
group_is_spelled g h1 h2 = grind (arith, common_steps, group_spells_its_value)

early_push : (early : List Letter) (x : Letter) → AreEarly early → is_early_letter x.byte ≡ true
    → AreEarly (early ++ x ∷ [])
early_push early x h1 h2 = grind (arith, common_steps)

pub group_goes : (early : List Letter) (x : Letter) (later : List Letter)
    → is_early_letter x.byte ≡ true → groups early (x ∷ later) ≡ groups (early ++ x ∷ []) later
group_goes early x later is_early = rw (is_early, groups) refl

pub group_ends : (early : List Letter) (x : Letter) (later : List Letter)
    → is_early_letter x.byte ≡ false → groups early (x ∷ later)
    ≡ (record { early = early; last = x } ∷ (groups [] later).0, (groups [] later).1)
group_ends early x later not_early = rw (not_early, groups) refl

-- letters without a fault spell the items of their groups
pub groups_spell : (xs early : List Letter) (label_count marks count : ℕ) → AreEarly early
    → AreFaultless label_count marks count (groups early xs).0 → (groups early xs).1 ≡ []
    → Spells (bytes_of early ++ bytes_of xs) (map item_of (groups early xs).0)
groups_spell [] early label_count marks count are_early are_faultless none_left = cc
groups_spell (x ∷ xs) early label_count marks count are_early are_faultless none_left =
    elim (cases_Bool (is_early_letter x.byte)) [
      | inl is_early ↦ subst SpelledIfFaultless (sym (group_goes early x xs is_early))
          (λ faultless none. subst (λ bs. Spells bs (map item_of (groups (early ++ x ∷ []) xs).0))
          (rw (map-append, append_assoc) refl)
          (groups_spell xs (early ++ x ∷ []) label_count marks count
          (early_push early x are_early is_early) faultless none)) are_faultless none_left
      | inr not_early ↦ subst SpelledIfFaultless (sym (group_ends early x xs not_early))
          (λ faultless none. elim faultless [
            | inl (is_number, fits, later) ↦ item_and_later (inl is_number)
                (groups_spell xs [] label_count marks (count + 1) tt later none)
            | inr (no_number, is_90, none_early, follows, later) ↦
                item_and_later (inr (no_number, is_90, none_early))
                (groups_spell xs [] label_count (marks + 1) count tt later none)
          ]) are_faultless none_left
    ]
  where
    SpelledIfFaultless : List Group × List Letter → Type 0
    SpelledIfFaultless gs =
        AreFaultless label_count marks count gs.0 → gs.1 ≡ []
        → Spells (bytes_of early ++ x.byte ∷ bytes_of xs) (map item_of gs.0)

    item_and_later : (is_last_letter x.byte ≡ true)
        ⊎ ((is_last_letter x.byte ≡ false) × (x.byte ≡ 90) × (early ≡ []))
        → Spells (bytes_of xs) (map item_of (groups [] xs).0)
        → Spells (bytes_of early ++ x.byte ∷ bytes_of xs)
        (map item_of (record { early = early; last = x } ∷ (groups [] xs).0))
    item_and_later kind later_are_spelled = (
      bytes_of early ++ x.byte ∷ [],
      bytes_of xs,
      sym (append_assoc (bytes_of early) (x.byte ∷ []) (bytes_of xs)),
      group_is_spelled (record { early = early; last = x }) are_early kind,
      later_are_spelled,
    )

-- ---- the letters of a proof

bytes_of_letters_from : (p : ℕ) (w : Bytes) → bytes_of (letters_from p w) ≡ w
bytes_of_letters_from p [] = refl
bytes_of_letters_from p (b ∷ w) = ap (λ xs. b ∷ xs) (bytes_of_letters_from (p + 1) w)

pub bytes_of_letters : (ts : List Token) → bytes_of (letters_of ts) ≡ letters_in ts
bytes_of_letters [] = refl
bytes_of_letters (t ∷ ts) =
    rw (map-append, bytes_of_letters_from t.at t.word, bytes_of_letters ts) refl

-- letters of which nothing is wrong
pub record AreFaultlessLetters (label_count : ℕ) (xs : List Letter) : Type 0 where
  pub has_faultless_groups : AreFaultless label_count 0 0 (groups [] xs).0
  pub no_open_group : (groups [] xs).1 ≡ []
  pub has_letters : xs ≢ []

pub letters_are_faultless : (label_count end : ℕ) (xs : List Letter)
    → letter_faults label_count end xs ≡ [] → AreFaultlessLetters label_count xs
letters_are_faultless label_count end [] no_faults = absurd (cc)
letters_are_faultless label_count end (x ∷ xs) no_faults =
    search (arith, groups_are_faultless, both_are_empty, nil_if_not_positive)

-- the items of the groups of the letters
abbrev pub items_of : List Token → List Item
items_of letters = map item_of (groups [] (letters_of letters)).0

pub letters_spell_items : (label_count : ℕ) (letters : List Token)
    → AreFaultlessLetters label_count (letters_of letters)
    → Spells (letters_in letters) (items_of letters)
letters_spell_items label_count letters are_faultless =
    search (rules, arith, bytes_of_letters, groups_spell)

-- a compressed proof without faults: its labels, its letters, and the items that they spell
pub record IsFaultlessProof (db : List Statement) (k : ℕ) (ts : List Token) : Type 0 where
  pub labels : List Token
  pub letters : List Token
  pub is_compressed : IsCompressed ts labels letters
  pub no_label_faults : flat_map (proof_label_faults db k) labels ≡ []
  pub has_faultless_letters : AreFaultlessLetters (length (mandatory_hypotheses db k)
      + length labels) (letters_of letters)
  pub has_items : items_of letters ≢ []

pub proof_is_faultless : (db : List Statement) (k end : ℕ) (t : Token) (ts : List Token)
    → t.word ≡ codes "(" → reading_faults db k end (t ∷ ts) ≡ [] → IsFaultlessProof db k (t ∷ ts)
proof_is_faultless db k end t ts is_opening no_faults =
    faultless_by_letters (bracketed ts).letters refl
  where
    opens : bytes_eq t.word (codes "(") ≡ true
    opens = (bytes_eq-Decides t.word (codes "(")).1 is_opening

    no_nil : (letters : List Token) → letters_of letters ≢ [] → [] ≡ letters_in letters → ⊥
    no_nil letters has_letters is_nil = no_bytes (letters_of letters)
        (bytes_of_letters letters ∙ sym is_nil) has_letters
      where
        no_bytes : (xs : List Letter) → bytes_of xs ≡ [] → xs ≢ [] → ⊥
        no_bytes [] bytes_are_nil has_letters = has_letters refl
        no_bytes (x ∷ xs) bytes_are_nil has_letters = cc

    faultless_by_letters : (o : Option (List Token)) → (bracketed ts).letters ≡ o
        → IsFaultlessProof db k (t ∷ ts)
    faultless_by_letters None letters_are =
        let faults_are : reading_faults db k end (t ∷ ts)
        ≡ flat_map (proof_label_faults db k) (bracketed ts).labels ++ fault end OpenBrackets ∷ [] =
        rw (opens, reading_faults, compressed_faults, letters_are) refl in
        absurd (no_front _ (sym faults_are ∙ no_faults))
      where
        no_front : (fs : List Fault) → ¬ (fs ++ fault end OpenBrackets ∷ [] ≡ [])
        no_front [] is_nil = cc
        no_front (f ∷ fs) is_nil = cc
    faultless_by_letters (Some letters) letters_are =
        let parts = bracket_parts_of ts letters letters_are in
        let is_compressed : IsCompressed (t ∷ ts) parts.labels letters = record {
          opening = t;
          closing = parts.closing;
          words_are = ap (λ xs. t ∷ xs) parts.words_are;
          opening_is = is_opening;
          closing_is = parts.closing_is;
          no_label_closes = parts.no_label_closes;
        } in
        let none = both_are_empty _ _
        (sym (compressed_reads db k end (t ∷ ts) parts.labels letters is_compressed).0
        ∙ no_faults) in
        let label_count = length (mandatory_hypotheses db k) + length parts.labels in
        let faultless_letters = letters_are_faultless label_count end (letters_of letters) none.1 in
        record {
          labels = parts.labels;
          letters = letters;
          is_compressed = is_compressed;
          no_label_faults = none.0;
          has_faultless_letters = faultless_letters;
          has_items = λ is_nil. no_nil letters faultless_letters.has_letters
              (sym (subst (Spells (letters_in letters)) is_nil
              (letters_spell_items label_count letters faultless_letters)));
        }

pub proofs_are_spelled : ProofsAreSpelled
proofs_are_spelled db k end t ts is_opening no_faults =
    search (rules, arith, proof_is_faultless, letters_spell_items)
