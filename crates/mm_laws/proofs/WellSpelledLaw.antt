-- Reading finds no fault in exactly the proofs that are well formed.
use Rattle.std.proofs.lemmas.Grind.{common_steps}
use Rattle.std.proofs.Common.{◌≡◌, length, flat_map, count_by, true≢false, append_assoc, append-nil}
use Rattle.std.proofs.Common.{◌≢◌, ℕ, ◌+◌, ◌<◌, ◌≤◌, inl, inr, [], ◌∷◌, map, sym, ap, ap₂, ◌∙◌}
use Rattle.std.proofs.Common.{Bool, true, false, ◌&&◌, List, ◌++◌, codes, refl, subst, arith, rules}
use Rattle.std.specs.List.{list_any, range_with_len, AllByRecursion, AllZip}
use Rattle.std.proofs.lemmas.Bool.{le-ltb, false_from_ne_true}
use Rattle.std.proofs.lemmas.Bool.Decides.{nat_tests}
use Rattle.mm_spec.specs.Text.{Token, fault}
use Rattle.mm_spec.specs.declared.Fault.{Fault}
use Rattle.mm_spec.specs.Statement.{Statement}
use Rattle.mm_spec.specs.Scope.{active_at, statement_at}
use Rattle.mm_spec.specs.Opened.{open_as_axioms}
use Rattle.mm_spec.specs.Frame.{mandatory_hypotheses}
use Rattle.mm_spec.specs.NormalProof.{is_labelled, usable, proof_label_faults}
use Rattle.mm_spec.specs.CompressedProof.{Letter, is_early_letter, is_last_letter, letter_faults}
use Rattle.mm_spec.specs.CompressedProof.{letters_of, Group, groups, value, group_faults}
use Rattle.mm_spec.specs.Proof.{reading_faults}
use Rattle.mm_laws.specs.Spelling.{Item, number, mark, is_number, is_mark_item, IsEarlyDigit}
use Rattle.mm_laws.specs.Spelling.{IsLastDigit, AreEarlyDigits, AreLettersOf, Spells, IsUsable}
use Rattle.mm_laws.specs.Spelling.{IsWellSpelled}
use Rattle.mm_laws.specs.Laws.Read.{WhereRead}
use Rattle.mm_laws.specs.Laws.WellFormed.{CompressedIsExact, NormalIsExact}
use Rattle.mm_spec.specs.declared.Code.TheVariants.{UnusableLabel}
use Rattle.mm_spec.proofs.FindsLaw.{equal_bytes_equal_words, active_lt_place, any_filter, range_any}
use Rattle.mm_spec.proofs.FaultlessLaw.{both_are_empty}
use Rattle.mm_laws.proofs.SpellingLaw.{EndsItem, bytes_of, AreEarly, item_of}
use Rattle.mm_laws.proofs.SpellingLaw.{spelled_item_is_unique, group_ends, spelled_items_are_unique}
use Rattle.mm_laws.proofs.SpellingLaw.{group_spells_its_value, letters_spell_items, last_digit_ends}
use Rattle.mm_laws.proofs.SpellingLaw.{compressed_reads, bytes_of_letters, proof_is_faultless}
use Rattle.mm_spec.proofs.GroupsLaw.{AreFaultless}
use Rattle.mm_laws.proofs.SpelledStepsLaw.{count_append, LabelsDiffer, labels_differ}
use Rattle.mm_laws.proofs.SpelledStepsLaw.{one_statement_is_usable, labels_are_usable, own_faults}
use Rattle.mm_laws.proofs.SpelledStepsLaw.{no_own_faults, normal_reads}

-- ---- items each of which has a meaning after those before it

-- each number names something and each mark follows a number, after so many marks and numbers
abbrev AreMeaningful : ℕ → ℕ → ℕ → List Item → Type 0
AreMeaningful label_count marks count [] = Unit {0}
AreMeaningful label_count marks count (number n ∷ items) =
    (n ≤ label_count + marks) × AreMeaningful label_count marks (count + 1) items
AreMeaningful label_count marks count (mark ∷ items) =
    (0 < count) × AreMeaningful label_count (marks + 1) count items

faultless_are_meaningful : (gs : List Group) (label_count marks count : ℕ)
    → AreFaultless label_count marks count gs
    → AreMeaningful label_count marks count (map item_of gs)
faultless_are_meaningful [] label_count marks count are_faultless = tt
faultless_are_meaningful (g ∷ gs) label_count marks count (inl (ends_number, fits, later)) =
    rw (ends_number, AreMeaningful, item_of) (
      fits,
      faultless_are_meaningful gs label_count marks (count + 1) later,
    )
faultless_are_meaningful (g ∷ gs) label_count marks count (inr (no_number, _, _, follows, later)) =
    rw (no_number, AreMeaningful, item_of) (
      follows,
      faultless_are_meaningful gs label_count (marks + 1) count later,
    )

-- an item means something after so many marks and numbers
abbrev IsMeaningful : ℕ → ℕ → ℕ → Item → Type 0
IsMeaningful label_count marks count (number n) = n ≤ label_count + marks
IsMeaningful label_count marks count mark = 0 < count

meaningful_after_more : (item : Item) (label_count m n marks count : ℕ)
    → IsMeaningful label_count m n item → m ≡ marks → n ≡ count
    → IsMeaningful label_count marks count item
meaningful_after_more item label_count m n marks count is_meaningful m_is n_is =
    rw (← m_is, ← n_is) is_meaningful

each_is_meaningful : (before after : List Item) (item : Item) (label_count marks count : ℕ)
    → AreMeaningful label_count marks count (before ++ item ∷ after)
    → IsMeaningful label_count (marks + count_by is_mark_item before)
    (count + count_by is_number before) item
each_is_meaningful [] after (number n) label_count marks count (fits, _) = omega arith
each_is_meaningful [] after mark label_count marks count (follows, _) = omega arith
each_is_meaningful (number m ∷ before) after item label_count marks count (_, later) =
    grind (
      arith,
      common_steps,
      (each_is_meaningful before after item label_count marks (count + 1) later),
    )
each_is_meaningful (mark ∷ before) after item label_count marks count (_, later) =
    grind (
      arith,
      common_steps,
      (each_is_meaningful before after item label_count (marks + 1) count later),
    )

meaningful_if_each_is : (items : List Item) (label_count marks count : ℕ)
    → ((before after : List Item) (item : Item) → items ≡ before ++ item ∷ after
    → IsMeaningful label_count (marks + count_by is_mark_item before)
    (count + count_by is_number before) item)
    → AreMeaningful label_count marks count items
meaningful_if_each_is [] label_count marks count each = tt
meaningful_if_each_is (number n ∷ items) label_count marks count each = (
  (let fits = each [] items (number n) refl in omega arith),
  meaningful_if_each_is items label_count marks (count + 1) (λ b a item items_are.
      meaningful_after_more item label_count _ _ _ _
      (each (number n ∷ b) a item (ap (λ xs. number n ∷ xs) items_are))
      (omega (arith, count_append is_mark_item (number n ∷ []) b))
      (omega (arith, count_append is_number (number n ∷ []) b))),
)
meaningful_if_each_is (mark ∷ items) label_count marks count each = (
  (let follows = each [] items mark refl in omega arith),
  meaningful_if_each_is items label_count (marks + 1) count (λ b a item items_are.
      meaningful_after_more item label_count _ _ _ _
      (each (mark ∷ b) a item (ap (λ xs. mark ∷ xs) items_are))
      (omega (arith, count_append is_mark_item (mark ∷ []) b))
      (omega (arith, count_append is_number (mark ∷ []) b))),
)

-- ---- groups of letters that spell items

digit_is_early : (b d : ℕ) → IsEarlyDigit b d → is_early_letter b ≡ true
digit_is_early b d is_early_digit = grind (arith, nat_tests)

digit_is_last : (b d : ℕ) → IsLastDigit b d → is_last_letter b ≡ true
digit_is_last b d is_last_digit = grind (arith, nat_tests)

ending_byte_is_not_early : (b : ℕ) → EndsItem b → is_early_letter b ≡ false
ending_byte_is_not_early b ends_item = grind (arith, nat_tests)

letters_are_early : (xs : List Letter) (n : ℕ) → AreEarlyDigits (bytes_of xs) n → AreEarly xs
letters_are_early [] n are_early_digits = tt
letters_are_early (x ∷ xs) n are_early_digits =
    grind (arith, (letters_are_early xs are_early_digits.1 are_early_digits.3))

group_of_run : (early front : List Letter) (x : Letter) (later : List Letter) → AreEarly front
    → is_early_letter x.byte ≡ false → groups early (front ++ x ∷ later)
    ≡ (record { early = early ++ front; last = x } ∷ (groups [] later).0, (groups [] later).1)
group_of_run early [] x later front_is_early not_early = rw (group_ends, append-nil) refl
group_of_run early (y ∷ front) x later front_is_early not_early =
    grind (
      arith,
      append_assoc,
      (group_of_run (early ++ y ∷ []) front x later front_is_early.1 not_early),
    )

-- letters by their bytes
record IsSplit (xs : List Letter) (es : List ℕ) (last_byte : ℕ) (later_bytes : List ℕ) : Type 0
  where
    pub front : List Letter
    pub x : Letter
    pub later : List Letter
    pub letters_are : xs ≡ front ++ x ∷ later
    pub front_bytes_are : bytes_of front ≡ es
    pub byte_is : x.byte ≡ last_byte
    pub later_bytes_are : bytes_of later ≡ later_bytes

split_by_bytes : (xs : List Letter) (es : List ℕ) (last_byte : ℕ) (later_bytes : List ℕ)
    → bytes_of xs ≡ es ++ last_byte ∷ later_bytes → IsSplit xs es last_byte later_bytes
split_by_bytes [] [] last_byte later_bytes bytes_are = absurd (cc)
split_by_bytes [] (b ∷ es) last_byte later_bytes bytes_are = absurd (cc)
split_by_bytes (x ∷ xs) [] last_byte later_bytes bytes_are =
    record {
      front = [];
      x = x;
      later = xs;
      letters_are = refl;
      front_bytes_are = refl;
      byte_is = cc;
      later_bytes_are = cc;
    }
split_by_bytes (x ∷ xs) (b ∷ es) last_byte later_bytes bytes_are =
    with_first (cc) (split_by_bytes xs es last_byte later_bytes (cc))
  where
    with_first : x.byte ≡ b → IsSplit xs es last_byte later_bytes
        → IsSplit (x ∷ xs) (b ∷ es) last_byte later_bytes
    with_first heads_equal split = record {
      front = x ∷ split.front;
      x = split.x;
      later = split.later;
      letters_are = ap (λ ys. x ∷ ys) split.letters_are;
      front_bytes_are = ap₂ (λ c cs. c ∷ cs) heads_equal split.front_bytes_are;
      byte_is = split.byte_is;
      later_bytes_are = split.later_bytes_are;
    }

nil_if_no_bytes : (xs : List Letter) → bytes_of xs ≡ [] → xs ≡ []
nil_if_no_bytes [] no_bytes = refl
nil_if_no_bytes (x ∷ xs) no_bytes = absurd (cc)

abbrev AreFaultlessGroups : ℕ → ℕ → ℕ → List Group × List Letter → Type 0
AreFaultlessGroups label_count marks count gs = AreFaultless label_count marks count gs.0 × (gs.1
    ≡ [])

-- letters that spell right items are groups without faults
spelled_are_faultless : (items : List Item) (xs : List Letter) (label_count marks count : ℕ)
    → Spells (bytes_of xs) items → AreMeaningful label_count marks count items
    → AreFaultlessGroups label_count marks count (groups [] xs)
spelled_are_faultless [] xs label_count marks count are_spelled are_meaningful =
    search (rules, arith, nil_if_no_bytes)
spelled_are_faultless (number n ∷ items) xs label_count marks count
    (bytes, later_bytes, bytes_are, are_letters, later_are_spelled) (fits, later_are_meaningful) =
    let letters_of_n : AreLettersOf bytes n = are_letters in
    let split = split_by_bytes xs letters_of_n.early_letters letters_of_n.last_letter later_bytes
    (bytes_are ∙ rw (letters_of_n.letters_are, append_assoc) refl) in
    let front_is_early = letters_are_early split.front letters_of_n.early_value
    (rw split.front_bytes_are letters_of_n.are_early_digits) in
    let is_last_digit : IsLastDigit split.x.byte letters_of_n.last_digit =
    rw split.byte_is letters_of_n.is_last_digit in
    let not_early = ending_byte_is_not_early split.x.byte
    (last_digit_ends split.x.byte letters_of_n.last_digit is_last_digit) in
    let ends_number = digit_is_last split.x.byte letters_of_n.last_digit is_last_digit in
    let g : Group = record { early = split.front; last = split.x } in
    let numbers_equal = spelled_item_is_unique (number (value g)) (number n) bytes
    (subst (λ bs. AreLettersOf bs (value g)) (ap₂ (λ bs b. bs ++ b ∷ []) split.front_bytes_are
    split.byte_is ∙ sym letters_of_n.letters_are)
    (group_spells_its_value g front_is_early ends_number)) letters_of_n in
    let value_is_n : value g ≡ n = cc in
    let later = spelled_are_faultless items split.later label_count marks (count + 1)
    (rw split.later_bytes_are later_are_spelled) later_are_meaningful in
    rw (split.letters_are, group_of_run [] split.front split.x split.later front_is_early not_early)
    (inl (ends_number, omega (arith, fits), later.0), later.1)
spelled_are_faultless (mark ∷ items) xs label_count marks count
    (bytes, later_bytes, bytes_are, is_mark, later_are_spelled) (follows, later_are_meaningful) =
    let split = split_by_bytes xs [] 90 later_bytes
    (bytes_are ∙ ap (λ bs. bs ++ later_bytes) is_mark) in
    let front_is_nil = nil_if_no_bytes split.front split.front_bytes_are in
    let byte_is = split.byte_is in
    let later = spelled_are_faultless items split.later label_count (marks + 1) count
    (rw split.later_bytes_are later_are_spelled) later_are_meaningful in
    rw (
      split.letters_are,
      group_of_run [] split.front split.x split.later
          (rw front_is_nil tt) (ending_byte_is_not_early split.x.byte (inr (omega arith))),
    ) (inr (ap is_last_letter byte_is, byte_is, front_is_nil, follows, later.0), later.1)

-- ---- groups without faults

no_faults_of_faultless : (gs : List Group) (label_count marks count : ℕ)
    → AreFaultless label_count marks count gs → group_faults label_count marks count gs ≡ []
no_faults_of_faultless [] label_count marks count are_faultless = refl
no_faults_of_faultless (g ∷ gs) label_count marks count (inl (ends_number, fits, later)) =
    search (rules, arith, le-ltb, (no_faults_of_faultless gs label_count marks (count + 1) later))
no_faults_of_faultless (g ∷ gs) label_count marks count (inr
    (no_number, is_mark, none_early, count_gt_0, later)) =
    grind (arith, (no_faults_of_faultless gs label_count (marks + 1) count later))

no_letter_faults : (label_count end : ℕ) (xs : List Letter) → xs ≢ []
    → AreFaultlessGroups label_count 0 0 (groups [] xs) → letter_faults label_count end xs ≡ []
no_letter_faults label_count end xs h1 h2 = grind (arith, common_steps, no_faults_of_faultless)

-- ---- labels

usable_label_has_no_fault : (db : List Statement) (k : ℕ) (t : Token) (j : ℕ)
    → IsUsable db k t.word j → proof_label_faults db k t ≡ []
usable_label_has_no_fault db k t j is_usable = no_fault_if_usable (usable db k t.word) refl
  where
    is_usable_at : ℕ → Bool
    is_usable_at i = active_at db i k && list_any (is_labelled t.word) (statement_at db i)

    no_fault_if_usable : (js : List ℕ) → usable db k t.word ≡ js
        → ◌≡◌ {A = List Fault} (elim js [ [] ↦ fault t.at UnusableLabel ∷ [] | j ∷ js ↦ [] ]) []
    no_fault_if_usable [] none_is_usable =
        let j_lt_k = active_lt_place db j k is_usable.statement_is_active in
        let j_is_found : list_any (λ i. is_usable_at i && true) (range_with_len 0 k) ≡ true =
        range_any (λ i. is_usable_at i && true) k 0 j (omega arith) (omega arith)
        (rw (is_usable.statement_is_active, is_usable.statement_has_label) refl) in
        absurd (true≢false (sym j_is_found ∙ sym (any_filter is_usable_at (λ i. true)
        (range_with_len 0 k)) ∙ ap (list_any (λ i. true)) none_is_usable))
    no_fault_if_usable (j ∷ js) some_are_usable = refl

usable_labels_have_no_fault : (db : List Statement) (k : ℕ) (ts : List Token)
    → AllByRecursion (λ t. (j : ℕ) × IsUsable db k t.word j) ts
    → flat_map (proof_label_faults db k) ts ≡ []
usable_labels_have_no_fault db k [] are_usable = refl
usable_labels_have_no_fault db k (t ∷ ts) are_usable =
    ap₂ (λ xs ys. xs ++ ys) (usable_label_has_no_fault db k t are_usable.0.0 are_usable.0.1)
    (usable_labels_have_no_fault db k ts are_usable.1)

each_label_is_usable : (db : List Statement) (k : ℕ) (ts : List Token) (js : List ℕ)
    → AllZip (λ t j. IsUsable db k t.word j) ts js
    → AllByRecursion (λ t. (j : ℕ) × IsUsable db k t.word j) ts
each_label_is_usable db k [] js are_usable = tt
each_label_is_usable db k (t ∷ ts) [] are_usable = absurd are_usable
each_label_is_usable db k (t ∷ ts) (j ∷ js) are_usable =
    grind (arith, common_steps, (each_label_is_usable db k ts js are_usable.1))

-- ---- proofs

module _ (db : List Statement) (differ : LabelsDiffer db) (k end : ℕ) where
  read_is_well_spelled : (t : Token) (ts : List Token) → t.word ≡ codes "("
      → reading_faults db k end (t ∷ ts) ≡ [] → IsWellSpelled db k (t ∷ ts)
  read_is_well_spelled t ts is_opening no_faults =
      search (
        arith,
        proof_is_faultless,
        faultless_are_meaningful,
        labels_are_usable,
        each_label_is_usable,
        letters_spell_items,
        each_is_meaningful,
      )

  well_spelled_is_read : (t : Token) (ts : List Token) → t.word ≡ codes "("
      → IsWellSpelled db k (t ∷ ts) → reading_faults db k end (t ∷ ts) ≡ []
  well_spelled_is_read t ts is_opening is_well_spelled =
      (compressed_reads db k end (t ∷ ts) is_well_spelled.labels is_well_spelled.letters
      is_well_spelled.is_compressed).0
      ∙ ap₂ (λ xs ys. xs ++ ys) (usable_labels_have_no_fault db k is_well_spelled.labels
      is_well_spelled.labels_are_usable)
      (no_letter_faults label_count end (letters_of is_well_spelled.letters) has_letters
      (spelled_are_faultless is_well_spelled.items
      (letters_of is_well_spelled.letters) label_count 0 0 letters_spell
      (meaningful_if_each_is is_well_spelled.items label_count 0 0 each_is)))
    where
      label_count : ℕ
      label_count = length (mandatory_hypotheses db k) + length is_well_spelled.labels

      letters_spell : Spells (bytes_of (letters_of is_well_spelled.letters)) is_well_spelled.items
      letters_spell = subst (λ bs. Spells bs is_well_spelled.items) (sym (bytes_of_letters
          is_well_spelled.letters)) is_well_spelled.items_are_spelled

      each_is : (b a : List Item) (item : Item) → is_well_spelled.items ≡ b ++ item ∷ a
          → IsMeaningful label_count (0 + count_by is_mark_item b) (0 + count_by is_number b) item
      each_is b a (number n) items_are =
          let fits = is_well_spelled.numbers_name_steps b a n items_are in omega arith
      each_is b a mark items_are =
          let follows = is_well_spelled.marks_follow_numbers b a items_are in omega arith

      has_letters : letters_of is_well_spelled.letters ≢ []
      has_letters is_nil = is_well_spelled.has_items (spelled_items_are_unique []
          is_well_spelled.items [] (subst (λ xs. Spells (bytes_of xs) is_well_spelled.items) is_nil
          letters_spell) refl)

  abbrev IsUsableWord : Token → Type 0
  IsUsableWord u = (u.word ≢ codes "?") × ((j : ℕ) × IsUsable db k u.word j)

  read_are_usable_words : (ts : List Token) → flat_map (own_faults db k) ts ≡ []
      → AllByRecursion IsUsableWord ts
  read_are_usable_words [] no_faults = tt
  read_are_usable_words (t ∷ ts) no_faults =
      let none = both_are_empty (own_faults db k t) _ no_faults in
      let own = no_own_faults db k t none.0 in
      let here = one_statement_is_usable db differ k t own.1 in
      ((own.0, (here.0, here.2)), read_are_usable_words ts none.1)

  usable_words_are_read : (ts : List Token) → AllByRecursion IsUsableWord ts
      → flat_map (own_faults db k) ts ≡ []
  usable_words_are_read [] are_usable = refl
  usable_words_are_read (t ∷ ts) ((is_known, (j, is_usable)), later) =
      rw (
        false_from_ne_true _ (λ e. is_known (equal_bytes_equal_words t.word (codes "?") e)),
        own_faults,
        usable_label_has_no_fault db k t j is_usable,
      ) (usable_words_are_read ts later)

pub normal_is_exact : WhereRead NormalIsExact
normal_is_exact len x db fault is_read with_open k end t ts no_bracket =
    let statements = open_as_axioms with_open db in
    let differ = labels_differ len x db fault is_read with_open in
    let faults_are = (normal_reads statements k end t ts no_bracket).0 in (
      λ no_faults. read_are_usable_words statements differ k end (t ∷ ts)
          (sym faults_are ∙ no_faults),
      λ are_usable. faults_are
          ∙ usable_words_are_read statements differ k end (t ∷ ts) are_usable,
    )

pub compressed_is_exact : WhereRead CompressedIsExact
compressed_is_exact len x db fault is_read with_open k end t ts is_opening =
    search (rules, arith, labels_differ, read_is_well_spelled, well_spelled_is_read)
