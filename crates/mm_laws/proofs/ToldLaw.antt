-- The lines of the statements tell the assertions: a line is split at the first line feed or space,
-- its words at the keywords, and its front at each `:`.
use Rattle.std.proofs.lemmas.Bool.Decides.{nat_tests}
use Rattle.std.proofs.Common.{◌≡◌, ◌∙◌, ℕ, ◌+◌, ◌<◌, ◌^◌, ◌%◌, Bool, true, false, ◌||◌, List, []}
use Rattle.std.proofs.Common.{◌∷◌, ◌++◌, length, map, refl, sym, ap, ap₂, subst, arith, true≢false}
use Rattle.std.proofs.Common.{append_assoc, append-nil, length-append, decimal, not, rules}
use Rattle.std.specs.Prelude.{flat_map, codes, bytes_eq}
use Rattle.std.specs.List.{list_any, AllByRecursion}
use Rattle.std.proofs.lemmas.Bool.{agree_below, agree_below_at, cases_Bool, or_parts}
use Rattle.mm_spec.proofs.FindsLaw.{each_map, each_any}
use Rattle.std.proofs.lemmas.Fmt.{decimal_by_steps, decimal_injective}
use Rattle.std.proofs.lemmas.Grind.{flat_map-append, common_steps}
use Rattle.std.proofs.lemmas.List.Folds.{list_any-append, flat_map-map}
use Rattle.mm_spec.specs.Text.{Bytes, has_dollar}
use Rattle.mm_spec.specs.Statement.{Statement}
use Rattle.mm_spec.specs.Derivation.{Pair}
use Rattle.mm_spec.specs.Frame.{formula_at, mandatory_hypotheses, mandatory_pairs}
use Rattle.mm_spec.specs.Assertion.{label_at, name_at, hypothesis_keyword, hypothesis_text, spaced}
use Rattle.mm_spec.specs.Assertion.{pair_text, dummies_text, symbols_text, kind_letter}
use Rattle.mm_spec.specs.Assertion.{kind_keyword, is_axiom_at, start_place, end_place, dummies}
use Rattle.mm_spec.specs.Assertion.{dummy_pairs, assertion_line}
use Rattle.mm_laws.specs.Laws.Told.{Part, InWords, hypothesis_part, pair_part, dummies_part}
use Rattle.mm_laws.specs.Laws.Told.{formula_part, in_words, is_gap, is_colon, AreSpelled}
use Rattle.mm_laws.specs.Laws.Told.{LinesTellAssertions}

-- ---- lists that are split where a test passes

module _ {X : Type 0} (p : X → Bool) where
  -- no element passes
  abbrev NonePasses : List X → Type 0
  NonePasses xs = list_any p xs ≡ false

  -- the first element passes, if there is one
  abbrev BeginsPassing : List X → Type 0
  BeginsPassing [] = Unit {0}
  BeginsPassing (x ∷ xs) = p x ≡ true

  none_of_both : (xs ys : List X) → NonePasses xs → NonePasses ys → NonePasses (xs ++ ys)
  none_of_both xs ys no_x no_y = rw (list_any-append p xs ys, no_x) no_y

  -- a list that begins passing doesn't begin with an element that fails
  not_begun : (rs : List X) (y : X) (ys : List X) → BeginsPassing rs → p y ≡ false
      → ¬ (rs ≡ y ∷ ys)
  not_begun rs y ys begins fails equal = true≢false (sym (subst BeginsPassing equal begins) ∙ fails)

  -- two equal lists are split at the same place, the first at which an element passes
  split : (xs ys rs ss : List X) → NonePasses xs → NonePasses ys → BeginsPassing rs
      → BeginsPassing ss → xs ++ rs ≡ ys ++ ss → (xs ≡ ys) × (rs ≡ ss)
  split [] [] rs ss no_x no_y rs_begin ss_begin equal = (refl, equal)
  split [] (y ∷ ys) rs ss no_x no_y rs_begin ss_begin equal =
      absurd (not_begun rs y (ys ++ ss) rs_begin (or_parts (p y) (list_any p ys) no_y).0 equal)
  split (x ∷ xs) [] rs ss no_x no_y rs_begin ss_begin equal =
      absurd (not_begun ss x (xs ++ rs) ss_begin (or_parts (p x) (list_any p xs) no_x).0
      (sym equal))
  split (x ∷ xs) (y ∷ ys) rs ss no_x no_y rs_begin ss_begin equal =
      let heads : x ≡ y = cc in
      let tails : xs ++ rs ≡ ys ++ ss = cc in
      let parts =
      split xs ys rs ss (or_parts (p x) (list_any p xs) no_x).1
      (or_parts (p y) (list_any p ys) no_y).1 rs_begin ss_begin tails in
      (ap₂ (λ z zs. z ∷ zs) heads parts.0, parts.1)

-- ---- lines

-- a line: its front, and the words after it
record Line : Type 0 where
  front : Bytes
  words : List Bytes

abbrev has_gap : Bytes → Bool
has_gap w = list_any is_gap w

abbrev line_text : Line → List ℕ
line_text l = l.front ++ spaced l.words ++ 10 ∷ []

record IsLine (l : Line) : Type 0 where
  front : NonePasses is_gap l.front
  words : NonePasses has_gap l.words

rest_begins : (ws : List Bytes) (rs : List ℕ) → BeginsPassing is_gap (spaced ws ++ 10 ∷ rs)
rest_begins [] rs = refl
rest_begins (w ∷ ws) rs = refl

-- the words of a line end at its line feed
words_equal : (ws vs : List Bytes) (rs ss : List ℕ) → NonePasses has_gap ws → NonePasses has_gap vs
    → spaced ws ++ 10 ∷ rs ≡ spaced vs ++ 10 ∷ ss → (ws ≡ vs) × (rs ≡ ss)
words_equal [] [] rs ss no_w no_v equal = (refl, cc)
words_equal [] (v ∷ vs) rs ss no_w no_v equal = grind (arith, common_steps)
words_equal (w ∷ ws) [] rs ss no_w no_v equal = grind (arith, common_steps)
words_equal (w ∷ ws) (v ∷ vs) rs ss no_w no_v equal =
    let tails : (w ++ spaced ws) ++ 10 ∷ rs ≡ (v ++ spaced vs) ++ 10 ∷ ss = cc in
    let here =
    split is_gap w v (spaced ws ++ 10 ∷ rs) (spaced vs ++ 10 ∷ ss)
    (or_parts (has_gap w) (list_any has_gap ws) no_w).0
    (or_parts (has_gap v) (list_any has_gap vs) no_v).0 (rest_begins ws rs) (rest_begins vs ss)
    (sym (append_assoc w (spaced ws) (10 ∷ rs)) ∙ tails
    ∙ append_assoc v (spaced vs) (10 ∷ ss)) in
    let later =
    words_equal ws vs rs ss (or_parts (has_gap w) (list_any has_gap ws) no_w).1
    (or_parts (has_gap v) (list_any has_gap vs) no_v).1 here.1 in
    (ap₂ (λ (z : Bytes) (zs : List Bytes). z ∷ zs) here.0 later.0, later.1)

line_equal : (a b : Line) (rs ss : List ℕ) → IsLine a → IsLine b
    → line_text a ++ rs ≡ line_text b ++ ss → (a ≡ b) × (rs ≡ ss)
line_equal a b rs ss is_a is_b equal =
    search (rules, arith, split, rest_begins, append_assoc, words_equal)

no_empty_line : (l : Line) (rs : List ℕ) → ¬ ([] ≡ line_text l ++ rs)
no_empty_line l rs equal =
    omega (
      arith,
      ap length equal,
      length-append (line_text l) rs,
      length-append (l.front ++ spaced l.words) (10 ∷ []),
    )

-- a text has one list of lines
lines_equal : (xs ys : List Line) → AllByRecursion IsLine xs → AllByRecursion IsLine ys
    → flat_map line_text xs ≡ flat_map line_text ys → xs ≡ ys
lines_equal [] [] are_x are_y equal = refl
lines_equal [] (y ∷ ys) are_x are_y equal = absurd (no_empty_line y _ equal)
lines_equal (x ∷ xs) [] are_x are_y equal = absurd (no_empty_line x _ (sym equal))
lines_equal (x ∷ xs) (y ∷ ys) are_x are_y equal =
    let here = line_equal x y _ _ are_x.0 are_y.0 equal in
    ap₂ (λ (z : Line) (zs : List Line). z ∷ zs) here.0 (lines_equal xs ys are_x.1 are_y.1 here.1)

-- ---- parts

abbrev part_words : Part → List Bytes
part_words p = p.keyword ∷ p.words

record IsPart (p : Part) : Type 0 where
  keyword_has_dollar : has_dollar p.keyword ≡ true
  words_have_no_dollar : NonePasses has_dollar p.words
  keyword_has_no_gap : has_gap p.keyword ≡ false
  words_have_no_gap : NonePasses has_gap p.words

part_begins : (ps : List Part) → AllByRecursion IsPart ps
    → BeginsPassing has_dollar (flat_map part_words ps)
part_begins [] are_parts = tt
part_begins (p ∷ ps) are_parts = are_parts.0.keyword_has_dollar

-- a line's words have one list of parts
parts_equal : (ps qs : List Part) → AllByRecursion IsPart ps → AllByRecursion IsPart qs
    → flat_map part_words ps ≡ flat_map part_words qs → ps ≡ qs
parts_equal [] [] are_p are_q equal = refl
parts_equal [] (q ∷ qs) are_p are_q equal = absurd (cc)
parts_equal (p ∷ ps) [] are_p are_q equal = absurd (cc)
parts_equal (p ∷ ps) (q ∷ qs) are_p are_q equal =
    let keywords : p.keyword ≡ q.keyword = cc in
    let tails : p.words ++ flat_map part_words ps ≡ q.words ++ flat_map part_words qs = cc in
    let here =
    split has_dollar p.words q.words (flat_map part_words ps) (flat_map part_words qs)
    are_p.0.words_have_no_dollar are_q.0.words_have_no_dollar (part_begins ps are_p.1)
    (part_begins qs are_q.1) tails in
    ap₂ (λ (z : Part) (zs : List Part). z ∷ zs)
    (ap₂ (λ (k : Bytes) (ws : List Bytes). record { keyword = k; words = ws }) keywords here.0)
    (parts_equal ps qs are_p.1 are_q.1 here.1)

-- what is true of each part of two lists is true of both together
pub all_of_both : {X : Type 0} (P : X → Type 0) (xs ys : List X) → AllByRecursion P xs
    → AllByRecursion P ys → AllByRecursion P (xs ++ ys)
all_of_both P xs ys h1 h2 = grind (arith, common_steps)

all_mapped : {X Y : Type 0} (P : Y → Type 0) (f : X → Y) → ((x : X) → P (f x)) → (xs : List X)
    → AllByRecursion P (map f xs)
all_mapped P f holds xs = each_map P f xs (each_any (λ x. P (f x)) xs holds)

no_gap_in_parts : (ps : List Part) → AllByRecursion IsPart ps
    → NonePasses has_gap (flat_map part_words ps)
no_gap_in_parts [] are_parts = refl
no_gap_in_parts (p ∷ ps) are_parts = grind (arith, common_steps, (no_gap_in_parts ps are_parts.1))

-- ---- the text of parts

abbrev parts_text : List Part → List ℕ
parts_text ps = spaced (flat_map part_words ps)

parts_text-append : (ps qs : List Part) → parts_text (ps ++ qs) ≡ parts_text ps ++ parts_text qs
parts_text-append ps qs = simp flat_map-append

text_of_mapped : {X : Type 0} (text : X → List ℕ) (part : X → Part)
    → ((x : X) → spaced (part_words (part x)) ≡ text x) → (xs : List X)
    → parts_text (map part xs) ≡ flat_map text xs
text_of_mapped text part text_is [] = refl
text_of_mapped text part text_is (x ∷ xs) =
    grind (arith, common_steps, flat_map-append, (text_of_mapped text part text_is xs))

module _ (db : List Statement) where
  names_text : (xs : List ℕ) → spaced (map (name_at db) xs) ≡ symbols_text db xs
  names_text xs = flat_map-map (λ (w : Bytes). 32 ∷ w) (name_at db) xs

  hypothesis_part_text : (j : ℕ) → spaced (part_words (hypothesis_part db j)) ≡ hypothesis_text db j
  hypothesis_part_text j = simp (flat_map-map, append_assoc)

  pair_part_text : (p : Pair) → spaced (part_words (pair_part db p)) ≡ pair_text db p
  pair_part_text p = simp (append-nil, append_assoc)

  dummies_part_text : (xs : List ℕ) → parts_text (dummies_part db xs) ≡ dummies_text db xs
  dummies_part_text [] = refl
  dummies_part_text (x ∷ xs) = search (rules, arith, append-nil, names_text)

  hypotheses_text : (js : List ℕ)
      → parts_text (map (hypothesis_part db) js) ≡ flat_map (hypothesis_text db) js
  hypotheses_text js =
      text_of_mapped (hypothesis_text db) (hypothesis_part db) hypothesis_part_text js

  pairs_text : (ps : List Pair)
      → parts_text (map (pair_part db) ps) ≡ flat_map (pair_text db) ps
  pairs_text ps = text_of_mapped (pair_text db) (pair_part db) pair_part_text ps

  abbrev hypotheses_of : ℕ → List Part
  hypotheses_of k = map (hypothesis_part db) (mandatory_hypotheses db k)

  abbrev conditions_of : ℕ → List Part
  conditions_of k =
      map (pair_part db) (mandatory_pairs db k) ++ dummies_part db (dummies db k)
      ++ map (pair_part db) (dummy_pairs db k)

  -- the parts of the line of an assertion, and the line
  abbrev parts_of : (is_open : Bool) → ℕ → List Part
  parts_of is_open k = hypotheses_of k ++ (conditions_of k ++ formula_part db is_open k ∷ [])

  abbrev front_of : (is_open : Bool) → ℕ → Bytes
  front_of is_open k =
      label_at db k ++ (58 ∷ kind_letter is_open (is_axiom_at db k) ∷ 58
      ∷ (decimal (start_place db k) ++ (58 ∷ (decimal (end_place db k) ++ 58 ∷ []))))

  abbrev line_of : (is_open : Bool) → ℕ → Line
  line_of is_open k =
      record { front = front_of is_open k; words = flat_map part_words (parts_of is_open k) }

  formula_text : (is_open : Bool) (k : ℕ)
      → parts_text (formula_part db is_open k ∷ [])
      ≡ 32 ∷ kind_keyword is_open (is_axiom_at db k) ++ symbols_text db (formula_at db k)
  formula_text is_open k = search (rules, arith, append-nil, names_text)

  line_of_assertion : (is_open : Bool) (k : ℕ)
      → line_text (line_of is_open k) ≡ assertion_line db is_open k
  line_of_assertion is_open k =
      search (
        parts_text-append,
        hypotheses_text,
        pairs_text,
        dummies_part_text,
        formula_text,
        append_assoc,
      )

-- ---- what is spelled has lines and parts

-- no digit of a number passes a test that no digit passes
no_digit_passes : (p : ℕ → Bool) → agree_below (λ k. p (48 + k)) (λ k. false) 10 ≡ true → (n : ℕ)
    → n < 2 ^ 64 → NonePasses p (decimal n)
no_digit_passes p digits_fail =
    decimal_by_steps (λ n ds. NonePasses p ds) (λ n n_lt_10. rw (digit_fails n n_lt_10) refl)
    (λ n ds ten_le_n earlier. none_of_both p ds ((48 + n % 10) ∷ []) earlier
    (rw (digit_fails (n % 10) (omega arith)) refl))
  where
    digit_fails : (n : ℕ) → n < 10 → p (48 + n) ≡ false
    digit_fails n n_lt_10 = agree_below_at (λ k. p (48 + k)) (λ k. false) 10 n digits_fail n_lt_10

letter_is_no_gap : (is_open is_axiom : Bool) → is_gap (kind_letter is_open is_axiom) ≡ false
letter_is_no_gap is_open is_axiom = grind (arith, common_steps)

-- which parts are hypotheses, and which the formula
abbrev is_no_hypothesis : Part → Bool
is_no_hypothesis p = not (bytes_eq p.keyword (codes "$f") || bytes_eq p.keyword (codes "$e"))

abbrev is_formula : Part → Bool
is_formula p = bytes_eq p.keyword (codes "$a") || bytes_eq p.keyword (codes "$p")

hypothesis_keyword_is : (db : List Statement) (j : ℕ)
    → (has_dollar (hypothesis_keyword db j) ≡ true) × (has_gap (hypothesis_keyword db j) ≡ false)
    × (is_no_hypothesis (hypothesis_part db j) ≡ false)
hypothesis_keyword_is db j = search (rules, arith, cases_Bool)

module _ (db : List Statement) (spelled : AreSpelled db) where
  front_has_no_gap : (is_open : Bool) (k : ℕ) → NonePasses is_gap (front_of db is_open k)
  front_has_no_gap is_open k =
      search (rules, arith, list_any-append, letter_is_no_gap, no_digit_passes)

  no_name_has : (p : Bytes → Bool) → ((x : ℕ) → p (name_at db x) ≡ false) → (xs : List ℕ)
      → NonePasses p (map (name_at db) xs)
  no_name_has p fails [] = refl
  no_name_has p fails (x ∷ xs) = rw (fails x) (no_name_has p fails xs)

  names_are_plain : (keyword : Bytes) (xs : List ℕ) → has_dollar keyword ≡ true
      → has_gap keyword ≡ false
      → IsPart (record { keyword = keyword; words = map (name_at db) xs })
  names_are_plain keyword xs has no_gap = search (rules, arith, no_name_has)

  hypothesis_is_part : (j : ℕ) → IsPart (hypothesis_part db j)
  hypothesis_is_part j = search (rules, arith, hypothesis_keyword_is, no_name_has)

  pair_is_part : (p : Pair) → IsPart (pair_part db p)
  pair_is_part p = names_are_plain (codes "$d") (p.low ∷ p.high ∷ []) refl refl

  dummies_are_parts : (xs : List ℕ) → AllByRecursion IsPart (dummies_part db xs)
  dummies_are_parts [] = tt
  dummies_are_parts (x ∷ xs) = (names_are_plain (codes "$v") (x ∷ xs) refl refl, tt)

  formula_is_part : (is_open : Bool) (k : ℕ) → IsPart (formula_part db is_open k)
  formula_is_part is_open k = by_kind is_open (is_axiom_at db k)
    where
      by_kind : (o a : Bool)
          → IsPart
          (record { keyword = kind_keyword o a; words = map (name_at db) (formula_at db k) })
      by_kind true a = names_are_plain (codes "$p") (formula_at db k) refl refl
      by_kind false true = names_are_plain (codes "$a") (formula_at db k) refl refl
      by_kind false false = names_are_plain (codes "$p") (formula_at db k) refl refl

  are_parts : (is_open : Bool) (k : ℕ) → AllByRecursion IsPart (parts_of db is_open k)
  are_parts is_open k =
      all_of_both IsPart _ _
      (all_mapped IsPart (hypothesis_part db) hypothesis_is_part (mandatory_hypotheses db k))
      (all_of_both IsPart _ _ (all_of_both IsPart _ _ (all_of_both IsPart _ _
      (all_mapped IsPart (pair_part db) pair_is_part (mandatory_pairs db k))
      (dummies_are_parts (dummies db k)))
      (all_mapped IsPart (pair_part db) pair_is_part (dummy_pairs db k)))
      (formula_is_part is_open k, tt))

  is_line : (is_open : Bool) (k : ℕ) → IsLine (line_of db is_open k)
  is_line is_open k = search (rules, arith, front_has_no_gap, no_gap_in_parts, are_parts)

-- ---- which parts are hypotheses, conditions, and the formula

record IsCondition (p : Part) : Type 0 where
  no_hypothesis : is_no_hypothesis p ≡ true
  no_formula : is_formula p ≡ false

none_formula : (ps : List Part) → AllByRecursion IsCondition ps → NonePasses is_formula ps
none_formula [] are_conditions = refl
none_formula (p ∷ ps) are_conditions = grind (arith, nat_tests, (none_formula ps are_conditions.1))

conditions_begin : (ps : List Part) (f : Part) → AllByRecursion IsCondition ps
    → is_no_hypothesis f ≡ true → BeginsPassing is_no_hypothesis (ps ++ f ∷ [])
conditions_begin [] f are_conditions f_passes = f_passes
conditions_begin (p ∷ ps) f are_conditions f_passes = are_conditions.0.no_hypothesis

module _ (db : List Statement) where
  none_without : (js : List ℕ) → NonePasses is_no_hypothesis (map (hypothesis_part db) js)
  none_without [] = refl
  none_without (j ∷ js) = rw (hypothesis_keyword_is db j).2 (none_without js)

  pair_is_condition : (p : Pair) → IsCondition (pair_part db p)
  pair_is_condition p = record { no_hypothesis = refl; no_formula = refl }

  dummies_are_conditions : (xs : List ℕ) → AllByRecursion IsCondition (dummies_part db xs)
  dummies_are_conditions [] = tt
  dummies_are_conditions (x ∷ xs) = (record { no_hypothesis = refl; no_formula = refl }, tt)

  are_conditions : (k : ℕ) → AllByRecursion IsCondition (conditions_of db k)
  are_conditions k =
      search (rules, arith, all_of_both, all_mapped, pair_is_condition, dummies_are_conditions)

  formula_passes : (is_open : Bool) (k : ℕ)
      → (is_formula (formula_part db is_open k) ≡ true)
      × (is_no_hypothesis (formula_part db is_open k) ≡ true)
  formula_passes is_open k = grind (arith, common_steps)

-- ---- equal lines

module _ (db other : List Statement) (spelled : AreSpelled db) (other_spelled : AreSpelled other)
    (o p : Bool) (k j : ℕ) where
  -- the parts tell hypotheses, conditions and formula
  parts_tell : parts_of db o k ≡ parts_of other p j
      → (hypotheses_of db k ≡ hypotheses_of other j)
      × ((conditions_of db k ≡ conditions_of other j)
      × (formula_part db o k ≡ formula_part other p j))
  parts_tell equal =
      let formulas = formula_part db o k ∷ [] in
      let other_formulas = formula_part other p j ∷ [] in
      let first =
      split is_no_hypothesis (hypotheses_of db k) (hypotheses_of other j)
      (conditions_of db k ++ formulas) (conditions_of other j ++ other_formulas)
      (none_without db (mandatory_hypotheses db k))
      (none_without other (mandatory_hypotheses other j))
      (conditions_begin (conditions_of db k) (formula_part db o k) (are_conditions db k)
      (formula_passes db o k).1)
      (conditions_begin (conditions_of other j) (formula_part other p j) (are_conditions other j)
      (formula_passes other p j).1) equal in
      let second =
      split is_formula (conditions_of db k) (conditions_of other j) formulas other_formulas
      (none_formula (conditions_of db k) (are_conditions db k))
      (none_formula (conditions_of other j) (are_conditions other j))
      (formula_passes db o k).0 (formula_passes other p j).0 first.1 in
      let formulas_equal = second.1 in
      (first.0, (second.0, cc))

  -- the front tells label, kind and place
  front_tells : front_of db o k ≡ front_of other p j
      → ((label_at db k ≡ label_at other j)
      × (kind_letter o (is_axiom_at db k) ≡ kind_letter p (is_axiom_at other j)))
      × ((start_place db k ≡ start_place other j) × (end_place db k ≡ end_place other j))
  front_tells equal =
      let start = decimal (start_place db k) in
      let end = decimal (end_place db k) in
      let other_start = decimal (start_place other j) in
      let other_end = decimal (end_place other j) in
      let letter = kind_letter o (is_axiom_at db k) in
      let other_letter = kind_letter p (is_axiom_at other j) in
      let labels =
      split is_colon (label_at db k) (label_at other j)
      (58 ∷ letter ∷ 58 ∷ (start ++ (58 ∷ (end ++ 58 ∷ []))))
      (58 ∷ other_letter ∷ 58 ∷ (other_start ++ (58 ∷ (other_end ++ 58 ∷ []))))
      (spelled.labels_without_colon k) (other_spelled.labels_without_colon j) refl refl equal in
      let after_label = labels.1 in
      let letters : letter ≡ other_letter = cc in
      let after_letter : start ++ (58 ∷ (end ++ 58 ∷ []))
      ≡ other_start ++ (58 ∷ (other_end ++ 58 ∷ [])) = cc in
      let starts =
      split is_colon start other_start (58 ∷ (end ++ 58 ∷ [])) (58 ∷ (other_end ++ 58 ∷ []))
      (no_digit_passes is_colon refl (start_place db k) (spelled.places k).0)
      (no_digit_passes is_colon refl (start_place other j) (other_spelled.places j).0)
      refl refl after_letter in
      let after_start = starts.1 in
      let after_colon : end ++ 58 ∷ [] ≡ other_end ++ 58 ∷ [] = cc in
      let ends =
      split is_colon end other_end (58 ∷ []) (58 ∷ [])
      (no_digit_passes is_colon refl (end_place db k) (spelled.places k).1)
      (no_digit_passes is_colon refl (end_place other j) (other_spelled.places j).1)
      refl refl after_colon in (
        (labels.0, letters),
        (
          decimal_injective (start_place db k) (start_place other j) (spelled.places k).0
              (other_spelled.places j).0 starts.0,
          decimal_injective (end_place db k) (end_place other j) (spelled.places k).1
              (other_spelled.places j).1 ends.0,
        ),
      )

  line_tells : line_of db o k ≡ line_of other p j → in_words db o k ≡ in_words other p j
  line_tells equal = search (rules, arith, parts_tell, parts_equal, are_parts, front_tells)

lines_are : (db : List Statement) (is_open : ℕ → Bool) (ks : List ℕ)
    → flat_map line_text (map (λ k. line_of db (is_open k) k) ks)
    ≡ flat_map (λ k. assertion_line db (is_open k) k) ks
lines_are db is_open [] = refl
lines_are db is_open (k ∷ ks) =
    rw (line_of_assertion db (is_open k) k, lines_are db is_open ks) refl

assertions_equal : (db other : List Statement) (o p : ℕ → Bool) → AreSpelled db
    → AreSpelled other → (ks js : List ℕ)
    → map (λ k. line_of db (o k) k) ks ≡ map (λ j. line_of other (p j) j) js
    → map (λ k. in_words db (o k) k) ks ≡ map (λ j. in_words other (p j) j) js
assertions_equal db other o p spelled other_spelled [] [] equal = refl
assertions_equal db other o p spelled other_spelled [] (j ∷ js) equal = absurd (cc)
assertions_equal db other o p spelled other_spelled (k ∷ ks) [] equal = absurd (cc)
assertions_equal db other o p spelled other_spelled (k ∷ ks) (j ∷ js) equal =
    let heads : line_of db (o k) k ≡ line_of other (p j) j = cc in
    let tails : map (λ i. line_of db (o i) i) ks ≡ map (λ i. line_of other (p i) i) js = cc in
    ap₂ (λ (z : InWords) (zs : List InWords). z ∷ zs)
    (line_tells db other spelled other_spelled (o k) (p j) k j heads)
    (assertions_equal db other o p spelled other_spelled ks js tails)

pub lines_tell_assertions : LinesTellAssertions
lines_tell_assertions db other o p only other_only spelled other_spelled equal =
    assertions_equal db other o p spelled other_spelled _ _ (lines_equal _ _
    (all_mapped IsLine (λ k. line_of db (o k) k) (λ k. is_line db spelled (o k) k) _)
    (all_mapped IsLine (λ j. line_of other (p j) j) (λ j. is_line other other_spelled (p j) j) _)
    (lines_are db o _ ∙ equal ∙ sym (lines_are other p _)))
