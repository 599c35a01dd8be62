-- The table reads each list of statements, and what it reads is the longest list.
use Rattle.std.proofs.lemmas.Grind.{common_steps, flat_map-append}
use Rattle.std.proofs.Common.{◌≡◌, ℕ, suc, ◌+◌, ◌-◌, ◌≤◌, true, false, Bool, ◌&&◌, not, cond, List}
use Rattle.std.proofs.Common.{[], ◌∷◌, ◌++◌, length, take, codes, count_by, flat_map, refl, sym, ap}
use Rattle.std.proofs.Common.{◌∙◌, append-nil, append_assoc, arith, Option, None, length-append}
use Rattle.std.proofs.Common.{zero-add, eqb-true, ◌==◌, Some}
use Rattle.std.proofs.lemmas.List.Sums.{sum_by-append}
use Rattle.std.specs.List.{list_all}
use Rattle.std.proofs.lemmas.Bool.{and_parts}
use Rattle.mm_spec.specs.Text.{Bytes, Token, token, has_dollar, is_label, is_label_byte, Fault}
use Rattle.mm_spec.specs.Text.{fault}
use Rattle.mm_spec.specs.Statement.{Statement, constants, variables, disjoint, floating, essential}
use Rattle.mm_spec.specs.Statement.{axiomatic, provable, opening, closing, spelling_of, is_plain}
use Rattle.mm_spec.specs.Statement.{is_complete, is_opening, is_closing, AreStatements, shape_code}
use Rattle.mm_spec.specs.Statement.{AreLongestStatements}
use Rattle.mm_spec.specs.Laws.Table.{Class, plain, class, Progress, start, labelled, words, formula}
use Rattle.mm_spec.specs.Laws.Table.{Transition, unexpected, continued, completed, transition}
use Rattle.mm_spec.specs.Laws.Table.{statements_after, statements_from, statements_of}
use Rattle.mm_spec.specs.Laws.Table.{shape_fault_from, shape_fault_after, progress_from}
use Rattle.mm_spec.specs.Laws.Table.{progress_after, is_between_statements}
use Rattle.mm_spec.proofs.ShapeLaw.{Meaning, class_has_meaning, Balanced, Moves}
use Rattle.mm_spec.proofs.ShapeLaw.{balanced_with_one_more, balanced_nothing}

-- ---- a list of statements is read

-- from r on, the table reads these tokens as the statements, and then stands in q
pub record Goes (r : Progress) (us : List Token) (list : List Statement)
    (q : Progress) : Type 0 where
  pub at : (ts : List Token) → (statements_from r (us ++ ts) ≡ list ++ statements_from q ts)
      × (shape_fault_from r (us ++ ts) ≡ shape_fault_from q ts)
      × (progress_from r (us ++ ts) ≡ progress_from q ts)

goes_on : {r q p : Progress} {us vs : List Token} {list more : List Statement} → Goes r us list q
    → Goes q vs more p → Goes r (us ++ vs) (list ++ more) p
goes_on {vs = vs} first rest =
    record { at = λ ts. grind (arith, common_steps, first.at (vs ++ ts), rest.at ts) }

word_without_dollar_is_plain : (w : Bytes) → not (has_dollar w) ≡ true → class w ≡ plain
word_without_dollar_is_plain w no_dollar_in_w = grind (arith, common_steps)

label_byte_is_no_dollar : (b : ℕ) → is_label_byte b ≡ true → (b == 36) ≡ false
label_byte_is_no_dollar b is_label_byte_b = grind (arith, common_steps, eqb-true)

label_is_plain : (w : Bytes) → is_label w ≡ true → not (has_dollar w) ≡ true
label_is_plain [] is_label_w = refl
label_is_plain (b ∷ w) is_label_w =
    let later = label_is_plain w (and_parts (is_label_byte b) (is_label w) is_label_w).1 in
    grind (arith, common_steps, label_byte_is_no_dollar)

words_go : (d : ℕ) (make : List Token → ℕ → Statement) (xs ws : List Token) (k : ℕ)
    → is_plain xs ≡ true
    → Goes (words d make ws) (xs ++ token k (codes "$.") ∷ []) (make (ws ++ xs) k ∷ []) (start d)
words_go d make [] ws k are_plain = record { at = λ ts. grind (arith, common_steps) }
words_go d make (x ∷ xs) ws k are_plain =
    let tests = and_parts (not (has_dollar x.word)) (is_plain xs) are_plain in
    let rest = words_go d make xs (ws ++ x ∷ []) k tests.1 in
    record { at = λ ts. grind (arith, common_steps, word_without_dollar_is_plain, rest.at ts) }

formula_goes : (d : ℕ) (l : Token) (k : ℕ) (xs ws : List Token) (q : ℕ) → is_plain xs ≡ true
    → Goes (formula d l k ws) (xs ++ token q (codes "$=") ∷ []) []
    (words d (provable l k (ws ++ xs) q) [])
formula_goes d l k [] ws q are_plain = record { at = λ ts. grind (arith, common_steps) }
formula_goes d l k (x ∷ xs) ws q are_plain =
    let tests = and_parts (not (has_dollar x.word)) (is_plain xs) are_plain in
    let rest = formula_goes d l k xs (ws ++ x ∷ []) q tests.1 in
    record { at = λ ts. grind (arith, common_steps, word_without_dollar_is_plain, rest.at ts) }

label_goes : {d : ℕ} {l : Token} {us : List Token} {list : List Statement} {q : Progress}
    → is_label l.word ≡ true → Goes (labelled d l) us list q → Goes (start d) (l ∷ us) list q
label_goes is_label_l rest = record {
  at =
      λ ts. grind (arith, common_steps, label_is_plain, word_without_dollar_is_plain, rest.at ts);
}

body_goes : {r : Progress} {d e : ℕ} {first : Token} (make : List Token → ℕ → Statement)
    (xs : List Token) (k : ℕ)
    → transition r (class first.word) first ≡ continued (words d make []) → is_plain xs ≡ true
    → e + 0 ≡ d + 0
    → Goes r (first ∷ (xs ++ token k (codes "$.") ∷ [])) (make xs k ∷ []) (start e)
body_goes {d = d} make xs k first_is are_plain moves = record {
  at =
      let body = words_go d make xs [] k are_plain in λ ts. grind (arith, common_steps, body.at ts);
}

statement_goes : (s : Statement) (d e : ℕ) → is_complete s ≡ true → Moves d s e
    → Goes (start d) (spelling_of s) (s ∷ []) (start e)
statement_goes (constants k xs t) d e is_complete_s moves =
    body_goes (constants k) xs t refl (and_parts (is_plain xs) true is_complete_s).0 moves
statement_goes (variables k xs t) d e is_complete_s moves =
    body_goes (variables k) xs t refl (and_parts (is_plain xs) true is_complete_s).0 moves
statement_goes (disjoint k xs t) d e is_complete_s moves =
    body_goes (disjoint k) xs t refl (and_parts (is_plain xs) true is_complete_s).0 moves
statement_goes (floating l k xs t) d e is_complete_s moves =
    let tests = and_parts _ _ (and_parts (is_label l.word && is_plain xs) true is_complete_s).0 in
    label_goes tests.0 (body_goes (floating l k) xs t refl tests.1 moves)
statement_goes (essential l k xs t) d e is_complete_s moves =
    let tests = and_parts _ _ (and_parts (is_label l.word && is_plain xs) true is_complete_s).0 in
    label_goes tests.0 (body_goes (essential l k) xs t refl tests.1 moves)
statement_goes (axiomatic l k xs t) d e is_complete_s moves =
    let tests = and_parts _ _ (and_parts (is_label l.word && is_plain xs) true is_complete_s).0 in
    label_goes tests.0 (body_goes (axiomatic l k) xs t refl tests.1 moves)
statement_goes (provable l k xs q ps t) d e is_complete_s moves =
    let tests = and_parts (is_label l.word && is_plain xs) (is_plain ps) is_complete_s in
    let formula_tests = and_parts _ _ tests.0 in
    label_goes formula_tests.0 (record {
      at =
          let first = formula_goes d l k xs [] q formula_tests.1 in
          let second = words_go d (provable l k xs q) ps [] t tests.1 in
          λ ts. grind (arith, common_steps, (goes_on first second).at ts);
    })
statement_goes (opening k) d e is_complete_s moves =
    record { at = λ ts. grind (arith, common_steps) }
statement_goes (closing k) d e is_complete_s moves =
    record { at = λ ts. grind (arith, common_steps) }

count_of_first_and_rest : (p : Statement → Bool) (s : Statement) (list : List Statement)
    → count_by p (s ∷ list) ≡ cond (p s) 1 0 + count_by p list
count_of_first_and_rest p s list = grind (arith, common_steps, sum_by-append, zero-add)

first_moves : (s : Statement) (list : List Statement) (d : ℕ)
    → ((n : ℕ)
    → count_by is_closing (take n (s ∷ list)) ≤ d + count_by is_opening (take n (s ∷ list)))
    → (e : ℕ) × Moves d s e
    × ((n : ℕ) → count_by is_closing (take n list) ≤ e + count_by is_opening (take n list))
    × ((m : ℕ) → m + count_by is_closing list ≡ e + count_by is_opening list
    → m + count_by is_closing (s ∷ list) ≡ d + count_by is_opening (s ∷ list))
first_moves s list d nested = (
  d + cond (is_opening s) 1 0 - cond (is_closing s) 1 0,
  grind (arith, nested 1),
  λ n. grind (
    arith,
    nested 1,
    nested (suc n),
    count_of_first_and_rest is_opening s (take n list),
    count_of_first_and_rest is_closing s (take n list),
  ),
  λ m counts. grind (
    arith,
    nested 1,
    count_of_first_and_rest is_opening s list,
    count_of_first_and_rest is_closing s list,
  ),
)

list_goes : (list : List Statement) (d : ℕ) → list_all is_complete list ≡ true
    → ((n : ℕ) → count_by is_closing (take n list) ≤ d + count_by is_opening (take n list))
    → (e : ℕ) × (e + count_by is_closing list ≡ d + count_by is_opening list)
    × Goes (start d) (flat_map spelling_of list) list (start e)
list_goes [] d are_complete nested = (d, refl, record { at = λ ts. (refl, refl, refl) })
list_goes (s ∷ list) d are_complete nested =
    let tests = and_parts (is_complete s) (list_all is_complete list) are_complete in
    let first = first_moves s list d nested in
    let rest = list_goes list first.0 tests.1 first.2 in
    (rest.0, first.3 rest.0 rest.1, goes_on (statement_goes s d first.0 tests.0 first.1) rest.2)

-- the table goes through the tokens of a list of statements
pub statements_go : (list : List Statement) → AreStatements list
    → (e : ℕ) × Balanced e list × Goes (start 0) (flat_map spelling_of list) list (start e)
statements_go list are_statements =
    let read = list_goes list 0 are_statements.complete
    (λ n. rw zero-add (are_statements.nested n)) in
    (read.0, record { are_statements = are_statements; count = rw zero-add at read.1 }, read.2)

-- ---- what is read is spelled so, and is a list

-- how many blocks are open
abbrev pub open_in : Progress → ℕ
open_in (start d) = d
open_in (labelled d l) = d
open_in (words d make ws) = d
open_in (formula d l k ws) = d

-- the tokens spell a complete statement, before which d blocks are open, and after it e
abbrev pub Spell : ℕ → List Token → ℕ → Statement → Type 0
Spell d part e s = (spelling_of s ≡ part) × (is_complete s ≡ true) × Moves d s e

-- the tokens are what has been read of a statement
abbrev pub IsPart : Progress → List Token → Type 0
IsPart (start d) part = part ≡ []
IsPart (labelled d l) part = (is_label l.word ≡ true) × (part ≡ l ∷ [])
IsPart (words d make ws) part = (xs : List Token) (k : ℕ) → is_plain xs ≡ true
    → Spell d (part ++ (xs ++ token k (codes "$.") ∷ [])) d (make (ws ++ xs) k)
IsPart (formula d l k ws) part =
    (is_label l.word ≡ true) × (is_plain ws ≡ true) × (part ≡ l ∷ token k (codes "$p") ∷ ws)

-- what the transition by the last token of a part says of that part
abbrev IsPartAfter : ℕ → List Token → Transition → Type 0
IsPartAfter d part unexpected = Unit {0}
IsPartAfter d part (continued r) = (open_in r ≡ d) × IsPart r part
IsPartAfter d part (completed e s) = Spell d part e s

transition_holds : (r : Progress) (part : List Token) (t : Token) (k : Class) → Meaning k t.word
    → IsPart r part → IsPartAfter (open_in r) (part ++ t ∷ []) (transition r k t)
transition_holds r part t k meaning is_part = grind (arith, common_steps)

-- what is read further of the tokens, after a list and part of a statement
pub record ReadOn (list : List Statement) (part us : List Token) (more : List Statement)
    (fault : Option Fault) (q : Progress) : Type 0 where
  pub rest : List Token
  pub depth : ℕ
  pub balanced : Balanced depth (list ++ more)
  pub tokens_are : part ++ us ≡ flat_map spelling_of more ++ rest
  pub stands : fault ≡ None → (depth ≡ open_in q) × IsPart q rest

pub read_on : (us : List Token) (r : Progress) (list : List Statement) (part : List Token)
    → Balanced (open_in r) list → IsPart r part
    → ReadOn list part us (statements_from r us) (shape_fault_from r us) (progress_from r us)
read_on [] r list part balanced is_part = record {
  rest = part;
  depth = open_in r;
  balanced = rw append-nil balanced;
  tokens_are = append-nil part;
  stands = λ no_fault. (refl, is_part);
}
read_on (t ∷ us) r list part balanced is_part =
    (elim (transition r (class t.word) t) as (λ o. IsPartAfter (open_in r) (part ++ t ∷ []) o
    → ReadOn list part (t ∷ us) (statements_after o (λ q. statements_from q us))
    (shape_fault_after o (Some (fault t.at (shape_code (is_between_statements r) t.word)))
    (λ q. shape_fault_from q us)) (progress_after o (λ q. progress_from q us) r)) [
      | unexpected ↦ λ after. record {
        rest = part ++ t ∷ us;
        depth = open_in r;
        balanced = rw append-nil balanced;
        tokens_are = refl;
        stands = λ no_fault. absurd (cc);
      }
      | continued q ↦ λ after.
          let on = read_on us q list (part ++ t ∷ []) (rw after.0 balanced) after.1 in
          record {
            rest = on.rest;
            depth = on.depth;
            balanced = on.balanced;
            tokens_are = sym (append_assoc part (t ∷ []) us) ∙ on.tokens_are;
            stands = on.stands;
          }
      | completed e s ↦ λ after.
          let on = read_on us (start e) (list ++ s ∷ []) []
          (balanced_with_one_more s balanced after.1 after.2) refl in
          record {
            rest = on.rest;
            depth = on.depth;
            balanced = rw append_assoc at on.balanced;
            tokens_are = rw (append_assoc, ← on.tokens_are, after.0, append_assoc) refl;
            stands = on.stands;
          }
    ]) (transition_holds r part t (class t.word) (class_has_meaning t.word) is_part)

-- what is read of all tokens
pub read_all : (ts : List Token)
    → ReadOn [] [] ts (statements_of ts) (shape_fault_from (start 0) ts)
    (progress_from (start 0) ts)
read_all ts = read_on ts (start 0) [] [] balanced_nothing refl

-- ---- the longest list, and no other

too_long : (list more : List Statement) (s : Statement) → ¬ (list ≡ (list ++ s ∷ []) ++ more)
too_long list more s lists_equal =
    let lengths_equal = ap length lists_equal in
    omega (arith, lengths_equal, length-append {A = Statement})

-- the statements that are read are the longest list
pub read_statements_are_longest : (ts : List Token) → AreLongestStatements ts (statements_of ts)
read_statements_are_longest ts =
    let read = read_all ts in
    record {
      are_statements = read.balanced.are_statements;
      rest = read.rest;
      splits = read.tokens_are;
      longest = λ s more are_statements rest_is.
          let list = statements_of ts in
          let again = statements_go (list ++ s ∷ []) are_statements in
          let tokens_are : ts ≡ flat_map spelling_of (list ++ s ∷ []) ++ more =
          rw (flat_map-append) (grind (arith, common_steps, read.tokens_are, rest_is)) in
          too_long list (statements_from (start again.0) more) s
          (ap statements_of tokens_are ∙ (again.2.at more).0);
    }

-- a front of a list is one
front_are_statements : (xs ys : List Statement) → AreStatements (xs ++ ys) → AreStatements xs
front_are_statements xs ys are_statements = record {
  complete = grind (arith, common_steps, are_statements.complete);
  nested = λ n.
      let front = are_statements.nested n in
      let whole = are_statements.nested (length xs) in
      grind (arith, common_steps);
}

pub longest_is_what_is_read : (ts : List Token) (list : List Statement)
    → AreLongestStatements ts list → statements_of ts ≡ list
longest_is_what_is_read ts list longest =
    let again = statements_go list longest.are_statements in
    let on = read_on longest.rest (start again.0) list [] again.1 refl in
    ap statements_of longest.splits ∙ (again.2.at longest.rest).0
    ∙ ap (λ y. list ++ y) (no_more (statements_from (start again.0) longest.rest) on.rest
    on.balanced.are_statements on.tokens_are)
    ∙ append-nil list
  where
    no_more : (more : List Statement) (rest : List Token) → AreStatements (list ++ more)
        → longest.rest ≡ flat_map spelling_of more ++ rest → more ≡ []
    no_more [] rest are_statements rest_is = refl
    no_more (s ∷ more) rest are_statements rest_is =
        absurd (longest.longest s (flat_map spelling_of more ++ rest)
        (front_are_statements (list ++ s ∷ []) more (rw append_assoc are_statements))
        (rw append_assoc at rest_is))
