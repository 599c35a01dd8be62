-- What is read of a text is spelled as the lines of the statements need it.
use Rattle.std.proofs.Common.{rules, ◌≡◌, ℕ, zero, suc, ◌+◌, ◌^◌, ◌<◌, ◌≤◌, Bool, true, false}
use Rattle.std.proofs.Common.{◌&&◌, not, ◌==◌, inl, inr, List, [], ◌∷◌, ◌++◌, length, map}
use Rattle.std.proofs.Common.{Option, Some, None, is_some, refl, sym, ap, ◌∙◌, subst, arith}
use Rattle.std.proofs.Common.{eqb-true, append-nil}
use Rattle.std.specs.Prelude.{flat_map, unwrap_or, slice_get, codes}
use Rattle.std.specs.Option.{option_map, option_and_then}
use Rattle.std.specs.List.{list_any, list_all, AllByRecursion}
use Rattle.std.proofs.lemmas.Bool.{and_parts, cases_lt, or_from, false_from_ne_true, not-true}
use Rattle.std.proofs.lemmas.Grind.{common_steps}
use Rattle.mm_laws.proofs.ToldLaw.{all_of_both}
use Rattle.std.proofs.lemmas.List.Elements.{recursion_from_All, All-weaker}
use Rattle.mm_spec.specs.Text.{Bytes, Token, token, has_dollar, words, is_label}
use Rattle.mm_spec.specs.Bytes.{is_printable}
use Rattle.mm_spec.specs.Limits.{text_limit}
use Rattle.mm_spec.specs.Words.{words_of}
use Rattle.mm_spec.specs.Laws.Words.{IsWord}
use Rattle.mm_spec.specs.Roles.{is_token, is_clean, role_of}
use Rattle.mm_spec.specs.Readings.{reading, bytes_of}
use Rattle.mm_spec.specs.Lexed.{lexed_of}
use Rattle.mm_spec.specs.Statement.{Statement, constants, variables, disjoint, floating, essential}
use Rattle.mm_spec.specs.Statement.{axiomatic, provable, opening, closing, spelling_of, symbols_of}
use Rattle.mm_spec.specs.Statement.{is_complete, is_plain, label_of, is_label_if_any}
use Rattle.mm_spec.specs.Opened.{as_axiom, open_as_axioms}
use Rattle.mm_spec.specs.Scope.{label_words, constants_of, variables_of}
use Rattle.mm_spec.specs.Frame.{first_occurrences}
use Rattle.mm_spec.specs.Assertion.{end_at}
use Rattle.mm_spec.specs.declared.Word.{Word}
use Rattle.mm_spec.specs.declared.Role.{Role}
use Rattle.mm_spec.specs.declared.Role.TheVariants as role
use Rattle.mm_spec.proofs.ReadingsLaw.{read_as_token, reading_token, reading_faulty, reading_end}
use Rattle.mm_spec.proofs.ReadingsLaw.{reading_opening, reading_closing, reading_comment}
use Rattle.mm_spec.proofs.WordsLaw.{words_of_are_words}
use Rattle.mm_spec.proofs.LexedLaw.{tokens_of_long, tokens_of_read}
use Rattle.mm_laws.specs.Laws.Told.{is_gap, is_colon, IsLineWord, AreSpelled, ReadIsSpelled}

-- ---- the bytes of words

-- a byte that passes a test isn't one that fails it
differs : (p : ℕ → Bool) (c : ℕ) → p c ≡ false → (b : ℕ) → p b ≡ true → (b == c) ≡ false
differs p c c_fails b passes = search (rules, arith, false_from_ne_true, eqb-true)

none_if_all : (p q : ℕ → Bool) → ((b : ℕ) → p b ≡ true → q b ≡ false) → (w : Bytes)
    → list_all p w ≡ true → list_any q w ≡ false
none_if_all p q fails [] all_pass = refl
none_if_all p q fails (b ∷ w) all_pass =
    let parts = and_parts (p b) (list_all p w) all_pass in
    rw (fails b parts.0) (none_if_all p q fails w parts.1)

is_no_gap : (p : ℕ → Bool) → p 10 ≡ false → p 32 ≡ false → (b : ℕ) → p b ≡ true → is_gap b ≡ false
is_no_gap p fails_10 fails_32 b passes = grind (arith, common_steps, or_from, differs)

token_has_no_gap : (w : Bytes) → is_token w ≡ true → list_any is_gap w ≡ false
unfolding is_token is_clean is_printable
token_has_no_gap w passes = search (rules, arith, none_if_all, is_no_gap, and_parts)

label_is_plain : (w : Bytes) → is_label w ≡ true → IsLineWord w
label_is_plain w passes = search (rules, arith, none_if_all, is_no_gap, differs)

label_has_no_colon : (w : Bytes) → is_label w ≡ true → list_any is_colon w ≡ false
label_has_no_colon w passes = grind (arith, common_steps, none_if_all, differs)

-- ---- tokens

abbrev IsTokenWord : List ℕ → Word → Type 0
IsTokenWord text w = (is_token (bytes_of text w) ≡ true) × (w.start < length text)

record IsTextToken (t : Token) : Type 0 where
  is_token : is_token t.word ≡ true
  place : t.at < 2 ^ 31

-- the tokens that words are read as
read_tokens : (text : List ℕ) (open_comment : Option ℕ) (ws : List Word)
    → AllByRecursion (λ w. w.start < length text) ws
    → AllByRecursion (IsTokenWord text) (reading text open_comment ws).tokens
read_tokens text open_comment [] starts = rw (reading_end text open_comment) tt
read_tokens text open_comment (w ∷ ws) starts =
    by_role (role_of (is_some open_comment) (bytes_of text w)) refl
    (λ comment. read_tokens text comment ws starts.1)
  where
    by_role : (r : Role) → role_of (is_some open_comment) (bytes_of text w) ≡ r
        → ((comment : Option ℕ) → AllByRecursion (IsTokenWord text) (reading text comment
        ws).tokens)
        → AllByRecursion (IsTokenWord text) (reading text open_comment (w ∷ ws)).tokens
    by_role role.Token role_is later =
        rw (reading_token text [] open_comment w ws role_is) (
          (read_as_token (is_some open_comment) (bytes_of text w) role_is, starts.0),
          later open_comment,
        )
    by_role role.Opening role_is later =
        rw (reading_opening text open_comment w ws role_is) (later (Some w.start))
    by_role role.Closing role_is later =
        rw (reading_closing text open_comment w ws role_is) (later None)
    by_role role.Comment role_is later =
        rw (reading_comment text open_comment w ws role_is) (later open_comment)
    by_role role.Faulty role_is later = rw (reading_faulty text open_comment w ws role_is) tt

words_start_within : (text : List ℕ) → AllByRecursion (λ w. w.start < length text) (words_of text)
words_start_within text =
    recursion_from_All (λ w. w.start < length text) (words_of text)
    (All-weaker (IsWord text) (λ w. w.start < length text)
    (λ w is_word. omega (arith, is_word.nonempty, is_word.within))
    (words_of text) (words_of_are_words text).each)

tokens_are_text_tokens : (text : List ℕ) → AllByRecursion IsTextToken (lexed_of text).tokens
tokens_are_text_tokens text = elim (cases_lt text_limit (length text)) [
  | inl too_long ↦ subst are_text_tokens (sym (tokens_of_long text too_long)) tt
  | inr fits ↦ subst are_text_tokens
      (sym (tokens_of_read text (reading text None (words_of text)) fits refl))
      (as_tokens (reading text None (words_of text)).tokens fits
      (read_tokens text None (words_of text) (words_start_within text)))
]
  where
    as_tokens : (ws : List Word) → length text ≤ text_limit → AllByRecursion (IsTokenWord text) ws
        → AllByRecursion IsTextToken (map (λ w. token w.start (bytes_of text w)) ws)
    as_tokens [] fits are_tokens = tt
    as_tokens (w ∷ ws) fits are_tokens = (
      record { is_token = are_tokens.0.0; place = omega (arith, fits, are_tokens.0.1) },
      as_tokens ws fits are_tokens.1,
    )

    are_text_tokens : List Word → Type 0
    are_text_tokens ws = AllByRecursion IsTextToken (map (λ w. token w.start (bytes_of text w)) ws)

-- ---- statements

-- what is true of all elements of two lists
all_split : {X : Type 0} (P : X → Type 0) (xs ys : List X) → AllByRecursion P (xs ++ ys)
    → AllByRecursion P xs × AllByRecursion P ys
all_split P [] ys all_hold = (tt, all_hold)
all_split P (x ∷ xs) ys (holds, later) = grind (arith, common_steps, (all_split P xs ys later))

-- a statement whose words are spelled as the lines need it
record FitsLines (s : Statement) : Type 0 where
  label : IsLineWord (flat_map (λ w. w) (label_words s))
  label_without_colon : list_any is_colon (flat_map (λ w. w) (label_words s)) ≡ false
  symbols : AllByRecursion IsLineWord (words (symbols_of s))
  start : unwrap_or (option_map (λ t. t.at) (label_of s)) 0 < 2 ^ 31
  end : end_at s < 2 ^ 31

no_label_is_plain : IsLineWord []
no_label_is_plain = record { no_gap = refl; no_dollar = refl }

-- tokens that are plain are words that a line can have
tokens_are_line_words : (xs : List Token) → AllByRecursion IsTextToken xs → is_plain xs ≡ true
    → AllByRecursion IsLineWord (words xs)
tokens_are_line_words [] are_tokens plain = tt
tokens_are_line_words (x ∷ xs) are_tokens plain =
    let parts = and_parts (not (has_dollar x.word)) (is_plain xs) plain in (
      record {
        no_gap = token_has_no_gap x.word are_tokens.0.is_token;
        no_dollar = not-true (has_dollar x.word) parts.0;
      },
      tokens_are_line_words xs are_tokens.1 parts.1,
    )

-- a statement without a label
plain_unlabelled_fits : (s : Statement) (xs : List Token) (t : Token) → label_of s ≡ None
    → symbols_of s ≡ xs → AllByRecursion IsTextToken xs → is_plain xs ≡ true
    → IsTextToken t → end_at s ≡ t.at → FitsLines s
plain_unlabelled_fits s xs t no_label symbols_are are_tokens plain last end_is =
    search (rules, arith, no_label_is_plain, tokens_are_line_words)

-- a statement with a label
plain_labelled_fits : (s : Statement) (l : Token) (xs : List Token) (t : Token)
    → label_of s ≡ Some l → symbols_of s ≡ xs → IsTextToken l → is_label l.word ≡ true
    → AllByRecursion IsTextToken xs → is_plain xs ≡ true → IsTextToken t → end_at s ≡ t.at
    → FitsLines s
plain_labelled_fits s l xs t label_is symbols_are label_token is_label_word are_tokens plain last
    end_is = record {
      label = rw (label_is, label_words, append-nil l.word) (label_is_plain l.word is_label_word);
      label_without_colon =
          rw (label_is, label_words, append-nil l.word) (label_has_no_colon l.word is_label_word);
      symbols = rw symbols_are (tokens_are_line_words xs are_tokens plain);
      start = rw label_is label_token.place;
      end = omega (arith, last.place, end_is);
    }

complete_parts : (a b c : Bool) → (a && b && c) ≡ true
    → (a ≡ true) × ((b ≡ true) × (c ≡ true))
complete_parts a b c complete = grind (arith, common_steps, and_parts)

-- a complete statement without a label: its keyword, its symbols and its `$.`
unlabelled_fits : (s : Statement) (k : ℕ) (xs : List Token) (d : ℕ) (keyword : Bytes)
    → label_of s ≡ None → symbols_of s ≡ xs → end_at s ≡ d
    → AllByRecursion IsTextToken (token k keyword ∷ (xs ++ token d (codes "$.") ∷ []))
    → is_complete s ≡ true → FitsLines s
unlabelled_fits s k xs d keyword no_label symbols_are end_is are_tokens complete =
    let parts = complete_parts _ (is_plain (symbols_of s)) _ complete in
    let tokens = all_split IsTextToken xs (token d (codes "$.") ∷ []) are_tokens.1 in
    plain_unlabelled_fits s xs (token d (codes "$.")) no_label symbols_are tokens.0
    (sym (ap is_plain symbols_are) ∙ parts.1.0) tokens.1.0 end_is

-- a complete statement with a label
labelled_fits : (s : Statement) (l : Token) (k : ℕ) (xs : List Token) (d : ℕ)
    (keyword : Bytes)
    → label_of s ≡ Some l → symbols_of s ≡ xs → end_at s ≡ d
    → AllByRecursion IsTextToken (l ∷ token k keyword ∷ (xs ++ token d (codes "$.") ∷ []))
    → is_complete s ≡ true → FitsLines s
labelled_fits s l k xs d keyword label_is symbols_are end_is are_tokens complete =
    let parts = complete_parts (is_label_if_any (label_of s)) (is_plain (symbols_of s)) _ complete
    in
    let tokens = all_split IsTextToken xs (token d (codes "$.") ∷ []) are_tokens.1.1 in
    plain_labelled_fits s l xs (token d (codes "$.")) label_is symbols_are are_tokens.0
    (sym (ap is_label_if_any label_is) ∙ parts.0) tokens.0
    (sym (ap is_plain symbols_are) ∙ parts.1.0) tokens.1.0 end_is

-- a complete statement of tokens
statement_fits : (s : Statement) → AllByRecursion IsTextToken (spelling_of s)
    → is_complete s ≡ true → FitsLines s
statement_fits (constants k xs d) are_tokens complete = search (rules, arith, unlabelled_fits)
statement_fits (variables k xs d) are_tokens complete = search (rules, arith, unlabelled_fits)
statement_fits (disjoint k xs d) are_tokens complete = search (rules, arith, unlabelled_fits)
statement_fits (floating l k xs d) are_tokens complete = search (rules, arith, labelled_fits)
statement_fits (essential l k xs d) are_tokens complete = search (rules, arith, labelled_fits)
statement_fits (axiomatic l k xs d) are_tokens complete = search (rules, arith, labelled_fits)
statement_fits (provable l k xs e ps d) are_tokens complete =
    let parts = complete_parts (is_label l.word) (is_plain xs) (is_plain ps) complete in
    let formula_and_proof =
    all_split IsTextToken xs (token e (codes "$=") ∷ (ps ++ token d (codes "$.") ∷ []))
    are_tokens.1.1 in
    plain_labelled_fits _ l xs (token d (codes "$.")) refl refl are_tokens.0 parts.0
    formula_and_proof.0
    parts.1.0 (all_split IsTextToken ps (token d (codes "$.") ∷ []) formula_and_proof.1.1).1.0 refl
statement_fits (opening k) are_tokens complete = grind (arith, common_steps, plain_unlabelled_fits)
statement_fits (closing k) are_tokens complete = grind (arith, common_steps, plain_unlabelled_fits)

all_statements_fit : (ss : List Statement)
    → AllByRecursion IsTextToken (flat_map spelling_of ss) → list_all is_complete ss ≡ true
    → AllByRecursion FitsLines ss
all_statements_fit [] are_tokens complete = tt
all_statements_fit (s ∷ ss) are_tokens complete =
    let parts = and_parts (is_complete s) (list_all is_complete ss) complete in
    let tokens = all_split IsTextToken (spelling_of s) (flat_map spelling_of ss) are_tokens in
    (statement_fits s tokens.0 parts.0, all_statements_fit ss tokens.1 parts.1)

-- ---- statements as they count

open_fits : (s : Statement) → FitsLines s → FitsLines (as_axiom s)
open_fits s h1 = grind (arith, common_steps)

counted_are_spelled : (with_open : Bool) (db : List Statement) → AllByRecursion FitsLines db
    → AllByRecursion FitsLines (open_as_axioms with_open db)
counted_are_spelled false db are_spelled = are_spelled
counted_are_spelled true [] are_spelled = tt
counted_are_spelled true (s ∷ db) are_spelled =
    (open_fits s are_spelled.0, counted_are_spelled true db are_spelled.1)

-- ---- the database

module _ {X : Type 0} (Q : X → Type 0) (P : Option X → Type 0) where
  -- what is true of nothing and of each element is true of the element with an index
  of_got : P None → ((x : X) → Q x → P (Some x)) → (xs : List X) → AllByRecursion Q xs → (i : ℕ)
      → P (slice_get xs i)
  of_got of_none of_some [] are_q zero = of_none
  of_got of_none of_some [] are_q (suc i) = of_none
  of_got of_none of_some (x ∷ xs) are_q zero = of_some x are_q.0
  of_got of_none of_some (x ∷ xs) are_q (suc i) = of_got of_none of_some xs are_q.1 i

declared_words : (s : Statement) → FitsLines s
    → AllByRecursion IsLineWord (constants_of s ++ variables_of s)
declared_words s h1 = grind (arith, common_steps, append-nil)

all_declared : (db : List Statement) → AllByRecursion FitsLines db
    → AllByRecursion IsLineWord (flat_map (λ s. constants_of s ++ variables_of s) db)
all_declared [] are_spelled = tt
all_declared (s ∷ db) are_spelled =
    grind (arith, common_steps, all_of_both, declared_words, (all_declared db are_spelled.1))

first_are_plain : (earlier ws : List Bytes) → AllByRecursion IsLineWord ws
    → AllByRecursion IsLineWord (first_occurrences earlier ws)
first_are_plain earlier [] are_plain = tt
first_are_plain earlier (w ∷ ws) are_plain =
    grind (
      arith,
      (first_are_plain earlier ws are_plain.1),
      (first_are_plain (w ∷ earlier) ws are_plain.1),
    )

-- the label of what may be a statement
abbrev label_in : Option Statement → Bytes
label_in o = flat_map (λ w. w) (flat_map label_words (elim o [ None ↦ [] | Some s ↦ s ∷ [] ]))

label_in_is : (s : Statement) → label_in (Some s) ≡ flat_map (λ w. w) (label_words s)
label_in_is s = ap (flat_map (λ w. w)) (append-nil (label_words s))

spelled_database : (db : List Statement) → AllByRecursion FitsLines db → AreSpelled db
spelled_database db are_spelled = record {
  labels = of_got FitsLines (λ o. IsLineWord (label_in o)) no_label_is_plain
      (λ s spelled. subst IsLineWord (sym (label_in_is s)) spelled.label) db are_spelled;
  labels_without_colon =
      of_got FitsLines (λ o. list_any is_colon (label_in o) ≡ false) refl (λ s spelled. ap (list_any
      is_colon) (label_in_is s) ∙ spelled.label_without_colon) db are_spelled;
  names = of_got IsLineWord (λ o. IsLineWord (unwrap_or o [])) no_label_is_plain
      (λ w plain. plain) _ (first_are_plain [] _ (all_declared db are_spelled));
  places = λ k. (
    of_got FitsLines
        (λ o. unwrap_or (option_map (λ t. t.at) (option_and_then label_of o)) 0 < 2 ^ 64)
        (omega arith) (λ s spelled. omega (arith, spelled.start)) db are_spelled k,
    of_got FitsLines (λ o. unwrap_or (option_map end_at o) 0 + 2 < 2 ^ 64) (omega arith)
        (λ s spelled. omega (arith, spelled.end)) db are_spelled k,
  );
}

pub read_is_spelled : ReadIsSpelled
read_is_spelled text db fault is_read with_open =
    spelled_database (open_as_axioms with_open db) (counted_are_spelled with_open db
    (all_split FitsLines db is_read.rest (subst (AllByRecursion FitsLines) is_read.splits
    (all_statements_fit is_read.statements
    (all_split IsTextToken (flat_map spelling_of is_read.statements) is_read.are_statements.rest
    (subst (AllByRecursion IsTextToken) is_read.are_statements.splits
    (tokens_are_text_tokens text))).0 is_read.are_statements.are_statements.complete))).0)
