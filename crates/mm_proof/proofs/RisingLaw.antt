-- The words of a proof rise, since those of the text do.
use Rattle.std.proofs.Common.{rules, ◌<◌, refl, ◌≡◌, ◌∙◌, ℕ, zero, suc, ◌+◌, ◌-◌, ◌≤◌, List, []}
use Rattle.std.proofs.Common.{◌∷◌, ◌++◌, length, map, flat_map, get_or, Option, Some, slice_get}
use Rattle.std.proofs.Common.{codes, sym, ap, subst, arith, append_assoc, length-append, drop}
use Rattle.std.proofs.lemmas.Grind.{common_steps}
use Rattle.std.proofs.lemmas.Bool.Decides.{nat_tests}
use Rattle.mm_database.specs.Database.{Contents}
use Rattle.std.specs.List.{AllPairs, All}
use Rattle.std.proofs.lemmas.List.{get_or_append_left, append-nil, length-take-le, length-drop}
use Rattle.std.proofs.lemmas.List.{length-map}
use Rattle.std.proofs.lemmas.List.Elements.{All-head}
use Rattle.mm_spec.specs.Text.{Token, token}
use Rattle.mm_spec.specs.declared.Fault.{Fault}
use Rattle.mm_spec.specs.declared.Word.{Word}
use Rattle.mm_spec.specs.Laws.Words.{IsWord}
use Rattle.mm_spec.specs.Readings.{bytes_of}
use Rattle.mm_spec.specs.Lexed as lexed
use Rattle.mm_spec.specs.Statement.{Statement, provable, spelling_of}
use Rattle.mm_spec.specs.Opened.{open_as_axioms}
use Rattle.mm_spec.specs.Lexed.{lexed_of}
use Rattle.mm_spec.specs.Output.{IsRead}
use Rattle.mm_spec.proofs.OpenedLaw.{theorem_read}
use Rattle.mm_spec.proofs.ListLaw.{pairs_head, pairs_tail}
use Rattle.mm_outline.proofs.StatementsLaw.{element_of_mapped}
use Rattle.mm_outline.proofs.TokensLaw.{tokens_rise, tokens_are_words}
use Rattle.mm_proof.specs.Letters.{AreInOrder}
use Rattle.mm_outline.specs.Parts.{as_tokens}
use Rattle.mm_proof.proofs.ReadLaw.{IsProvable}
use Rattle.mm_proof.proofs.BracketsLaw.{in_order_after_first}
use Rattle.mm_proof.proofs.LeastLaw.{StandsEarlier, pairs_of_back}

-- the words rise, and have bytes
abbrev Follows : Token → Token → Type 0
Follows t u = (1 ≤ length t.word) × (t.at + length t.word ≤ u.at)

-- each word of rising words begins after the ones before it
words_follow : (text : List ℕ) (ws : List Word) → All (IsWord text) ws
    → AllPairs (λ (v w : Word). v.end ≤ w.start) ws
    → AllPairs Follows (map (λ w. token w.start (bytes_of text w)) ws)
words_follow text ws are_words words_ascend = λ i j d i_lt_j j_lt_length.
    let token_of_word : Word → Token = λ w. token w.start (bytes_of text w) in
    let no_word : Word = record { start = 0; end = 0 } in
    let j_lt_words : j < length ws = omega (arith, j_lt_length, length-map ws token_of_word) in
    let i_lt_words : i < length ws = omega (arith, i_lt_j, j_lt_words) in
    let w = get_or ws i no_word in
    let w_is_word = are_words i no_word i_lt_words in
    let next_is_after_w = words_ascend i j no_word i_lt_j j_lt_words in
    let byte_count =
    length-take-le (w.end - w.start) (drop w.start text)
    (omega (arith, w_is_word.within, length-drop w.start text)) in
    rw (
      element_of_mapped token_of_word ws i no_word d i_lt_words,
      element_of_mapped token_of_word ws j no_word d j_lt_words,
    ) (
      omega (arith, byte_count, w_is_word.nonempty),
      omega (arith, byte_count, next_is_after_w, w_is_word.nonempty),
    )

-- what holds of all pairs of a list holds of those of its front part
pairs_of_front : {X : Type 0} (R : X → X → Type 0) (xs ys : List X) → AllPairs R (xs ++ ys)
    → AllPairs R xs
pairs_of_front R xs ys pairs_are_related = search (rules, arith, get_or_append_left, length-append)

-- a list that stands within another
pub record StandsIn (xs ys : List Token) : Type 0 where
  pub tokens_before : List Token
  pub tokens_after : List Token
  pub splits : ys ≡ tokens_before ++ (xs ++ tokens_after)

-- what follows in a list also follows in a part of it
pairs_of_inner : (xs ys : List Token) → StandsIn xs ys → AllPairs Follows ys → AllPairs Follows xs
pairs_of_inner xs ys stands_in ys_follow =
    pairs_of_front Follows xs stands_in.tokens_after
    (pairs_of_back Follows stands_in.tokens_before (xs ++ stands_in.tokens_after)
    (subst (AllPairs Follows) stands_in.splits ys_follow))

-- the tokens of a statement stand in those of the database
statement_stands_in : (db : List Statement) (k : ℕ) (s : Statement) → slice_get db k ≡ Some s
    → StandsIn (spelling_of s) (flat_map spelling_of db)
statement_stands_in [] k s s_is_statement_k = absurd (cc)
statement_stands_in (x ∷ db) zero s s_is_statement_k = grind (arith, common_steps)
statement_stands_in (x ∷ db) (suc k) s s_is_statement_k =
    let stands_in_rest = statement_stands_in db k s s_is_statement_k in
    record {
      tokens_before = spelling_of x ++ stands_in_rest.tokens_before;
      tokens_after = stands_in_rest.tokens_after;
      splits = ap (λ z. spelling_of x ++ z) stands_in_rest.splits
          ∙ sym (append_assoc (spelling_of x) stands_in_rest.tokens_before
          (spelling_of s ++ stands_in_rest.tokens_after));
    }

-- a statement keeps its number if statements are added at the end
slice_get_of_longer : (db rest : List Statement) (k : ℕ) (s : Statement) → slice_get db k ≡ Some s
    → slice_get (db ++ rest) k ≡ Some s
slice_get_of_longer [] rest k s s_is_statement_k = absurd (cc)
slice_get_of_longer (x ∷ db) rest zero s s_is_statement_k = s_is_statement_k
slice_get_of_longer (x ∷ db) rest (suc k) s s_is_statement_k =
    slice_get_of_longer db rest k s s_is_statement_k

-- tokens that follow each other are in order
following_are_in_order : (from : ℕ) (ts : List Token) (d : Token) → AllPairs Follows (ts ++ d ∷ [])
    → All (λ t. from ≤ t.at) (ts ++ d ∷ []) → AreInOrder from ts d.at
following_are_in_order from [] d tokens_follow from_le_places = grind (arith, nat_tests, All-head)
following_are_in_order from (t ∷ ts) d tokens_follow from_le_places =
    let later_follow_t = pairs_head Follows t (ts ++ d ∷ []) tokens_follow in (
      All-head (λ (t : Token). from ≤ t.at) t (ts ++ d ∷ []) from_le_places,
      (later_follow_t 0 d (omega (arith, length-append ts (d ∷ [])))).0,
      following_are_in_order
          (t.at + length t.word) ts d (pairs_tail Follows t (ts ++ d ∷ []) tokens_follow)
          (λ i x x_lt_length. (later_follow_t i x x_lt_length).1),
    )

module _ (d : Contents) {fault : Option Fault}
    (is_read : IsRead (length d.text) (lexed_of d.text) d.read fault)
    (counted_are : d.statements ≡ open_as_axioms d.with_open d.read) {k : ℕ} {ws : List Word}
    (is_provable : IsProvable d.statements k d.text ws) where
  -- the words of a proof and the `$.` after them
  proof_words_follow : AllPairs Follows
      (as_tokens d.text ws ++ token is_provable.dot (codes "$.") ∷ [])
  proof_words_follow =
      let l = is_provable.label in
      let p = is_provable.keyword in
      let xs = is_provable.symbols in
      let e = is_provable.equals in
      let ps = as_tokens d.text ws in
      let end_of_proof = ps ++ token is_provable.dot (codes "$.") ∷ [] in
      let s = provable l p xs e ps is_provable.dot in
      let stands_in =
      statement_stands_in is_read.statements k s
      (rw is_read.splits (slice_get_of_longer d.read is_read.rest k s
      (theorem_read d.with_open d.read k l p xs e ps is_provable.dot
      (subst (λ c. slice_get c k ≡ Some s) counted_are is_provable.statement_is)))) in
      pairs_of_inner end_of_proof (spelling_of s)
      (record {
        tokens_before = l ∷ token p (codes "$p") ∷ (xs ++ token e (codes "$=") ∷ []);
        tokens_after = [];
        splits = rw (
          append-nil end_of_proof,
          append_assoc xs (token e (codes "$=") ∷ []) end_of_proof,
        ) refl;
      })
      (pairs_of_inner (spelling_of s)
      (map (λ w. token w.start (bytes_of d.text w)) (lexed.tokens_of d.text))
      (record {
        tokens_before = stands_in.tokens_before;
        tokens_after = stands_in.tokens_after ++ is_read.are_statements.rest;
        splits = is_read.are_statements.splits ∙ rw (
          stands_in.splits,
          append_assoc stands_in.tokens_before (spelling_of s ++ stands_in.tokens_after)
              is_read.are_statements.rest,
          append_assoc (spelling_of s) stands_in.tokens_after is_read.are_statements.rest,
        ) refl;
      })
      (words_follow d.text (lexed.tokens_of d.text) (tokens_are_words d.text) (tokens_rise d.text)))

  -- each word of a proof stands after the one before it
  pub proof_words_rise : AllPairs StandsEarlier (as_tokens d.text ws)
  proof_words_rise =
      λ i j x i_lt_j j_lt_length. let words_follow_each_other =
      pairs_of_front Follows (as_tokens d.text ws) (token is_provable.dot (codes "$.") ∷ [])
      proof_words_follow i j x i_lt_j j_lt_length in
      omega (arith, words_follow_each_other.0, words_follow_each_other.1)

  -- the words of a proof after its first are in order
  pub rest_is_in_order : {first : Word} {rest : List Word} {end : ℕ} → ws ≡ first ∷ rest
      → is_provable.dot ≡ end → AreInOrder 0 (as_tokens d.text rest) end
  rest_is_in_order {first = first} {rest = rest} {end = end} split dot_is_end =
      in_order_after_first d.text first rest 0 end
      (subst (λ ws. AreInOrder 0 (as_tokens d.text ws) end) split
      (subst (AreInOrder 0 (as_tokens d.text ws)) dot_is_end
      (following_are_in_order 0 (as_tokens d.text ws) (token is_provable.dot (codes "$."))
      proof_words_follow (λ i x x_lt_length. omega arith))))
