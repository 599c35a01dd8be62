-- A list of words goes on: by one word, and by words whose readings are known.
use Rattle.std.proofs.Common.{◌≡◌, ℕ, zero, suc, ◌+◌, ◌-◌, ◌≤◌, ◌||◌, Bool, true, false, List, []}
use Rattle.std.proofs.Common.{◌∷◌, ◌++◌, length, Option, Some, None, MatchOption, is_some, refl}
use Rattle.std.proofs.Common.{sym, ap, subst, ◌∙◌, ⊎_elim, append-nil, arith, rules}
use Rattle.std.proofs.lemmas.Bool.{cases_lt}
use Rattle.std.proofs.Math.Bool.{or-true}
use Rattle.std.proofs.lemmas.Option.{same_Some}
use Rattle.std.proofs.lemmas.Grind.{common_steps}
use Rattle.mm_spec.specs.declared.Word.{Word}
use Rattle.mm_spec.specs.declared.Fault.{Fault}
use Rattle.mm_spec.specs.declared.Role.{Role}
use Rattle.mm_spec.specs.declared.Role.TheVariants as roles
use Rattle.mm_lex.specs.declared.modes.CommentState.{CommentState}
use Rattle.mm_lex.specs.declared.modes.CommentState.TheVariants.{Nowhere, Before, At}
use Rattle.mm_spec.specs.Roles.{role_of, fault_of}
use Rattle.mm_spec.specs.Readings.{Reading, reading, with_tokens, bytes_of}
use Rattle.mm_spec.specs.Laws.Readings.{append_reading}
use Rattle.mm_lex.specs.Pieces.{resolved, side_reading, Side, Between, Stretch, AreReadings}
use Rattle.mm_lex.specs.Pieces.{IsReadBetween, IsSummary}
use Rattle.mm_lex.specs.Between.{carried}
use Rattle.mm_spec.specs.Words.{word_at, words_between, words_of}
use Rattle.mm_lex.specs.Plain.{IsPlainWord}
use Rattle.mm_lex.specs.Beginnings.{ArePlain}
use Rattle.mm_lex.specs.Stretches.{IsUnbroken, joined_word}
use Rattle.mm_lex.proofs.StretchesLaw.{words_of_joined, broken_join}
use Rattle.mm_spec.proofs.ReadingsLaw.{reading_opening, reading_closing, reading_comment}
use Rattle.mm_spec.proofs.ReadingsLaw.{reading_faulty, reading_end, reading_append}
use Rattle.mm_spec.proofs.ReadingsLaw.{reading_of_token, append_reading_with_tokens}
use Rattle.mm_spec.proofs.WordsBetweenLaw.{words_between_none}
use Rattle.mm_spec.proofs.WordsLaw.{words_between_cases}
use Rattle.mm_lex.proofs.RolesLaw.{plain_word_is_comment, plain_word_is_token}

pub not_some_is_none : {X : Type 0} (o : Option X) → is_some o ≡ false → o ≡ None
not_some_is_none o h1 = grind (arith, common_steps)

some_has_value : {X : Type 0} (o : Option X) → is_some o ≡ true → (x : X) × (o ≡ Some x)
some_has_value o h1 = grind (arith, common_steps)

pub append_reading_none : (text : List ℕ) (r : Reading) (ws : List Word) → r.fault ≡ None
    → append_reading text r ws ≡ with_tokens r.tokens (reading text r.open_comment ws)
append_reading_none text r ws no_fault = rw no_fault refl

pub append_reading_some : (text : List ℕ) (r : Reading) (ws : List Word) → is_some r.fault ≡ true
    → append_reading text r ws ≡ r
append_reading_some text r ws has_fault = grind (arith, common_steps, some_has_value)

module _ (text : List ℕ) (r : Reading) (w : Word) (b : Bool) (no_fault : r.fault ≡ None)
    (mode_is : b ≡ is_some r.open_comment) where
  role_is : {f : Role} → f ≡ role_of b (bytes_of text w)
      → role_of (is_some r.open_comment) (bytes_of text w) ≡ f
  role_is role_of_w = ap (λ (x : Bool). role_of x (bytes_of text w)) (sym mode_is) ∙ sym role_of_w

  pub append_reading_token : roles.Token ≡ role_of b (bytes_of text w)
      → append_reading text r (w ∷ [])
      ≡ record { tokens = r.tokens ++ w ∷ []; fault = r.fault; open_comment = r.open_comment }
  append_reading_token role_of_w =
      search (rules, arith, append_reading_none, reading_of_token, role_is, reading_end)

  pub append_reading_opening : roles.Opening ≡ role_of b (bytes_of text w)
      → append_reading text r (w ∷ [])
      ≡ record { tokens = r.tokens; fault = r.fault; open_comment = Some w.start }
  append_reading_opening role_of_w =
      search (rules, arith, append_reading_none, reading_opening, role_is, reading_end, append-nil)

  pub append_reading_closing : roles.Closing ≡ role_of b (bytes_of text w)
      → append_reading text r (w ∷ [])
      ≡ record { tokens = r.tokens; fault = r.fault; open_comment = None }
  append_reading_closing role_of_w =
      search (rules, arith, append_reading_none, reading_closing, role_is, reading_end, append-nil)

  pub append_reading_comment : roles.Comment ≡ role_of b (bytes_of text w)
      → append_reading text r (w ∷ []) ≡ r
  append_reading_comment role_of_w =
      search (rules, arith, append_reading_none, reading_comment, role_is, reading_end, append-nil)

  pub append_reading_faulty : roles.Faulty ≡ role_of b (bytes_of text w)
      → append_reading text r (w ∷ [])
      ≡ record {
        tokens = r.tokens;
        fault = Some (fault_of b w.start (bytes_of text w));
        open_comment = r.open_comment;
      }
  append_reading_faulty role_of_w =
      search (rules, arith, append_reading_none, reading_faulty, role_is, append-nil)

pub append_reading_append : (text : List ℕ) (r : Reading) (xs ys : List Word)
    → append_reading text r (xs ++ ys) ≡ append_reading text (append_reading text r xs) ys
append_reading_append text r xs ys =
    grind (arith, common_steps, reading_append, append_reading_with_tokens)

-- The words go on inside a comment.
pub append_reading_inside : (text : List ℕ) (ws : List Word) (p : ℕ) (r later : Side)
    (items : List Word)
    → ((q : ℕ) → reading text (Some q) ws ≡ side_reading q later) →
    r.fault ≡ None → is_some (resolved p r.open_comment) ≡ true → items ≡ r.tokens ++ later.tokens →
    record {
      tokens = items;
      fault = later.fault;
      open_comment = resolved p (carried r.open_comment later.open_comment);
    }
    ≡ append_reading text (side_reading p r) ws
append_reading_inside text ws p r later items reads_inside no_fault is_open items_are = grind arith

-- The words go on outside. No comment from before them can be open after them.

carried_outside_is_later : (x : Option ℕ) (d : CommentState) → ((q : ℕ) → x ≡ resolved q d)
    → (c : CommentState)
    → carried c d ≡ d
carried_outside_is_later x Nowhere resolved_everywhere c = refl
carried_outside_is_later x Before resolved_everywhere c =
    absurd (omega (arith, same_Some 0 1 (sym (resolved_everywhere 0) ∙ resolved_everywhere 1)))
carried_outside_is_later x (At q) resolved_everywhere c = refl

pub append_reading_outside : (text : List ℕ) (ws : List Word) (p : ℕ) (r later : Side)
    (items : List Word)
    → ((q : ℕ) → reading text None ws ≡ side_reading q later) →
    r.fault ≡ None → is_some (resolved p r.open_comment) ≡ false → items ≡ r.tokens ++ later.tokens
    →
    record {
      tokens = items;
      fault = later.fault;
      open_comment = resolved p (carried r.open_comment later.open_comment);
    }
    ≡ append_reading text (side_reading p r) ws
append_reading_outside text ws p r later items reads_outside no_fault is_not_open items_are =
    let no_comment_open : resolved p r.open_comment ≡ None =
    not_some_is_none (resolved p r.open_comment) is_not_open in
    let appended_is : append_reading text (side_reading p r) ws
    ≡ with_tokens r.tokens (reading text (resolved p r.open_comment) ws) = append_reading_none text
    (side_reading p r) ws no_fault in
    rw (
      items_are,
      carried_outside_is_later (reading text None ws).open_comment later.open_comment
          (λ q. ap (λ (x : Reading). x.open_comment) (reads_outside q)) r.open_comment,
    )
    (sym (appended_is ∙ ap (λ (c : Option ℕ). with_tokens r.tokens (reading text c ws))
    no_comment_open
    ∙ ap (with_tokens r.tokens) (reads_outside p)))

pub append_reading_nil : (text : List ℕ) (r : Reading) → append_reading text r [] ≡ r
append_reading_nil text r = search (rules, arith, reading_end, append-nil)

pub append_reading_is_complete : (text : List ℕ) (total r : Reading) (vs : List Word)
    → total ≡ append_reading text r vs
    → vs ≡ [] → total ≡ r
append_reading_is_complete text total r vs total_is no_words_left =
    total_is ∙ ap (append_reading text r) no_words_left ∙ append_reading_nil text r

-- Plain words change nothing in a comment.
pub plain_words_are_skipped_in_comment : (text : List ℕ) (p n from to : ℕ)
    → ArePlain text from (from + n)
    → reading text (Some p) (words_between text from to)
    ≡ reading text (Some p) (words_between text (from + n) to)
plain_words_are_skipped_in_comment text p zero from to are_plain = grind arith
plain_words_are_skipped_in_comment text p (suc n) from to are_plain =
    let place_is : from + 1 + n ≡ from + suc n = omega arith in
    let later_skipped : reading text (Some p) (words_between text (from + 1) to)
    ≡ reading text (Some p) (words_between text (from + suc n) to) =
    plain_words_are_skipped_in_comment text p n (from + 1) to
    (λ i from_le_i i_lt_end. are_plain i (omega arith) (omega arith))
    ∙ ap (λ (i : ℕ). reading text (Some p) (words_between text i to)) place_is in
    ⊎_elim
    {C = reading text (Some p) (words_between text from to)
    ≡ reading text (Some p) (words_between text (from + suc n) to)}
    (λ from_lt_to. ⊎_elim
    {C = reading text (Some p) (words_between text from to)
    ≡ reading text (Some p) (words_between text (from + suc n) to)}
    (λ is_taken. ap (reading text (Some p)) is_taken.1
    ∙ reading_comment text (Some p) (word_at text from) (words_between text (from + 1) to)
    (plain_word_is_comment (bytes_of text (word_at text from))
    (are_plain from (omega arith) (omega arith) is_taken.0))
    ∙ later_skipped)
    (λ is_skipped. ap (reading text (Some p)) is_skipped.1 ∙ later_skipped)
    (words_between_cases text from to from_lt_to))
    (λ to_le_from. ap (reading text (Some p))
    (words_between_none text from to to_le_from
    ∙ sym (words_between_none text (from + suc n) to (omega arith))))
    (cases_lt from to)

-- Outside a comment a plain word is a token.
pub append_reading_plain : (text : List ℕ) (r : Reading) (w : Word) (items : List Word)
    → r.fault ≡ None
    → is_some r.open_comment ≡ false → IsPlainWord (bytes_of text w) → items ≡ r.tokens ++ w ∷ []
    → record { tokens = items; fault = r.fault; open_comment = r.open_comment }
    ≡ append_reading text r (w ∷ [])
append_reading_plain text r w items no_fault no_comment_open is_plain_word items_are =
    search (rules, arith, append_reading_token, plain_word_is_token)

-- Inside a comment, and after a fault, it changes nothing.
pub ignored_inside : (faulty inside : Bool) → inside ≡ true → (faulty || inside) ≡ true
ignored_inside faulty inside is_inside = ap (λ (b : Bool). faulty || b) is_inside ∙ or-true faulty

-- `w` is the next word of the text from `from` on, and the words after it begin from `here` on. The
-- text of the scanner that found it is `t`.
module _ (t text : List ℕ) (from here to : ℕ) (w : Word) (texts_equal : t ≡ text)
    (is_next_word : words_between t from to ≡ w ∷ words_between t here to) where
  words_from : words_between text from to ≡ w ∷ words_between text here to
  words_from = subst (λ s. words_between s from to ≡ w ∷ words_between s here to) texts_equal
      is_next_word

  -- the reading goes on with that word
  pub next_word_is_read : (total r s : Reading)
      → total ≡ append_reading text r (words_between text from to)
      → s ≡ append_reading text r (w ∷ [])
      → total ≡ append_reading text s (words_between text here to)
  next_word_is_read total r s total_is reading_step =
      total_is ∙ ap (append_reading text r) words_from
      ∙ append_reading_append text r (w ∷ []) (words_between text here to)
      ∙ ap (λ q. append_reading text q (words_between text here to)) (sym reading_step)

  -- a plain word that changes nothing is left out, as are those that follow it
  pub plain_words_are_skipped : (upto : ℕ) (total r : Reading) → IsPlainWord (bytes_of t w)
      → here ≤ upto → ArePlain t here upto
      → total ≡ append_reading text r (words_between text from to)
      → (is_some r.fault || is_some r.open_comment) ≡ true
      → total ≡ append_reading text r (words_between text upto to)
  plain_words_are_skipped upto total r is_plain_word here_le_upto are_plain total_is is_ignored =
      total_is ∙ ap (append_reading text r) words_from
      ∙ skipped_by_fault r.tokens r.fault r.open_comment is_ignored
    where
      skipped_by_fault : (ts : List Word) (f : Option Fault) (c : Option ℕ)
          → (is_some f || is_some c) ≡ true
          → append_reading text (record { tokens = ts; fault = f; open_comment = c })
          (w ∷ words_between text here to)
          ≡ append_reading text (record { tokens = ts; fault = f; open_comment = c })
          (words_between text upto to)
      skipped_by_fault ts None None is_ignored = cc
      skipped_by_fault ts None (Some p) is_ignored =
          let upto_is : here + (upto - here) ≡ upto = omega arith in
          ap (with_tokens ts)
          (reading_comment text (Some p) w (words_between text here to)
          (plain_word_is_comment (bytes_of text w)
          (subst (λ x. IsPlainWord (bytes_of x w)) texts_equal is_plain_word))
          ∙ plain_words_are_skipped_in_comment text p (upto - here) here to
          (λ i here_le_i i_lt_end. (subst (λ x. ArePlain x here upto) texts_equal are_plain) i
          here_le_i (omega arith))
          ∙ ap (λ i. reading text (Some p) (words_between text i to)) upto_is)
      skipped_by_fault ts (Some f) c is_ignored = refl

-- three lists of words, one after another
pub readings_of_three_lists : (text : List ℕ) (c : Option ℕ)
    (reading_of_first reading_of_mid reading_of_last : Reading)
    (ws vs us : List Word)
    → reading text c ws ≡ reading_of_first → reading_of_mid ≡ append_reading text reading_of_first
    vs
    → reading_of_last ≡ append_reading text reading_of_mid us →
    reading text c (ws ++ (vs ++ us)) ≡ reading_of_last
readings_of_three_lists text c reading_of_first reading_of_mid reading_of_last ws vs us first_is h2
    h3 =
    grind (arith, common_steps, reading_append, append_reading_append)

-- ---- pieces

module _ (text : List ℕ) (a b c : ℕ) where
  pub piece_after_unbroken : (first second : Option Between) → first ≡ None
      → MatchOption first (IsUnbroken text a b) (IsReadBetween text a b) →
      MatchOption second (IsUnbroken text b c) (IsReadBetween text b c)
      → MatchOption second (IsUnbroken text a c) (IsReadBetween text a c)
  piece_after_unbroken first None first_is_none first_summary second_summary = grind arith
  piece_after_unbroken first (Some between) first_is_none first_summary second_summary = grind arith

  pub piece_before_unbroken : (first second : Option Between) (between : Between)
      → first ≡ Some between
      → second ≡ None → MatchOption first (IsUnbroken text a b) (IsReadBetween text a b) →
      MatchOption second (IsUnbroken text b c) (IsReadBetween text b c)
      → IsReadBetween text a c between
  piece_before_unbroken first second between first_is second_is_none first_summary second_summary =
      grind arith

  pub piece_of_two_broken : (first second : Option Between)
      (first_between second_between between : Between)
      → first ≡ Some first_between → second ≡ Some second_between
      → MatchOption first (IsUnbroken text a b) (IsReadBetween text a b) →
      MatchOption second (IsUnbroken text b c) (IsReadBetween text b c)
      → between.head_end ≡ first_between.head_end
      → between.tail_start ≡ second_between.tail_start →
      ((ws us : List Word) → AreReadings text ws first_between.outside first_between.inside
      → AreReadings text us second_between.outside second_between.inside →
      AreReadings text
      (ws ++ (joined_word first_between.tail_start second_between.head_end ++ us)) between.outside
      between.inside)
      →
      IsReadBetween text a c between
  piece_of_two_broken first second first_between second_between between first_is second_is
      first_summary
      second_summary head_is tail_is readings_join =
      let first_read : IsReadBetween text a b first_between =
      subst (λ (o : Option Between). MatchOption o (IsUnbroken text a b) (IsReadBetween text a b))
      first_is
      first_summary in
      let second_read : IsReadBetween text b c second_between =
      subst (λ (o : Option Between). MatchOption o (IsUnbroken text b c) (IsReadBetween text b c))
      second_is
      second_summary in
      record {
        broken = rw (head_is, tail_is) (broken_join first_read.broken second_read.broken);
        readings =
            rw (head_is, tail_is, words_of_joined first_read.broken second_read.broken)
            (readings_join _ _ first_read.readings second_read.readings);
      }

-- what lies between head and tail of the piece of the whole text is the whole text
pub reading_of_whole_text : (text : List ℕ) (piece : Stretch) (between : Between)
    → IsSummary text piece
    → piece.from ≡ 0 → piece.to ≡ length text → piece.between ≡ Some between →
    reading text None (words_of text) ≡ side_reading 0 between.outside
reading_of_whole_text text piece between is_summary from_is_zero to_is_length between_is =
    grind arith
