-- What a reading of words stands for: the grammar of tokens and comments.
use Rattle.std.proofs.Common.{◌≡◌, ℕ, true, false, List, [], ◌∷◌, ◌++◌, length, get_or, Option}
use Rattle.std.proofs.Common.{Some, None, is_some, refl, sym, ap, subst, ◌∙◌, arith, append_assoc}
use Rattle.std.proofs.Common.{append-nil, eqb-true, rules}
use Rattle.std.specs.List.{flat_map, AllByRecursion}
use Rattle.std.proofs.lemmas.Bool.{and_parts, cases_Bool, false_from_ne_true}
use Rattle.std.specs.Option.{option_map}
use Rattle.std.proofs.lemmas.Grind.{common_steps}
use Rattle.mm_spec.specs.declared.Word.{Word}
use Rattle.mm_spec.specs.declared.Fault.{Fault}
use Rattle.mm_spec.specs.declared.Role.{Role}
use Rattle.mm_spec.specs.declared.Role.TheVariants as roles
use Rattle.mm_spec.specs.Bytes.{is_printable}
use Rattle.mm_spec.specs.Roles.{role_of, fault_of, is_clean, is_dollar_and, is_keyword}
use Rattle.mm_spec.specs.Roles.{is_comment_mark, has_comment_mark, is_token, opens_comment}
use Rattle.mm_spec.specs.Roles.{closes_comment, is_comment_word}
use Rattle.mm_spec.specs.Readings.{Reading, reading, with_tokens, bytes_of}
use Rattle.mm_spec.specs.Laws.Readings.{append_reading}
use Rattle.mm_laws.specs.Grammar.{Lexeme, Single, Comment, LastComment, IsLexeme, IsLastComment}
use Rattle.mm_laws.specs.Grammar.{AreCommentWords, words_in, words_in_last_comment, tokens_in}
use Rattle.mm_laws.specs.Grammar.{IsWellBegun, IsFirstFaultyWord, IsReading}
use Rattle.mm_spec.proofs.ReadingsLaw.{reading_opening, reading_closing, reading_of_token}
use Rattle.mm_spec.proofs.ReadingsLaw.{reading_comment, reading_faulty, reading_end, reading_append}

-- ---- the classes of words exclude each other

two_bytes_are : (word : List ℕ) (b : ℕ) → length word ≡ 2 → get_or word 0 0 ≡ 0x24
    → get_or word 1 0 ≡ b → word ≡ 0x24 ∷ b ∷ []
two_bytes_are word b h1 h2 h3 = grind (arith, common_steps)

dollar_and_byte : (b : ℕ) (word : List ℕ) → is_dollar_and b word ≡ true → word ≡ 0x24 ∷ b ∷ []
unfolding is_dollar_and
dollar_and_byte b word is_dollar_and_b = search (rules, arith, and_parts, two_bytes_are, eqb-true)

opening_is_no_token : (word : List ℕ) → opens_comment word ≡ true → is_token word ≡ false
unfolding is_token is_clean is_keyword is_printable is_dollar_and
opening_is_no_token word opens = rw (dollar_and_byte 0x28 word opens) refl

closing_is_no_comment_word : (word : List ℕ) → closes_comment word ≡ true
    → is_comment_word word ≡ false
unfolding is_comment_word is_clean has_comment_mark is_comment_mark is_printable
closing_is_no_comment_word word closes = rw (dollar_and_byte 0x29 word closes) refl

comment_word_is_no_closing : (word : List ℕ) → is_comment_word word ≡ true
    → closes_comment word ≡ false
comment_word_is_no_closing word is_comment =
    search (rules, arith, false_from_ne_true, closing_is_no_comment_word)

-- the role that a word of each class has
role_is_token : (word : List ℕ) → is_token word ≡ true → role_of false word ≡ roles.Token
unfolding role_of
role_is_token word is_token_word = rw is_token_word refl

role_is_opening : (word : List ℕ) → opens_comment word ≡ true → role_of false word ≡ roles.Opening
unfolding role_of
role_is_opening word opens = rw (opening_is_no_token word opens, opens) refl

role_is_closing : (word : List ℕ) → closes_comment word ≡ true → role_of true word ≡ roles.Closing
unfolding role_of
role_is_closing word closes = rw closes refl

role_is_comment : (word : List ℕ) → is_comment_word word ≡ true → role_of true word ≡ roles.Comment
unfolding role_of
role_is_comment word is_comment = rw (comment_word_is_no_closing word is_comment, is_comment) refl

-- the roles outside a comment, and those inside
data RoleOutside (word : List ℕ) : Type 0 where
  token : is_token word ≡ true → role_of false word ≡ roles.Token → RoleOutside word
  opening : opens_comment word ≡ true → role_of false word ≡ roles.Opening → RoleOutside word
  neither : role_of false word ≡ roles.Faulty → RoleOutside word

data RoleInside (word : List ℕ) : Type 0 where
  closing : closes_comment word ≡ true → role_of true word ≡ roles.Closing → RoleInside word
  comment : is_comment_word word ≡ true → role_of true word ≡ roles.Comment → RoleInside word
  neither : role_of true word ≡ roles.Faulty → RoleInside word

role_outside : (word : List ℕ) → RoleOutside word
unfolding role_of
role_outside word = search (rules, arith, cases_Bool, role_is_token, role_is_opening)

role_inside : (word : List ℕ) → RoleInside word
unfolding role_of
role_inside word = search (rules, arith, cases_Bool, role_is_closing, role_is_comment)

-- ---- a well-begun list of words is read as its tokens and its open comment

reading_comment_words : (text : List ℕ) (p : ℕ) (ws us : List Word) → AreCommentWords text ws
    → reading text (Some p) (ws ++ us) ≡ reading text (Some p) us
reading_comment_words text p [] us are_comment_words = refl
reading_comment_words text p (w ∷ ws) us (is_comment, are_comment_words) =
    reading_comment text (Some p) w (ws ++ us) (role_is_comment _ is_comment)
    ∙ reading_comment_words text p ws us are_comment_words

reading_lexemes : (text : List ℕ) (lexemes : List Lexeme) → AllByRecursion (IsLexeme text) lexemes
    → reading text None (flat_map words_in lexemes)
    ≡ record { tokens = flat_map tokens_in lexemes; fault = None; open_comment = None }
reading_lexemes text [] are_lexemes = reading_end text None
reading_lexemes text (Single w ∷ lexemes) (is_lexeme, are_lexemes) =
    reading_of_token text None w _ (role_is_token _ is_lexeme)
    ∙ ap (with_tokens (w ∷ [])) (reading_lexemes text lexemes are_lexemes)
reading_lexemes text (Comment o ws c ∷ lexemes) (is_lexeme, are_lexemes) =
    reading_opening text None o _ (role_is_opening _ is_lexeme.0)
    ∙ ap (reading text (Some o.start)) (append_assoc ws (c ∷ []) (flat_map words_in lexemes))
    ∙ reading_comment_words text o.start ws (c ∷ flat_map words_in lexemes) is_lexeme.1
    ∙ reading_closing text (Some o.start) c _ (role_is_closing _ is_lexeme.2)
    ∙ reading_lexemes text lexemes are_lexemes

reading_last_comment : (text : List ℕ) (last_comment : LastComment)
    → IsLastComment text last_comment
    → reading text None (words_in_last_comment last_comment) ≡ record {
      tokens = [];
      fault = None;
      open_comment = option_map (λ c. c.opening.start) last_comment;
    }
reading_last_comment text None is_last_comment = reading_end text None
reading_last_comment text (Some c) is_last_comment =
    reading_opening text None c.opening c.words (role_is_opening _ is_last_comment.0)
    ∙ ap (reading text (Some c.opening.start)) (sym (append-nil c.words))
    ∙ reading_comment_words text c.opening.start c.words [] is_last_comment.1
    ∙ reading_end text (Some c.opening.start)

pub IsWellBegun_reading : (text : List ℕ) (ws ts : List Word) (c : Option ℕ)
    → IsWellBegun text ws ts c
    → reading text None ws ≡ record { tokens = ts; fault = None; open_comment = c }
IsWellBegun_reading text ws ts c is_well_begun =
    search (rules, arith, reading_append, reading_lexemes, reading_last_comment, append-nil)

-- ---- a reading without a fault is of a well-begun list of words

AreCommentWords_push : (text : List ℕ) (ws : List Word) (w : Word) → AreCommentWords text ws
    → is_comment_word (bytes_of text w) ≡ true → AreCommentWords text (ws ++ w ∷ [])
AreCommentWords_push text ws w h1 h2 = grind (arith, common_steps)

IsWellBegun_cons : (text : List ℕ) (lexeme : Lexeme) (ws ts : List Word) (c : Option ℕ)
    → IsLexeme text lexeme → IsWellBegun text ws ts c
    → IsWellBegun text (words_in lexeme ++ ws) (tokens_in lexeme ++ ts) c
IsWellBegun_cons text lexeme ws ts c is_lexeme is_well_begun = record {
  lexemes = lexeme ∷ is_well_begun.lexemes;
  last_comment = is_well_begun.last_comment;
  are_lexemes = (is_lexeme, is_well_begun.are_lexemes);
  is_last_comment = is_well_begun.is_last_comment;
  words_are =
      ap (λ (us : List Word). words_in lexeme ++ us) is_well_begun.words_are
      ∙ sym (append_assoc (words_in lexeme) (flat_map words_in is_well_begun.lexemes)
      (words_in_last_comment is_well_begun.last_comment));
  tokens_are = ap (λ (us : List Word). tokens_in lexeme ++ us) is_well_begun.tokens_are;
  comment_start_is = is_well_begun.comment_start_is;
}

abbrev IsBegunIfFaultless : List ℕ → List Word → Reading → Type 0
IsBegunIfFaultless text ws r = r.fault ≡ None → IsWellBegun text ws r.tokens r.open_comment

-- outside a comment; and inside one that these words opened
record BothAreBegun (text : List ℕ) (ws : List Word) : Type 0 where
  outside_comment : IsBegunIfFaultless text ws (reading text None ws)
  inside_comment : (o : Word) (us : List Word) → opens_comment (bytes_of text o) ≡ true
      → AreCommentWords text us
      → IsBegunIfFaultless text (o ∷ (us ++ ws)) (reading text (Some o.start) ws)

both_are_begun : (text : List ℕ) (ws : List Word) → BothAreBegun text ws
both_are_begun text [] = record {
  outside_comment = rw (reading_end text None) (λ _. record {
    lexemes = [];
    last_comment = None;
    are_lexemes = tt;
    is_last_comment = tt;
    words_are = refl;
    tokens_are = refl;
    comment_start_is = refl;
  });
  inside_comment =
      λ o us opens are_comment_words. rw (reading_end text (Some o.start)) (λ _. record {
        lexemes = [];
        last_comment = Some (record { opening = o; words = us });
        are_lexemes = tt;
        is_last_comment = (opens, are_comment_words);
        words_are = ap (λ (vs : List Word). o ∷ vs) (append-nil us);
        tokens_are = refl;
        comment_start_is = refl;
      });
}
both_are_begun text (w ∷ ws) = record {
  outside_comment = begun_outside (role_outside (bytes_of text w)) (both_are_begun text ws);
  inside_comment =
      λ o us opens are_comment_words. begun_inside o us opens are_comment_words
      (role_inside (bytes_of text w)) (both_are_begun text ws);
}
  where
    begun_outside : RoleOutside (bytes_of text w) → BothAreBegun text ws
        → IsBegunIfFaultless text (w ∷ ws) (reading text None (w ∷ ws))
    begun_outside (token is_token_word role) later =
        rw (reading_of_token text None w ws role)
        (λ no_fault. IsWellBegun_cons text (Single w) ws _ _ is_token_word
        (later.outside_comment no_fault))
    begun_outside (opening opens role) later =
        rw (reading_opening text None w ws role) (later.inside_comment w [] opens tt)
    begun_outside (RoleOutside.neither role) later =
        rw (reading_faulty text None w ws role) (λ no_fault. absurd cc)

    begun_inside : (o : Word) (us : List Word) → opens_comment (bytes_of text o) ≡ true
        → AreCommentWords text us → RoleInside (bytes_of text w) → BothAreBegun text ws
        → IsBegunIfFaultless text (o ∷ (us ++ w ∷ ws)) (reading text (Some o.start) (w ∷ ws))
    begun_inside o us opens are_comment_words (closing closes role) later =
        rw (reading_closing text (Some o.start) w ws role) (λ no_fault. subst
        (λ (vs : List Word). IsWellBegun text (o ∷ vs) (reading text None ws).tokens
        (reading text None ws).open_comment) (append_assoc us (w ∷ []) ws)
        (IsWellBegun_cons text (Comment o us w) ws _ _ (opens, are_comment_words, closes)
        (later.outside_comment no_fault)))
    begun_inside o us opens are_comment_words (comment is_comment role) later =
        rw (reading_comment text (Some o.start) w ws role)
        (subst (λ (vs : List Word). IsBegunIfFaultless text (o ∷ vs)
        (reading text (Some o.start) ws)) (append_assoc us (w ∷ []) ws)
        (later.inside_comment o (us ++ w ∷ []) opens (AreCommentWords_push text us w
        are_comment_words is_comment)))
    begun_inside o us opens are_comment_words (RoleInside.neither role) later =
        rw (reading_faulty text (Some o.start) w ws role) (λ no_fault. absurd cc)

-- ---- a fault is that of the first faulty word

record IsSplit (text : List ℕ) (c : Option ℕ) (ws : List Word) (f : Fault)
    (r : Reading) : Type 0 where
  words_before : List Word
  w : Word
  words_after : List Word
  words_split : ws ≡ words_before ++ w ∷ words_after
  front_is_read : reading text c words_before
      ≡ record { tokens = r.tokens; fault = None; open_comment = r.open_comment }
  role_is_faulty : role_of (is_some r.open_comment) (bytes_of text w) ≡ roles.Faulty
  fault_is : f ≡ fault_of (is_some r.open_comment) w.start (bytes_of text w)

abbrev IsSplitIfFault : List ℕ → Option ℕ → List Word → Fault → Reading → Type 0
IsSplitIfFault text c ws f r = r.fault ≡ Some f → IsSplit text c ws f r

-- one word further in front, which leads from the comment c to d
split_cons : (text : List ℕ) (c d : Option ℕ) (x : Word) (xs ts : List Word) (f : Fault)
    (r : Reading)
    → ((us : List Word)
    → reading text d us ≡ record { tokens = r.tokens; fault = None; open_comment = r.open_comment }
    → reading text c (x ∷ us) ≡ record { tokens = ts; fault = None; open_comment = r.open_comment })
    → IsSplit text d xs f r → IsSplit text c (x ∷ xs) f (record r { tokens = ts })
split_cons text c d x xs ts f r step split = grind (arith, common_steps)

reading_is_split : (text : List ℕ) (c : Option ℕ) (ws : List Word) (f : Fault)
    → IsSplitIfFault text c ws f (reading text c ws)
reading_is_split text c [] f = rw (reading_end text c) (λ no_fault. absurd cc)
reading_is_split text c (x ∷ xs) f =
    split_by_role (role_of (is_some c) (bytes_of text x)) refl (λ d. reading_is_split text d xs f)
  where
    split_by_role : (r : Role) → role_of (is_some c) (bytes_of text x) ≡ r
        → ((d : Option ℕ) → IsSplitIfFault text d xs f (reading text d xs))
        → IsSplitIfFault text c (x ∷ xs) f (reading text c (x ∷ xs))
    split_by_role roles.Token role_is later =
        rw (reading_of_token text c x xs role_is)
        (λ has_fault. split_cons text c c x xs _ f _ (λ us front_is.
        reading_of_token text c x us role_is ∙ ap (with_tokens (x ∷ [])) front_is)
        (later c has_fault))
    split_by_role roles.Opening role_is later =
        rw (reading_opening text c x xs role_is)
        (λ has_fault. split_cons text c (Some x.start) x xs _ f _ (λ us front_is.
        reading_opening text c x us role_is ∙ front_is) (later (Some x.start) has_fault))
    split_by_role roles.Closing role_is later =
        rw (reading_closing text c x xs role_is)
        (λ has_fault. split_cons text c None x xs _ f _ (λ us front_is.
        reading_closing text c x us role_is ∙ front_is) (later None has_fault))
    split_by_role roles.Comment role_is later =
        rw (reading_comment text c x xs role_is)
        (λ has_fault. split_cons text c c x xs _ f _ (λ us front_is.
        reading_comment text c x us role_is ∙ front_is) (later c has_fault))
    split_by_role roles.Faulty role_is later =
        rw (reading_faulty text c x xs role_is) (λ has_fault. record {
          words_before = [];
          w = x;
          words_after = xs;
          words_split = refl;
          front_is_read = reading_end text c;
          role_is_faulty = role_is;
          fault_is = cc;
        })

faulty_word : (text : List ℕ) (ws : List Word) (f : Fault) (r : Reading)
    → IsSplit text None ws f r
    → (w : Word) × IsFirstFaultyWord text ws w r.tokens r.open_comment
    × (f ≡ fault_of (is_some r.open_comment) w.start (bytes_of text w))
faulty_word text ws f r split = (
  split.w,
  record {
    words_before = split.words_before;
    words_after = split.words_after;
    words_split = split.words_split;
    is_well_begun =
        subst (IsBegunIfFaultless text split.words_before) split.front_is_read
        ((both_are_begun text split.words_before).outside_comment) refl;
    not_well_begun = λ ts c is_well_begun.
        let read_without_fault : reading text None (split.words_before ++ split.w ∷ [])
        ≡ record { tokens = ts; fault = None; open_comment = c } = IsWellBegun_reading text _ ts c
        is_well_begun in
        let read_on : reading text None (split.words_before ++ split.w ∷ [])
        ≡ with_tokens r.tokens (reading text r.open_comment (split.w ∷ [])) =
        reading_append text None split.words_before (split.w ∷ [])
        ∙ ap (λ (q : Reading). append_reading text q (split.w ∷ [])) split.front_is_read in
        let fault_is_none =
        ap (λ (q : Reading). q.fault) (sym read_without_fault ∙ read_on
        ∙ ap (with_tokens r.tokens) (reading_faulty text r.open_comment split.w []
        split.role_is_faulty)) in
        cc fault_is_none;
  },
  split.fault_is,
)

pub reading_IsReading : (text : List ℕ) (ws : List Word) → IsReading text ws (reading text None ws)
reading_IsReading text ws = record {
  well_begun_without_fault = (both_are_begun text ws).outside_comment;
  is_only_reading = λ ts c is_well_begun. IsWellBegun_reading text ws ts c is_well_begun;
  fault_is_first = λ f has_fault. faulty_word text ws f _ (reading_is_split text None ws f
      has_fault);
}
