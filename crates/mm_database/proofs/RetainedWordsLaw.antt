-- The kept words of statements: that they are the tokens of these, and what they answer.
use Rattle.std.proofs.Common.{◌≡◌, ℕ, zero, suc, ◌+◌, ◌-◌, ◌<◌, ◌≤◌, Bool, true, false, List, []}
use Rattle.std.proofs.Common.{◌∷◌, ◌++◌, length, map, take, drop, get_or, slice_get, slice_range}
use Rattle.std.proofs.Common.{All, Option, Some, None, refl, sym, ap, ap₂, ◌∙◌, arith}
use Rattle.std.proofs.Common.{append_assoc, length-append, if◌then◌else◌, true≢false}
use Rattle.std.specs.Option.{option_map, option_and_then}
use Rattle.std.proofs.lemmas.List.{length-map}
use Rattle.std.proofs.lemmas.List.Elements.{All-append, All-take, All-drop}
use Rattle.std.proofs.lemmas.Option.{slice_get-get_or, slice_get_within, same_Some}
use Rattle.std.proofs.Math.Seq.{take-append_seam, get_or-append_seam}
use Rattle.mm_spec.specs.Text.{Token}
use Rattle.mm_spec.specs.Statement.{Statement, constants, variables, disjoint, floating, essential}
use Rattle.mm_spec.specs.Statement.{axiomatic, provable, opening, closing, label_of, proof_of}
use Rattle.mm_spec.specs.Opened.{open_as_axioms}
use Rattle.mm_spec.specs.declared.Fault.{Fault}
use Rattle.mm_spec.specs.declared.Word.{Word}
use Rattle.mm_spec.proofs.OpenedLaw.{counted_got, counted_then, counted_length}
use Rattle.mm_outline.specs.Parts.{AreWithin, HasEnd, IsOutline, as_tokens, between}
use Rattle.mm_outline.specs.Parts.{statement_between, nth_word, statement_of, token_of}
use Rattle.mm_outline.specs.Parts.{is_labelled_kind}
use Rattle.mm_outline.specs.Statements.{statements}
use Rattle.mm_outline.specs.declared.parts.Kind.{Kind}
use Rattle.mm_outline.specs.declared.parts.Kind.TheVariants as kind
use Rattle.mm_outline.specs.declared.parts.Outline.{Outline}
use Rattle.mm_outline.proofs.StatementsLaw.{element_of_mapped, statement_of_outline_is}
use Rattle.mm_database.specs.Database.{Contents, contents, kind_of}
use Rattle.mm_database.specs.RetainedWords.{AreRetained, IsRetained, retained_words, label_tokens}
use Rattle.mm_database.specs.RetainedWords.{label_word, end_at}
use Rattle.mm_database.proofs.KindsLaw.{counted_theorem_is_theorem}

-- ---- what is kept of an outline is that of its statement

module _ (text : List ℕ) (ws : List Word) where
  -- the word that is kept for a label is the statement's label
  label_word_is_label : (o : Kind) (k m e : ℕ)
      → as_tokens text (label_word ws (record { kind = o; keyword = k; middle = m; end = e }))
      ≡ label_tokens (statement_between text ws o k m e)
  label_word_is_label kind.Theorem k m e = refl
  label_word_is_label _ k m e = refl

  -- no tokens are between two indices that are equal
  nothing_between : (m e : ℕ) → m ≡ e → between text ws (m + 1) e ≡ []
  nothing_between m e m_is_e =
      let no_width : e - (m + 1) ≡ 0 = omega arith in
      ap (λ n. as_tokens text (take n (drop (m + 1) ws))) no_width

  -- the words after the middle are those of the statement's proof
  between_is_proof : (o : Kind) (k m e : ℕ) → HasEnd o k m e
      → between text ws (m + 1) e ≡ proof_of (statement_between text ws o k m e)
  between_is_proof kind.Theorem k m e has_end = refl
  between_is_proof kind.Open k m e has_end = nothing_between m e has_end.1
  between_is_proof kind.Close k m e has_end = nothing_between m e has_end.1
  between_is_proof _ k m e has_end = nothing_between m e has_end

  -- the word at the end is the statement's last token
  last_word_is_end : (o : Kind) (k m e : ℕ) → HasEnd o k m e
      → (nth_word ws e).start ≡ end_at (statement_between text ws o k m e)
  last_word_is_end kind.Theorem k m e has_end = refl
  last_word_is_end kind.Open k m e has_end = rw (← has_end.1, ← has_end.0) refl
  last_word_is_end kind.Close k m e has_end = rw (← has_end.1, ← has_end.0) refl
  last_word_is_end _ k m e has_end = ap (λ i. (nth_word ws i).start) (sym has_end)

  module _ (words_are_within : AreWithin text ws) where
    abbrev IsInside : Word → Type 0
    IsInside w = (w.start ≤ w.end) × (w.end ≤ length text)

    one_word_is_within : (i : ℕ) → i < length ws → AreWithin text (nth_word ws i ∷ [])
    one_word_is_within i i_lt_length zero d n_lt_1 = words_are_within i _ i_lt_length
    one_word_is_within i i_lt_length (suc n) d n_lt_1 = absurd (omega arith)

    label_is_within : (o : Outline) → IsOutline o × (o.end < length ws)
        → AreWithin text (label_word ws o)
    label_is_within o is_outline = elim (is_labelled_kind o.kind) as (λ with_label. AreWithin text
        (if with_label then nth_word ws (o.keyword - 1) ∷ [] else [])) [
          | true ↦ one_word_is_within (o.keyword - 1) (grind (arith, is_outline))
          | false ↦ λ k d k_lt_0. absurd (omega arith)
        ]

    retained_words_are_of_statement : (o : Outline) → IsOutline o × (o.end < length ws)
        → IsRetained text (statement_of text ws o) (retained_words ws o)
    retained_words_are_of_statement o is_outline = record {
      label = label_word ws o;
      proof = slice_range ws (o.middle + 1) o.end;
      last = nth_word ws o.end;
      words_are = refl;
      words_within_text =
          All-append IsInside (label_word ws o) _ (label_is_within o is_outline)
          (All-append IsInside (slice_range ws (o.middle + 1) o.end) _
          (All-take IsInside (o.end - (o.middle + 1)) (drop (o.middle + 1) ws)
          (All-drop IsInside (o.middle + 1) ws words_are_within))
          (one_word_is_within o.end is_outline.1));
      label_is = label_word_is_label o.kind o.keyword o.middle o.end;
      proof_is = between_is_proof o.kind o.keyword o.middle o.end is_outline.0.4;
      last_is = last_word_is_end o.kind o.keyword o.middle o.end is_outline.0.4;
    }

    -- the words of all outlines are those of their statements
    pub retained_words_are_of_statements : (os : List Outline)
        → All (λ o. IsOutline o × (o.end < length ws)) os
        → AreRetained text (statements text ws os) (map (retained_words ws) os)
    retained_words_are_of_statements os are_outlines =
        record {
          count = length-map os (retained_words ws) ∙ sym (length-map os (statement_of text ws));
          words_are_retained = words_are_retained;
        }
      where
        words_are_retained : (k : ℕ) (s : Statement) → slice_get (statements text ws os) k ≡ Some s
            → IsRetained text s (get_or (map (retained_words ws) os) k [])
        words_are_retained k s s_is_statement_k =
            let d : Outline = record { kind = kind.Open; keyword = 0; middle = 0; end = 0 } in
            let k_lt : k < length os = rw length-map at (slice_get_within _ k s s_is_statement_k) in
            rw (
              ← same_Some _ _ (sym (statement_of_outline_is text ws os k d k_lt)
                  ∙ s_is_statement_k),
              element_of_mapped (retained_words ws) os k d [] k_lt,
            )
            (retained_words_are_of_statement (get_or os k d) (are_outlines k d k_lt))

-- ---- what the kept words of a statement answer

has_label : (s : Statement) → is_labelled_kind (kind_of s) ≡ true
    → (l : Token) × (label_of s ≡ Some l)
has_label (floating l k xs d) kind_has_label = (l, refl)
has_label (essential l k xs d) kind_has_label = (l, refl)
has_label (axiomatic l k xs d) kind_has_label = (l, refl)
has_label (provable l k xs e ps d) kind_has_label = (l, refl)
has_label _ kind_has_label = absurd (true≢false (sym kind_has_label))

unlabelled_has_no_label : (s : Statement) → is_labelled_kind (kind_of s) ≡ false → label_of s ≡ None
unlabelled_has_no_label (constants k xs d) kind_has_no_label = refl
unlabelled_has_no_label (variables k xs d) kind_has_no_label = refl
unlabelled_has_no_label (disjoint k xs d) kind_has_no_label = refl
unlabelled_has_no_label (opening k) kind_has_no_label = refl
unlabelled_has_no_label (closing k) kind_has_no_label = refl
unlabelled_has_no_label _ kind_has_no_label = absurd (true≢false kind_has_no_label)

-- the only word of a label
only_word : (text : List ℕ) (label : List Word) (l : Token) → as_tokens text label ≡ l ∷ []
    → (w : Word) × (label ≡ w ∷ []) × (token_of text w ≡ l)
only_word text [] l label_is_l = absurd (grind (arith, ap length label_is_l))
only_word text (w ∷ []) l label_is_l = (w, refl, ap (λ ts. get_or ts 0 l) label_is_l)
only_word text (w ∷ v ∷ ws) l label_is_l = absurd (grind (arith, ap length label_is_l))

module _ (text : List ℕ) (db : List Statement) (w : Bool) (fault : Option Fault) (n : Contents)
    (contents_are_n : contents text db w fault ≡ n) (k : ℕ) (k_lt_counted : k < length n.statements)
  where
    k_lt_length : k < length db
    k_lt_length = rw (← contents_are_n, counted_length) at k_lt_counted

    abbrev s : Statement
    s = get_or db k (opening 0)

    s_is_statement_k : slice_get db k ≡ Some s
    s_is_statement_k = slice_get-get_or db k (opening 0) k_lt_length

    kind_of_s_is_kind_k : (x : Kind) → option_map kind_of (slice_get db k) ≡ Some x → kind_of s ≡ x
    kind_of_s_is_kind_k x kind_k_is_x =
        same_Some _ _ (sym (ap (option_map kind_of) s_is_statement_k) ∙ kind_k_is_x)

    counted_label_is_label : {X : Type 0} (f : Token → X)
        → option_map f (option_and_then label_of (slice_get n.statements k))
        ≡ option_map f (label_of s)
    counted_label_is_label f =
        rw (← contents_are_n) (ap (option_map f)
        (counted_then w db label_of (λ l k xs e ps d. refl) k
        ∙ ap (option_and_then label_of) s_is_statement_k))

    -- no label
    pub label_missing : {X : Type 0} (f : Token → X) (x : Kind)
        → option_map kind_of (slice_get db k) ≡ Some x → is_labelled_kind x ≡ false
        → None ≡ option_map f (option_and_then label_of (slice_get n.statements k))
    label_missing f x kind_k_is_x is_not_labelled =
        sym (counted_label_is_label f ∙ ap (option_map f) (unlabelled_has_no_label s
        (rw (kind_of_s_is_kind_k x kind_k_is_x) is_not_labelled)))

    module _ (retained : List (List Word)) (are_retained : AreRetained text db retained) where
      pub k_lt_retained_count : k < length retained
      k_lt_retained_count = rw are_retained.count k_lt_length

      module _ (words : List Word) (words_are_words_k : words ≡ get_or retained k []) where
        retained_k : IsRetained text s words
        retained_k = rw words_are_words_k (are_retained.words_are_retained k s s_is_statement_k)

        words_end_in_last : words ≡ (retained_k.label ++ retained_k.proof) ++ retained_k.last ∷ []
        words_end_in_last = rw append_assoc retained_k.words_are

        word_count : length words ≡ length (retained_k.label ++ retained_k.proof) + 1
        word_count = ap length words_end_in_last ∙ length-append (retained_k.label
            ++ retained_k.proof) (retained_k.last ∷ [])

        pub some_are_retained : 0 < length words
        some_are_retained = omega (arith, word_count)

        pub words_are_within : AreWithin text words
        words_are_within = retained_k.words_within_text

        -- the last of the retained words is the last token of the statement
        pub last_is_retained : (d : Word)
            → option_map end_at (slice_get n.statements k)
            ≡ Some (get_or words (length words - 1) d).start
        last_is_retained d =
            let start = retained_k.label ++ retained_k.proof in
            let last_index : length words - 1 ≡ length start = omega (arith, word_count) in
            rw (← contents_are_n) (counted_got w db end_at (λ l k xs e ps d. refl) k
            ∙ ap (option_map end_at) s_is_statement_k ∙ ap Some (sym retained_k.last_is)
            ∙ ap (λ x. Some x.start) (sym (ap₂ (λ ys i. get_or ys i d) words_end_in_last last_index
            ∙ get_or-append_seam start retained_k.last [] d)))

        module _ (x : Kind) (kind_is_x : kind_of s ≡ x)
            (x_is_labelled : is_labelled_kind x ≡ true) where
          s_is_labelled : is_labelled_kind (kind_of s) ≡ true
          s_is_labelled = ap is_labelled_kind kind_is_x ∙ x_is_labelled

          first_is_label : (v : Word) × (retained_k.label ≡ v ∷ [])
              × (token_of text v ≡ (has_label s s_is_labelled).0)
          first_is_label =
              only_word text retained_k.label (has_label s s_is_labelled).0 (retained_k.label_is
              ∙ ap (λ o. elim o [ None ↦ [] | Some l ↦ l ∷ [] ]) (has_label s s_is_labelled).1)

          words_begin_with_label : words
              ≡ first_is_label.0 ∷ (retained_k.proof ++ retained_k.last ∷ [])
          words_begin_with_label =
              retained_k.words_are ∙ ap (λ l. l ++ (retained_k.proof ++ retained_k.last ∷ []))
              first_is_label.1

          first_word_is_label : {X : Type 0} (f : Token → X) (d : Word)
              → Some (f (token_of text (get_or words 0 d)))
              ≡ option_map f (option_and_then label_of (slice_get n.statements k))
          first_word_is_label f d =
              ap (λ ys. Some (f (token_of text (get_or ys 0 d)))) words_begin_with_label
              ∙ ap (λ t. Some (f t)) first_is_label.2
              ∙ sym (counted_label_is_label f
              ∙ ap (option_map f) (has_label s s_is_labelled).1)

          word_count_with_label : length words ≡ suc (length retained_k.proof + 1)
          word_count_with_label =
              ap length words_begin_with_label
              ∙ ap suc (length-append retained_k.proof (retained_k.last ∷ []))

          two_are_retained : 2 ≤ length words
          two_are_retained = omega (arith, word_count_with_label)

          -- the words of the proof
          middle_words_are_proof : slice_range words 1 (length words - 1) ≡ retained_k.proof
          middle_words_are_proof =
              let width : (length words - 1) - 1 ≡ length retained_k.proof = omega (
                arith,
                word_count_with_label,
              ) in
              ap₂ (λ m ys. take m (drop 1 ys)) width words_begin_with_label
              ∙ take-append_seam retained_k.proof (retained_k.last ∷ [])

        -- the first of the retained words of a labelled statement is its label
        pub label_is_retained : {X : Type 0} (f : Token → X) (x : Kind)
            → option_map kind_of (slice_get db k) ≡ Some x → is_labelled_kind x ≡ true → (d : Word)
            → Some (f (token_of text (get_or words 0 d)))
            ≡ option_map f (option_and_then label_of (slice_get n.statements k))
        label_is_retained f x kind_k_is_x is_labelled d =
            first_word_is_label x (kind_of_s_is_kind_k x kind_k_is_x) is_labelled f d

        module _ (counts : option_map kind_of (slice_get n.statements k) ≡ Some kind.Theorem) where
          theorem : (kind_of s ≡ kind.Theorem) × (slice_get (open_as_axioms w db) k ≡ Some s)
          theorem =
              counted_theorem_is_theorem w db k s s_is_statement_k (rw (← contents_are_n) at counts)

          pub theorem_has_two_words : 2 ≤ length words
          theorem_has_two_words = two_are_retained kind.Theorem theorem.0 refl

          pub proof_is_retained : option_map proof_of (slice_get n.statements k)
              ≡ Some (as_tokens n.text (slice_range words 1 (length words - 1)))
          proof_is_retained =
              rw (
                ← contents_are_n,
                middle_words_are_proof kind.Theorem theorem.0 refl,
                retained_k.proof_is,
              ) (ap (option_map proof_of) theorem.1)

          pub proof_within : AreWithin n.text (slice_range words 1 (length words - 1))
          proof_within =
              rw (← contents_are_n) (All-take (λ w. (w.start ≤ w.end) × (w.end ≤ length text))
              (length words - 1 - 1) (drop 1 words) (All-drop (λ w. (w.start ≤ w.end)
              × (w.end ≤ length text)) 1 words retained_k.words_within_text))
