-- A statement is found where any number of blocks are open, if it is found where some number are.
-- Only if it closes a block, one has to be open. `does` says that of one token, `first_statement`
-- of the tokens up to the end of the statement. That this end is the one that was found follows
-- from the places of the tokens, which rise.
use Rattle.std.proofs.Common.{◌≡◌, ◌<◌, ◌≤◌, ℕ, ◌+◌, ◌-◌, zero, suc, Bool, true, false, List, []}
use Rattle.std.proofs.Common.{◌∷◌, length, ◌⊎◌, inl, inr, arith, refl, sym, ap, ◌∙◌, subst}
use Rattle.std.proofs.lemmas.Bool.{cases_order}
use Rattle.mm_spec.specs.Text.{Token, is_label}
use Rattle.mm_spec.specs.Statement.{Statement, constants, variables, disjoint, floating, essential}
use Rattle.mm_spec.specs.Statement.{axiomatic, provable, opening, closing}
use Rattle.mm_spec.specs.Laws.Table.{Progress, start, labelled, words, formula, Class, class}
use Rattle.mm_spec.specs.Laws.Table.{constant_keyword, variable_keyword, disjoint_keyword}
use Rattle.mm_spec.specs.Laws.Table.{floating_keyword, essential_keyword, axiom_keyword}
use Rattle.mm_spec.specs.Laws.Table.{theorem_keyword, equals, dot, open_block, close_block, plain}
use Rattle.mm_spec.specs.Laws.Table.{Transition, unexpected, continued, completed, transition}
use Rattle.mm_spec.specs.Laws.Table.{label_transition, statements_from}
use Rattle.mm_spec.specs.declared.Word.{Word}
use Rattle.mm_outline.specs.Parts.{token_at, start_of, statement_between, statement_of, one_less}
use Rattle.mm_outline.specs.Parts.{depth_after, HasEnd}
use Rattle.mm_outline.specs.NextStatement.{Leads, tokens_from, IsNextStatement}
use Rattle.mm_outline.specs.declared.parts.Kind.{Kind}
use Rattle.mm_outline.specs.declared.parts.Kind.TheVariants.{Theorem, Open, Close}
use Rattle.mm_outline.specs.declared.parts.Outline.{Outline}
use Rattle.mm_outline.specs.declared.parts.NextStatement.TheVariants.{Whole}
use Rattle.mm_outline.proofs.ProgressLaw.{continued_leads_on, leads_one_after_other}
use Rattle.mm_outline.proofs.ProgressLaw.{tokens_from_begin_with}
use Rattle.mm_scope.proofs.OutlinesLaw.{none_left}

-- how many blocks are open
abbrev depth_of : Progress → ℕ
depth_of (start d) = d
depth_of (labelled d l) = d
depth_of (words d make us) = d
depth_of (formula d l k us) = d

-- the same progress where e blocks are open
abbrev with_depth : Progress → ℕ → Progress
with_depth (start d) e = start e
with_depth (labelled d l) e = labelled e l
with_depth (words d make us) e = words e make us
with_depth (formula d l k us) e = formula e l k us

-- the place of the last token of a statement
abbrev last_place : Statement → ℕ
last_place (constants k xs d) = d
last_place (variables k xs d) = d
last_place (disjoint k xs d) = d
last_place (floating l k xs d) = d
last_place (essential l k xs d) = d
last_place (axiomatic l k xs d) = d
last_place (provable l k xs e ps d) = d
last_place (opening k) = k
last_place (closing k) = k

-- how many blocks are open after a statement, if d are open before it
abbrev depth_behind : Statement → ℕ → ℕ
depth_behind (opening k) d = suc d
depth_behind (closing k) d = one_less d
depth_behind _ d = d

-- a statement that closes a block needs an open one
abbrev HasItsBlock : Statement → ℕ → Type 0
HasItsBlock (closing k) d = 0 < d
HasItsBlock _ d = Unit {0}

abbrev pub IsInItsBlock : Kind → ℕ → Type 0
IsInItsBlock Close d = 0 < d
IsInItsBlock _ d = Unit {0}

-- what is made of words is a statement that ends at the given place, and neither opens nor closes a
-- block
abbrev IsSound : Progress → Type 0
IsSound (words d make us) =
    (xs : List Token) (at : ℕ)
    → (last_place (make xs at) ≡ at) × ((e : ℕ) → depth_behind (make xs at) e ≡ e)
IsSound _ = Unit {0}

-- what a token does doesn't depend on how many blocks are open
abbrev Does : Progress → Class → Token → Transition → Type 0
Does r k t unexpected = Unit {0}
Does r k t (continued q) =
    IsSound q × (depth_of q ≡ depth_of r)
    × ((e : ℕ) → transition (with_depth r e) k t ≡ continued (with_depth q e))
Does r k t (completed d s) =
    (last_place s ≡ t.at) × (d ≡ depth_behind s (depth_of r))
    × ((e : ℕ) → HasItsBlock s e
    → transition (with_depth r e) k t ≡ completed (depth_behind s e) s)

closes : (t : Token) (e : ℕ) → 0 < e
    → transition (start e) close_block t ≡ completed (one_less e) (closing t.at)
closes t zero some = absurd (omega (arith, some))
closes t (suc e) some = refl

labels : (d : ℕ) (t : Token) (b : Bool) → is_label t.word ≡ b
    → Does (start d) plain t (label_transition b d t)
labels d t true is = (tt, refl, λ e. ap (λ b. label_transition b e t) is)
labels d t false is = tt

does : (r : Progress) (k : Class) (t : Token) → IsSound r → Does r k t (transition r k t)
does (start d) constant_keyword t sound = (λ xs at. (refl, λ e. refl), refl, λ e. refl)
does (start d) variable_keyword t sound = (λ xs at. (refl, λ e. refl), refl, λ e. refl)
does (start d) disjoint_keyword t sound = (λ xs at. (refl, λ e. refl), refl, λ e. refl)
does (start d) open_block t sound = (refl, refl, λ e has. refl)
does (start zero) close_block t sound = tt
does (start (suc d)) close_block t sound = (refl, refl, λ e has. closes t e has)
does (start d) plain t sound = labels d t (is_label t.word) refl
does (start d) _ t sound = tt
does (labelled d l) floating_keyword t sound = (λ xs at. (refl, λ e. refl), refl, λ e. refl)
does (labelled d l) essential_keyword t sound = (λ xs at. (refl, λ e. refl), refl, λ e. refl)
does (labelled d l) axiom_keyword t sound = (λ xs at. (refl, λ e. refl), refl, λ e. refl)
does (labelled d l) theorem_keyword t sound = (tt, refl, λ e. refl)
does (labelled d l) _ t sound = tt
does (formula d l k us) plain t sound = (tt, refl, λ e. refl)
does (formula d l k us) equals t sound = (λ xs at. (refl, λ e. refl), refl, λ e. refl)
does (formula d l k us) _ t sound = tt
does (words d make us) plain t sound = (sound, refl, λ e. refl)
does (words d make us) dot t sound =
    let made = sound us t.at in
    (made.0, sym (made.1 d), λ e has. ap (λ n. completed n (make us t.at)) (sym (made.1 e)))
does (words d make us) _ t sound = tt

completed_leads_on : {r : Progress} {t : Token} {us : List Token} {d : ℕ} {s : Statement}
    → transition r (class t.word) t ≡ completed d s → Leads r (t ∷ us) (s ∷ []) (start d) us
completed_leads_on is = record {
  statements = rw is refl;
  fault_stays = rw is refl;
  progress_stays = rw is refl;
}

module _ (text : List ℕ) (ws : List Word) where
  -- a statement whose last token has the index `last`, however many blocks are open before it
  record IsFirst (r : Progress) (from : ℕ) (s : Statement) (last : ℕ) : Type 0 where
    from_le_last : from ≤ last
    last_lt_count : last < length ws
    place_is : last_place s ≡ start_of text ws last
    leads : Leads r (tokens_from text ws from) (s ∷ []) (start (depth_behind s (depth_of r)))
        (tokens_from text ws (last + 1))
    leads_anywhere : (e : ℕ) → HasItsBlock s e
        → Leads (with_depth r e) (tokens_from text ws from) (s ∷ []) (start (depth_behind s e))
        (tokens_from text ws (last + 1))

  abbrev HasFirst : Progress → ℕ → Type 0
  HasFirst r from =
      (statements_from r (tokens_from text ws from) ≡ [])
      ⊎ ((s : Statement) × (last : ℕ) × IsFirst r from s last)

  module _ (r : Progress) (i : ℕ) (i_lt_length : i < length ws) where
    abbrev read : Token
    read = token_at text ws i

    later_is_first : (q : Progress) → transition r (class read.word) read ≡ continued q
        → Does r (class read.word) read (continued q) → (s : Statement) (last : ℕ)
        → IsFirst q (i + 1) s last → IsFirst r i s last
    later_is_first q is done s last first =
        let depth_is : depth_of q ≡ depth_of r = done.1 in
        let begin_with = tokens_from_begin_with text ws i i_lt_length in
        record {
          from_le_last = let le_last = first.from_le_last in omega (arith, le_last);
          last_lt_count = first.last_lt_count;
          place_is = first.place_is;
          leads =
              rw begin_with (leads_one_after_other {row = []} (continued_leads_on (sym is))
              (subst (λ d. Leads q (tokens_from text ws (i + 1)) (s ∷ [])
              (start (depth_behind s d)) (tokens_from text ws (last + 1))) depth_is first.leads));
          leads_anywhere = λ e has.
              rw begin_with (leads_one_after_other {row = []}
              (continued_leads_on (sym (done.2 e))) (first.leads_anywhere e has));
        }

    by_transition : (k : Transition) → transition r (class read.word) read ≡ k
        → Does r (class read.word) read k
        → ((q : Progress) → IsSound q → HasFirst q (i + 1)) → HasFirst r i
    by_transition unexpected is done later =
        inl (rw (tokens_from_begin_with text ws i i_lt_length, is) refl)
    by_transition (continued q) is done later =
        elim (later q done.0) [
          | inl none ↦ inl (rw (tokens_from_begin_with text ws i i_lt_length, is) none)
          | inr (s, last, first) ↦ inr (s, last, later_is_first q is done s last first)
        ]
    by_transition (completed d s) is done later =
        let begin_with = tokens_from_begin_with text ws i i_lt_length in
        inr (
          s,
          i,
          record {
            from_le_last = omega arith;
            last_lt_count = i_lt_length;
            place_is = done.0;
            leads =
                rw begin_with (subst (λ n. Leads r (read ∷ tokens_from text ws (i + 1)) (s ∷ [])
                (start n) (tokens_from text ws (i + 1))) done.1 (completed_leads_on is));
            leads_anywhere = λ e has. rw begin_with (completed_leads_on (done.2 e has));
          },
        )

  -- the first statement that is read from there on, if there is one
  first_statement : (n i : ℕ) → i + n ≡ length ws → (r : Progress) → IsSound r → HasFirst r i
  first_statement zero i i_is r sound = inl (rw (none_left ws i (omega arith)) refl)
  first_statement (suc n) i i_is r sound =
      by_transition r i (omega arith) (transition r (class (token_at text ws i).word)
      (token_at text ws i)) refl
      (does r (class (token_at text ws i).word) (token_at text ws i) sound)
      (first_statement n (i + 1) (omega arith))

  -- the statement of an outline by the same words
  last_place_is : (k : Kind) (w m e : ℕ) → HasEnd k w m e
      → last_place (statement_between text ws k w m e) ≡ start_of text ws e
  last_place_is Theorem w m e has_end = refl
  last_place_is Open w m e has_end = ap (start_of text ws) (has_end.0 ∙ has_end.1)
  last_place_is Close w m e has_end = ap (start_of text ws) (has_end.0 ∙ has_end.1)
  last_place_is _ w m e has_end = ap (start_of text ws) has_end

  depth_behind_is : (k : Kind) (w m e d : ℕ)
      → depth_behind (statement_between text ws k w m e) d ≡ depth_after k d
  depth_behind_is Open w m e d = refl
  depth_behind_is Close w m e d = refl
  depth_behind_is _ w m e d = refl

  has_its_block : (k : Kind) (w m e d : ℕ) → IsInItsBlock k d
      → HasItsBlock (statement_between text ws k w m e) d
  has_its_block Close w m e d is_in_block = is_in_block
  has_its_block _ w m e d is_in_block = tt

  -- where e blocks are open, the tokens give the statement s with its last token at `last`, and f
  -- blocks are open after it
  abbrev Gives : ℕ → ℕ → Statement → ℕ → ℕ → Type 0
  Gives e from s f last =
      Leads (start e) (tokens_from text ws from) (s ∷ []) (start f)
      (tokens_from text ws (last + 1))

  module _ (starts_rise : (i j : ℕ) → i < j → j < length ws
      → start_of text ws i < start_of text ws j)
    where
      same_index : (i j : ℕ) → i < length ws → j < length ws
          → start_of text ws i ≡ start_of text ws j → i ≡ j
      same_index i j i_lt_length j_lt_length same_start =
          elim (cases_order i j) [
            | inl same ↦ same
            | inr (inl i_lt_j) ↦
                let rises = starts_rise i j i_lt_j j_lt_length in absurd (omega arith)
            | inr (inr j_lt_i) ↦
                let rises = starts_rise j i j_lt_i i_lt_length in absurd (omega arith)
          ]

      -- what is found where d blocks are open is found where e are
      pub found_at_other_depth : (d from : ℕ) (o : Outline)
          → IsNextStatement text ws d from (Whole o) → (e : ℕ) → IsInItsBlock o.kind e
          → IsNextStatement text ws e from (Whole o)
      found_at_other_depth d from o found e is_in_block =
          let whole = found.1 in
          let from_le_end = whole.from_le_end in
          let end_lt_count = whole.end_lt_count in
          elim (first_statement (length ws - from) from (omega arith) (start d) tt) [
            | inl none ↦
                let leads = whole.leads.statements in absurd (cc)
            | inr (s, last, first) ↦
                let found_first = first.leads.statements in
                let found_whole = whole.leads.statements in
                let s_is : s ≡ statement_of text ws o = cc in
                let last_is : last ≡ o.end =
                same_index last o.end first.last_lt_count end_lt_count (sym first.place_is
                ∙ ap last_place s_is
                ∙ last_place_is o.kind o.keyword o.middle o.end found.0.4) in (
                  found.0,
                  record {
                    from_le_end = from_le_end;
                    end_lt_count = end_lt_count;
                    leads = at_end s last first s_is last_is;
                  },
                )
          ]
        where
          at_end : (s : Statement) (last : ℕ) → IsFirst (start d) from s last
              → s ≡ statement_of text ws o → last ≡ o.end
              → Gives e from (statement_of text ws o) (depth_after o.kind e) o.end
          at_end s last first s_is last_is =
              let o_statement = statement_of text ws o in
              subst (λ f. Gives e from o_statement f o.end)
              (depth_behind_is o.kind o.keyword o.middle o.end e)
              (subst (λ n. Gives e from o_statement (depth_behind o_statement e) n) last_is
              (subst (λ x. HasItsBlock x e → Gives e from x (depth_behind x e) last) s_is
              (first.leads_anywhere e)
              (has_its_block o.kind o.keyword o.middle o.end e is_in_block)))
