-- Neighbouring stretches join.
use Rattle.std.proofs.lemmas.Grind.{common_steps}
use Rattle.std.proofs.Common.{◌≡◌, ℕ, zero, suc, ◌+◌, ◌-◌, ◌<◌, ◌≤◌, false, List, ◌∷◌, ◌++◌, length}
use Rattle.std.proofs.Common.{ap, subst, ◌∙◌, arith, inl, inr, lt-ltb, le-ltb, rules}
use Rattle.std.proofs.lemmas.Bool.{cases_lt}
use Rattle.mm_spec.specs.declared.Word.{Word}
use Rattle.mm_spec.specs.Words.{begins_word, word_at, words_between}
use Rattle.mm_spec.proofs.WordsBetweenLaw.{IsBoundary, words_between_skip, words_between_take}
use Rattle.mm_spec.proofs.WordsBetweenLaw.{words_between_none, words_between_skips}
use Rattle.mm_spec.proofs.WordsBetweenLaw.{none_begins_after_not_white}
use Rattle.mm_spec.specs.Laws.Words.{IsWord}
use Rattle.mm_lex.specs.Stretches.{NoWhite, IsBroken, joined_word}
use Rattle.mm_spec.proofs.WordsLaw.{IsWord_begins, word_at_start_is_word, words_between_cases}

-- the words of two stretches of places, one after the other
pub words_between_split : (text : List ℕ) (n from mid to : ℕ) → from + n ≡ mid → mid ≤ to
    → words_between text from to ≡ words_between text from mid ++ words_between text mid to
words_between_split text zero from mid to from_plus_n mid_le_to =
    search (rules, arith, words_between_none)
words_between_split text (suc n) from mid to from_plus_n mid_le_to =
    let later_appended : words_between text (from + 1) to
    ≡ words_between text (from + 1) mid
    ++ words_between text mid to = words_between_split text n (from + 1) mid to
    (omega arith) mid_le_to in
    elim (words_between_cases text from to (omega arith)) [
      | inl (begins, taken) ↦ rw (words_between_take text from mid (omega arith) begins)
          (taken ∙ ap (λ (ws : List Word). word_at text from ∷ ws) later_appended)
      | inr (begins_not, skipped) ↦ rw (words_between_skip text from mid (omega arith) begins_not)
          (skipped ∙ later_appended)
    ]

-- no word goes on over the ends of what lies between head and tail
pub head_is_boundary : {text : List ℕ} {from to head tail : ℕ} → IsBroken text from to head tail
    → IsBoundary text head
head_is_boundary h1 = grind (arith, common_steps)

pub tail_is_boundary : {text : List ℕ} {from to head tail : ℕ} → IsBroken text from to head tail
    → IsBoundary text tail
tail_is_boundary h1 = grind (arith, common_steps)

-- a run without a white byte between two places over which no word goes on
run_is_word : (text : List ℕ) (p q : ℕ) → p < q → q ≤ length text → IsBoundary text p
    → IsBoundary text q → NoWhite text p q → IsWord text (record { start = p; end = q })
run_is_word text p q p_lt_q q_le_length boundary_at_p boundary_at_q not_white = grind arith

none_begins_inside : (text : List ℕ) (p q : ℕ) → NoWhite text p q → (j : ℕ) → p + 1 ≤ j → j < q
    → begins_word text j ≡ false
none_begins_inside text p q not_white j p_lt_j j_lt_q =
    let place_is_j : (j - 1) + 1 ≡ j = omega arith in
    subst (λ (k : ℕ). begins_word text k ≡ false) place_is_j
    (none_begins_after_not_white text (j - 1) (not_white (j - 1) (omega arith) (omega arith)))

pub words_of_unbroken_run : (text : List ℕ) (p q : ℕ) → q ≤ length text → IsBoundary text p
    → IsBoundary text q → NoWhite text p q → words_between text p q ≡ joined_word p q
words_of_unbroken_run text p q q_le_length boundary_at_p boundary_at_q not_white =
    elim (cases_lt p q) [
      | inl p_lt_q ↦
          let is_word = run_is_word text p q p_lt_q q_le_length boundary_at_p boundary_at_q
          not_white
          in
          words_between_take text p q p_lt_q (IsWord_begins is_word)
          ∙ ap (λ (w : Word). w ∷ words_between text (p + 1) q) (word_at_start_is_word is_word)
          ∙ ap (λ (ws : List Word). let w : Word = record { start = p; end = q } in w ∷ ws)
          (words_between_skips text (q - (p + 1)) (p + 1) q q (omega arith) (omega arith)
          (none_begins_inside text p q not_white) ∙ words_between_none text q q (omega arith))
          ∙ rw (lt-ltb p q p_lt_q)
      | inr q_le_p ↦ words_between_none text p q q_le_p ∙ rw (le-ltb p q q_le_p)
    ]

no_white_in_both : (text : List ℕ) (p b q : ℕ) → NoWhite text p b → NoWhite text b q
    → NoWhite text p q
no_white_in_both text p b q none_in_front none_at_back i p_le_i i_lt_q = grind arith

pub words_of_joined : {text : List ℕ} {a b c h1 t1 h2 t2 : ℕ} → IsBroken text a b h1 t1
    → IsBroken text b c h2 t2 →
    words_between text h1 t2
    ≡ words_between text h1 t1 ++ (joined_word t1 h2 ++ words_between text h2 t2)
words_of_joined {text} {a} {b} {c} {h1} {t1} {h2} {t2} first_broken second_broken =
    words_between_split text (t1 - h1) h1 t1 t2 (omega arith) (omega arith)
    ∙ ap (λ (ws : List Word). words_between text h1 t1 ++ ws)
    (words_between_split text (h2 - t1) t1 h2 t2 (omega arith) (omega arith)
    ∙ ap (λ (ws : List Word). ws ++ words_between text h2 t2)
    (words_of_unbroken_run text t1 h2 (omega arith) (tail_is_boundary first_broken)
    (head_is_boundary second_broken)
    (no_white_in_both text t1 b h2 first_broken.tail_not_white second_broken.head_not_white)))

pub broken_join : {text : List ℕ} {a b c h1 t1 h2 t2 : ℕ} → IsBroken text a b h1 t1
    → IsBroken text b c h2 t2 → IsBroken text a c h1 t2
broken_join {text} {a} {b} {c} {h1} {t1} {h2} {t2} first_broken second_broken = grind arith
