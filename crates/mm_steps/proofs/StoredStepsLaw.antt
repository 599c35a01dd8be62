-- The flag of a step that is marked anew.
use Rattle.std.proofs.Common.{◌≡◌, ◌∙◌, ℕ, zero, suc, ◌==◌, ◌<◌, ◌||◌, Bool, true, false, List, []}
use Rattle.std.proofs.Common.{◌∷◌, ◌++◌, length, get_or, slice_set, refl, sym, ap, arith, eqb-true}
use Rattle.std.proofs.Common.{eq-eqb, length-append, true≢false}
use Rattle.std.proofs.lemmas.List.{get_or-set_same, get_or-set_other, map-append}
use Rattle.std.proofs.lemmas.List.Folds.{list_any-append}
use Rattle.std.proofs.lemmas.Bool.{or_right}
use Rattle.mm_spec.specs.Steps.{marked}
use Rattle.mm_spec.proofs.BoolLaw.{or_with_false}
use Rattle.mm_steps.specs.declared.step_list.Placed.{Placed}
use Rattle.mm_steps.specs.TheoremSteps.{is_marked, repeats}
use Rattle.mm_steps.specs.StoredSteps.{step_by, placed_of, placed_steps, no_step}
use Rattle.mm_steps.specs.StoredSteps.{TellWhichAreMarked}

-- a step that is stored as before changes no other
pub placed_steps_unchanged_by_set : (ps : List Placed) (j : ℕ) (q : Placed)
    → placed_of q ≡ placed_of (get_or ps j no_step)
    → placed_steps (slice_set ps j q) ≡ placed_steps ps
placed_steps_unchanged_by_set [] j q same_step = refl
placed_steps_unchanged_by_set (p ∷ ps) zero q same_step = ap (λ z. z ∷ placed_steps ps) same_step
placed_steps_unchanged_by_set (p ∷ ps) (suc j) q same_step =
    ap (λ z. placed_of p ∷ z) (placed_steps_unchanged_by_set ps j q same_step)

-- the steps that are stored, with one more
pub placed_steps_push : (ps : List Placed) (p : Placed)
    → placed_steps (ps ++ p ∷ []) ≡ placed_steps ps ++ placed_of p ∷ []
placed_steps_push ps p = map-append placed_of ps (p ∷ [])

-- one more step that is not marked changes no flag
flag_unchanged_by_unmarked : (ps : List Placed) (p : Placed) (i : ℕ) → p.is_marked ≡ false
    → (get_or (ps ++ p ∷ []) i no_step).is_marked ≡ (get_or ps i no_step).is_marked
flag_unchanged_by_unmarked [] p zero p_is_not_marked = p_is_not_marked
flag_unchanged_by_unmarked [] p (suc i) p_is_not_marked = refl
flag_unchanged_by_unmarked (q ∷ ps) p zero p_is_not_marked = refl
flag_unchanged_by_unmarked (q ∷ ps) p (suc i) p_is_not_marked =
    flag_unchanged_by_unmarked ps p i p_is_not_marked

-- `false` at the end of a disjunction may be left out
or_false_at_end : (a b : Bool) → (a || (b || false)) ≡ (a || b)
or_false_at_end true b = refl
or_false_at_end false true = refl
or_false_at_end false false = refl

-- what one more step marks
marked_by_one_more : (ps : List Placed) (p : Placed) (i : ℕ)
    → is_marked (placed_steps (ps ++ p ∷ [])) i
    ≡ (is_marked (placed_steps ps) i || repeats i (step_by p.kind p.number))
marked_by_one_more ps p i =
    ap (λ z. is_marked z i) (placed_steps_push ps p)
    ∙ list_any-append (λ s. repeats i s.step) (placed_steps ps) (placed_of p ∷ [])
    ∙ or_false_at_end (is_marked (placed_steps ps) i) (repeats i (step_by p.kind p.number))

-- one more step, which repeats the subproof of step j, and the flag of step j
pub flags_with_marked_step : (ps qs : List Placed) (p q : Placed) (j : ℕ) → TellWhichAreMarked ps
    → qs ≡ ps ++ p ∷ []
    → p.is_marked ≡ false → step_by p.kind p.number ≡ marked j → j < length ps
    → placed_of q ≡ placed_of (get_or qs j no_step) → q.is_marked ≡ true
    → TellWhichAreMarked (slice_set qs j q)
flags_with_marked_step ps qs p q j old_flags is_appended not_marked repeats_j j_lt_length
    steps_equal
    q_is_marked i =
    flag_tells_mark (i == j) refl
  where
    marked_after : is_marked (placed_steps (slice_set qs j q)) i
        ≡ (is_marked (placed_steps ps) i || (i == j))
    marked_after =
        ap (λ z. is_marked z i) (placed_steps_unchanged_by_set qs j q steps_equal)
        ∙ ap (λ z. is_marked (placed_steps z) i) is_appended
        ∙ marked_by_one_more ps p i
        ∙ ap (λ s. is_marked (placed_steps ps) i || repeats i s) repeats_j

    flag_tells_mark : (b : Bool) → (i == j) ≡ b
        → (get_or (slice_set qs j q) i no_step).is_marked
        ≡ is_marked (placed_steps (slice_set qs j q)) i
    flag_tells_mark true i_is_j =
        ap (λ z. (get_or (slice_set qs j q) z no_step).is_marked) (eqb-true i j i_is_j)
        ∙ ap (λ z. z.is_marked)
        (get_or-set_same qs j q no_step
        (let pushed_length = ap length is_appended in
        omega (arith, pushed_length, length-append ps (p ∷ []))))
        ∙ q_is_marked ∙ sym (marked_after
        ∙ or_right (is_marked (placed_steps ps) i) (i == j) i_is_j)
    flag_tells_mark false i_is_j =
        ap (λ z. z.is_marked)
        (get_or-set_other qs j i q no_step (λ i_eq_j. true≢false (sym (eq-eqb i j i_eq_j)
        ∙ i_is_j)))
        ∙ ap (λ z. (get_or z i no_step).is_marked) is_appended
        ∙ flag_unchanged_by_unmarked ps p i not_marked ∙ old_flags i
        ∙ sym (marked_after ∙ or_with_false (is_marked (placed_steps ps) i) (i == j) i_is_j)
