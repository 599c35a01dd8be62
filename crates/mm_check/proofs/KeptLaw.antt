-- The long formulas that a proof keeps, by the marks of their steps.
use Rattle.std.proofs.Common.{◌≡◌, ℕ, ◌<◌, ◌≤◌, List, [], ◌∷◌, ◌++◌, length, get_or}
use Rattle.std.proofs.Common.{◌∙◌, subst, arith, length-append, inl, inr, refl, sym, ap}
use Rattle.std.proofs.Common.{Bool, true, Result, Ok, Err, OnOk, IfOk}
use Rattle.std.proofs.lemmas.Bool.{cases_lt}
use Rattle.std.proofs.lemmas.List.{get_or_append_left, get_or_push}
use Rattle.mm_spec.specs.Statement.{Statement}
use Rattle.mm_spec.specs.Derivation.{Formula}
use Rattle.mm_spec.specs.Frame.{formula_at}
use Rattle.mm_spec.specs.Laws.Stack.{top}
use Rattle.mm_spec.proofs.StepsLaw.{top_of_appended}
use Rattle.mm_machine.specs.DisjointCache.{KnownPairs, AreDisjointAt}
use Rattle.mm_machine.specs.State.{MachineState, with_mark}
use Rattle.mm_check.specs.Checker.{CheckerState, checker_state, AreOfDatabase, AreKept, IsAtTheorem}
use Rattle.mm_check.specs.Checker.{with_formula}

module _ (db : List Statement) (marks : List ℕ) (formulas : List Formula) (kept : List (ℕ × ℕ))
    (are_kept : AreKept db marks formulas kept)
  where
    module _ (j : ℕ) (f : Formula) (enough : length marks ≤ length formulas) where
      -- with a mark more
      pub kept_after_mark : AreKept db (marks ++ j ∷ []) (formulas ++ f ∷ []) kept
      kept_after_mark i i_lt =
          let mark_lt = (are_kept i i_lt).0 in (
            omega (arith, mark_lt, length-append marks (j ∷ [])),
            get_or_append_left formulas (f ∷ []) [] (get_or kept i (0, 0)).1
                (omega (arith, mark_lt, enough))
                ∙ (are_kept i i_lt).1,
          )

      -- with a mark more, whose formula is kept
      pub kept_with_one_more : (statement mark : ℕ) → mark ≡ length marks
          → length formulas ≡ length marks → f ≡ formula_at db statement
          → AreKept db (marks ++ j ∷ []) (formulas ++ f ∷ []) (kept ++ (statement, mark) ∷ [])
      kept_with_one_more statement mark mark_is count_is f_is i i_lt =
          elim (cases_lt i (length kept)) [
            | inl i_lt_length ↦ rw (get_or_append_left kept ((statement, mark) ∷ []) (0, 0) i
                i_lt_length) (kept_after_mark i i_lt_length)
            | inr length_le_i ↦ rw (get_or_push kept (statement, mark) (0, 0) i
                (omega (arith, i_lt, length_le_i, length-append kept ((statement, mark) ∷ [])))) (
                  omega (arith, mark_is, length-append marks (j ∷ [])),
                  get_or_push formulas f [] mark (omega (arith, mark_is, count_is)) ∙ f_is,
                )
          ]

-- ---- the top entry

-- the formula that was pushed is on top
pub whole_if_pushed : {E : Type 0} (r : Result Bool E) (c d : CheckerState) (f : Formula)
    → OnOk r (d ≡ with_formula f c) → IfOk r (λ b. b ≡ true → top d.machine.stack ≡ f)
whole_if_pushed (Ok b) c d f is_pushed =
    λ is_true. ap (λ s. top s.machine.stack) is_pushed ∙ top_of_appended c.machine.stack f
whole_if_pushed (Err e) c d f is_pushed = tt

-- ---- at the theorem

module _ (db : List Statement) (t : ℕ) (c : CheckerState) (at_theorem : IsAtTheorem db t c)
    (m : MachineState)
  where
    -- with another stack
    pub at_theorem_with_stack : (noted : List ℕ) (cache : KnownPairs) → m.marks ≡ c.machine.marks
        → m.formulas ≡ c.machine.formulas → m.variable_flags ≡ c.machine.variable_flags
        → AreDisjointAt db t cache → IsAtTheorem db t (checker_state m c.rules noted cache c.kept)
    at_theorem_with_stack noted cache marks_stay formulas_stay variables_stay are_disjoint =
        record {
          made_for =
              subst (λ vs. AreOfDatabase db vs c.rules) (sym variables_stay) at_theorem.made_for;
          theorem_lt_length = at_theorem.theorem_lt_length;
          pairs_are_disjoint = are_disjoint;
          are_kept =
              subst (λ ms. AreKept db ms m.formulas c.kept) (sym marks_stay)
              (subst (λ fs. AreKept db c.machine.marks fs c.kept) (sym formulas_stay)
              at_theorem.are_kept);
        }

    module _ (j : ℕ) (m_is : m ≡ with_mark true j c.machine) where
      -- with a mark more
      pub at_theorem_with_mark : length c.machine.marks ≤ length c.machine.formulas
          → IsAtTheorem db t (checker_state m c.rules c.noted c.cache c.kept)
      at_theorem_with_mark enough =
          subst (λ s. IsAtTheorem db t (checker_state s c.rules c.noted c.cache c.kept)) (sym m_is)
          (record {
            made_for = at_theorem.made_for;
            theorem_lt_length = at_theorem.theorem_lt_length;
            pairs_are_disjoint = at_theorem.pairs_are_disjoint;
            are_kept =
                kept_after_mark db c.machine.marks c.machine.formulas c.kept at_theorem.are_kept j
                (top c.machine.stack) enough;
          })

      -- with a mark more, whose formula is kept
      pub at_theorem_and_kept : (statement mark : ℕ) (kept : List (ℕ × ℕ))
          → mark ≡ length c.machine.marks → length c.machine.formulas ≡ length c.machine.marks
          → top c.machine.stack ≡ formula_at db statement
          → kept ≡ c.kept ++ (statement, mark) ∷ []
          → IsAtTheorem db t (checker_state m c.rules c.noted c.cache kept)
      at_theorem_and_kept statement mark kept mark_is count_is top_is kept_is =
          subst (λ s. IsAtTheorem db t (checker_state s c.rules c.noted c.cache kept)) (sym m_is)
          (subst (λ ks. IsAtTheorem db t (checker_state (with_mark true j c.machine) c.rules c.noted
          c.cache ks)) (sym kept_is) (record {
            made_for = at_theorem.made_for;
            theorem_lt_length = at_theorem.theorem_lt_length;
            pairs_are_disjoint = at_theorem.pairs_are_disjoint;
            are_kept =
                kept_with_one_more db c.machine.marks c.machine.formulas c.kept
                at_theorem.are_kept j (top c.machine.stack) (omega (arith, count_is)) statement mark
                mark_is count_is top_is;
          }))
