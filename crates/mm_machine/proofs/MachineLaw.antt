-- What a machine holds, after its entries changed.
use Rattle.std.proofs.lemmas.Grind.{common_steps}
use Rattle.std.proofs.lemmas.Bool.Decides.{nat_tests}
use Rattle.std.proofs.Common.{◌≡◌, ℕ, ◌<◌, ◌≤◌, List, [], ◌∷◌, ◌++◌, length, take, drop, get_or}
use Rattle.std.proofs.Common.{◌-◌, refl, sym, ap, ap₂, ◌∙◌, subst, arith, All, length-append}
use Rattle.std.proofs.Common.{take_all, Result, OnOk, OnErr, Ok, Err, IfOk, IfErr, zero, suc, ◌+◌}
use Rattle.std.proofs.Common.{max, Bool, true, false, true≢false, bytes_eq}
use Rattle.std.proofs.lemmas.List.{length-take-le, length-map, take-append-drop}
use Rattle.std.proofs.lemmas.List.Elements.{All-push, All-weaker, All-nil, All-head}
use Rattle.std.proofs.lemmas.Slice.Eq.{bytes_eq-Decides}
use Rattle.mm_spec.specs.Limits.{formula_limit}
use Rattle.mm_spec.specs.Statement.{Statement}
use Rattle.mm_spec.specs.Derivation.{Formula}
use Rattle.mm_spec.specs.Laws.Stack.{top}
use Rattle.mm_nodes.specs.Strings.{first_node, Extends}
use Rattle.mm_machine.specs.declared.entry.Entry.{Entry}
use Rattle.mm_machine.specs.Entries.{no_entry, IsEntry, IsStack, AreInRange, entry_formula}
use Rattle.mm_machine.specs.Entries.{entry_formulas}
use Rattle.mm_machine.specs.State.{MachineState, machine_state, with_mark, Repeats, IsMachine}
use Rattle.mm_machine.specs.State.{applied}
use Rattle.mm_machine.specs.declared.reason.StepRefused.{StepRefused}
use Rattle.mm_machine.specs.Applied.{IsStepRefusalOf, AnswersStep}
use Rattle.mm_machine.proofs.EntryLaw.{entries_are_kept, formulas_are_kept, entry_formulas_push}
use Rattle.mm_machine.proofs.EntryMatchLaw.{formula_le_limit}
use Rattle.mm_machine.proofs.MarksLaw.{rising_push}
use Rattle.mm_machine.proofs.StackLaw.{no_stack, stack_pushed, extends_less}
use Rattle.mm_machine.proofs.StepLaw.{formula_at_in_range, replaced_in_range}
use Rattle.mm_machine.proofs.EntryRuleLaw.{entry_formula_is_at}

pub empty_machine : (nodes : List (List ℕ)) (stack : List Entry) (marks : List ℕ)
    (marked : List Entry) (variable_flags : List Bool) → nodes ≡ [] → stack ≡ [] → marks ≡ []
    → marked
    ≡ [] → length variable_flags ≤ first_node → IsMachine nodes stack marks marked 0 variable_flags
empty_machine nodes stack marks marked variable_flags nodes_are stack_is marks_are marked_are h5 =
    grind (arith, common_steps, no_stack, All-nil)

module _ {nodes : List (List ℕ)} {stack : List Entry} {marks : List ℕ} {marked : List Entry}
    {floor : ℕ} {variable_flags : List Bool} (is_machine : IsMachine nodes stack marks marked floor
    variable_flags)
  where
    -- with another stack, where the marked entries have what they need
    module _ (nodes' : List (List ℕ)) (stack' : List Entry) (is_stack' : IsStack nodes' stack')
        (nodes_are_kept : Extends (take floor nodes) nodes') where
      pub marked_formulas_stay : entry_formulas nodes' marked ≡ entry_formulas nodes marked
      marked_formulas_stay =
          formulas_are_kept nodes nodes_are_kept.0 nodes' floor marked nodes_are_kept.1
          is_machine.floor_le_count is_stack'.count_lt is_machine.marked_are_entries
          is_machine.marked_are_kept

      pub machine_with_stack : AreInRange (length variable_flags) (entry_formulas nodes' stack')
          → IsMachine nodes' stack' marks marked floor variable_flags
      machine_with_stack in_range =
          record {
            is_stack = is_stack';
            stack_in_range = in_range;
            marked_are_entries =
                entries_are_kept nodes nodes_are_kept.0 nodes' floor marked nodes_are_kept.1
                is_machine.floor_le_count is_stack'.count_lt is_machine.marked_are_entries
                is_machine.marked_are_kept;
            marked_are_kept = is_machine.marked_are_kept;
            marked_in_range =
                subst (AreInRange (length variable_flags)) (sym marked_formulas_stay)
                is_machine.marked_in_range;
            floor_le_count =
                omega (
                  arith,
                  length-take-le floor nodes is_machine.floor_le_count,
                  ap length
                      nodes_are_kept.1,
                  length-append (take floor nodes) nodes_are_kept.0,
                );
            symbol_count_le = is_machine.symbol_count_le;
            marks_rise = is_machine.marks_rise;
            enough_marked = is_machine.enough_marked;
          }

    -- with a greater floor
    pub machine_with_floor : (floor' : ℕ) → floor ≤ floor' → floor' ≤ length nodes
        → IsMachine nodes stack marks marked floor' variable_flags
    machine_with_floor floor' floor_le le_count = record {
      is_stack = is_machine.is_stack;
      stack_in_range = is_machine.stack_in_range;
      marked_are_entries = is_machine.marked_are_entries;
      marked_are_kept =
          All-weaker (λ e. e.needed ≤ floor) (λ e. e.needed ≤ floor')
          (λ e le. omega (arith, le, floor_le)) marked is_machine.marked_are_kept;
      marked_in_range = is_machine.marked_in_range;
      floor_le_count = le_count;
      symbol_count_le = is_machine.symbol_count_le;
      marks_rise = is_machine.marks_rise;
      enough_marked = is_machine.enough_marked;
    }

    -- with a marked entry more
    pub machine_with_marked : (e : Entry) → IsEntry nodes e → e.needed ≤ floor
        → All (λ s. s < length variable_flags) (entry_formula nodes e)
        → IsMachine nodes stack marks (marked ++ e ∷ []) floor variable_flags
    machine_with_marked e is_entry is_kept in_range = record {
      is_stack = is_machine.is_stack;
      stack_in_range = is_machine.stack_in_range;
      marked_are_entries = All-push (IsEntry nodes) marked e is_machine.marked_are_entries is_entry;
      marked_are_kept =
          All-push (λ x. x.needed ≤ floor) marked e is_machine.marked_are_kept is_kept;
      marked_in_range =
          subst (AreInRange (length variable_flags)) (sym (entry_formulas_push nodes marked e))
          (All-push (λ f. All (λ s. s < length variable_flags) f) (entry_formulas nodes marked)
          (entry_formula nodes e) is_machine.marked_in_range in_range);
      floor_le_count = is_machine.floor_le_count;
      symbol_count_le = is_machine.symbol_count_le;
      marks_rise = is_machine.marks_rise;
      enough_marked = omega (arith, is_machine.enough_marked, length-append marked (e ∷ []));
    }

    -- with a mark more
    pub machine_with_mark : (step : ℕ) → length marks < length marked → All (λ j. j < step) marks
        → IsMachine nodes stack (marks ++ step ∷ []) marked floor variable_flags
    machine_with_mark step has_entry marks_lt = record {
      is_stack = is_machine.is_stack;
      stack_in_range = is_machine.stack_in_range;
      marked_are_entries = is_machine.marked_are_entries;
      marked_are_kept = is_machine.marked_are_kept;
      marked_in_range = is_machine.marked_in_range;
      floor_le_count = is_machine.floor_le_count;
      symbol_count_le = is_machine.symbol_count_le;
      marks_rise = rising_push marks step is_machine.marks_rise marks_lt;
      enough_marked = omega (arith, has_entry, length-append marks (step ∷ []));
    }

    -- after a formula was pushed
    module _ {T E : Type 0} (r : Result T E) (nodes' : List (List ℕ)) (stack' : List Entry)
        (is_stack' : IsStack nodes' stack') (below keep : ℕ) (symbols f : Formula)
        (below_is : below ≡ length stack) (keep_is : keep ≡ length nodes)
        (symbols_are : symbols ≡ f) (nodes_are_kept : Extends (take keep nodes) nodes')
        (formulas_if_ok : OnOk r (entry_formulas nodes' stack'
        ≡ take below (entry_formulas nodes stack) ++ symbols ∷ [])) where
      kept : Extends (take floor nodes) nodes'
      kept =
          extends_less nodes nodes' floor keep
          (omega (arith, is_machine.floor_le_count, keep_is)) nodes_are_kept

      pub pushed_machine : OnErr r (entry_formulas nodes' stack'
          ≡ take below (entry_formulas nodes stack)) → All (λ s. s < length variable_flags) f
          → IsMachine nodes' stack' marks marked floor variable_flags
      pushed_machine formulas_if_err f_in_range =
          machine_with_stack nodes' stack' is_stack' kept (replaced_in_range (length variable_flags)
          r (entry_formulas nodes stack) (entry_formulas nodes' stack') below symbols
          is_machine.stack_in_range (subst (All (λ s. s < length variable_flags)) (sym symbols_are)
          f_in_range) formulas_if_ok formulas_if_err)

      pub pushed_state : (s : MachineState)
          → machine_state (entry_formulas nodes stack) marks (entry_formulas nodes marked)
          variable_flags ≡ s → OnOk r (machine_state (entry_formulas nodes' stack') marks
          (entry_formulas nodes' marked) variable_flags ≡ machine_state (s.stack ++ f ∷ []) s.marks
          s.formulas s.variable_flags)
      pushed_state s s_is = by_answer r formulas_if_ok
        where
          all_taken : take below (entry_formulas nodes stack) ≡ entry_formulas nodes stack
          all_taken =
              take_all below (entry_formulas nodes stack)
              (omega (arith, length-map stack (entry_formula nodes), below_is))

          by_answer : (r : Result T E) → OnOk r (entry_formulas nodes' stack'
              ≡ take below (entry_formulas nodes stack) ++ symbols ∷ [])
              → OnOk r (machine_state (entry_formulas nodes' stack') marks (entry_formulas nodes'
              marked) variable_flags ≡ machine_state (s.stack ++ f ∷ []) s.marks s.formulas
              s.variable_flags)
          by_answer (Ok x) formulas_are =
              ap₂ (λ (fs gs : List Formula). machine_state fs marks gs variable_flags) (formulas_are
              ∙ ap₂ (λ (fs : List Formula) (g : Formula). fs ++ g ∷ []) all_taken symbols_are)
              (marked_formulas_stay nodes' stack' is_stack' kept)
              ∙ ap (λ s. machine_state (s.stack ++ f ∷ []) s.marks s.formulas s.variable_flags) s_is
          by_answer (Err e) formulas_are = tt

    -- after a marked formula was pushed again
    module _ (i : ℕ) (m e : Entry) (i_lt : i < length marked) (m_is : m ≡ get_or marked i no_entry)
        (is_entry : IsEntry nodes e) (formula_stays : entry_formula nodes e ≡ entry_formula nodes m)
        (needs_all : e.needed ≡ length nodes) where
      formula_is : entry_formula nodes e ≡ entry_formula nodes (get_or marked i no_entry)
      formula_is = formula_stays ∙ ap (entry_formula nodes) m_is

      pub repeated_machine : IsMachine nodes (stack ++ e ∷ []) marks marked floor variable_flags
      repeated_machine =
          machine_with_stack nodes (stack ++ e ∷ []) (stack_pushed nodes stack e is_machine.is_stack
          is_entry needs_all) (drop floor nodes, sym (take-append-drop floor nodes))
          (subst (AreInRange (length variable_flags)) (sym (entry_formulas_push nodes stack e))
          (All-push (λ f. All (λ s. s < length variable_flags) f) (entry_formulas nodes stack)
          (entry_formula nodes e) is_machine.stack_in_range
          (subst (All (λ s. s < length variable_flags)) (sym formula_is) (formula_at_in_range
          (length variable_flags) nodes marked i is_machine.marked_in_range i_lt))))

      pub repeated_state : (s : MachineState)
          → machine_state (entry_formulas nodes stack) marks (entry_formulas nodes marked)
          variable_flags ≡ s
          → machine_state (entry_formulas nodes (stack ++ e ∷ [])) marks
          (entry_formulas nodes marked) variable_flags
          ≡ machine_state (s.stack ++ get_or s.formulas i [] ∷ []) s.marks s.formulas
          s.variable_flags
      repeated_state s s_is =
          ap (λ fs. machine_state fs marks (entry_formulas nodes marked) variable_flags)
          (entry_formulas_push nodes stack e
          ∙ ap (λ f. entry_formulas nodes stack ++ f ∷ [])
          (formula_is ∙ entry_formula_is_at nodes marked i i_lt))
          ∙ ap (λ s. machine_state (s.stack ++ get_or s.formulas i [] ∷ []) s.marks s.formulas
          s.variable_flags) s_is

-- the formula of a marked step is pushed
pub repeats_if_pushed : {T E : Type 0} (r : Result T E) (step n : ℕ) (s t : MachineState)
    → n < length s.formulas → n < length s.marks → get_or s.marks n 0 ≡ step
    → OnOk r (t ≡ machine_state (s.stack ++ get_or s.formulas n [] ∷ []) s.marks s.formulas
    s.variable_flags) → OnOk r (Repeats step s t)
repeats_if_pushed (Ok x) step n s t has_formula is_there is_mark state_is =
    (n, has_formula, is_there, is_mark, state_is)
repeats_if_pushed (Err e) step n s t has_formula is_there is_mark state_is = tt

pub top_is_last : (fs : List Formula) (i : ℕ) → length fs ≡ i + 1 → top fs ≡ get_or fs i []
top_is_last [] i count_is = absurd (omega arith)
top_is_last (f ∷ []) zero count_is = refl
top_is_last (f ∷ []) (suc i) count_is = absurd (omega arith)
top_is_last (f ∷ g ∷ fs) zero count_is = absurd (omega arith)
top_is_last (f ∷ g ∷ fs) (suc i) count_is = top_is_last (g ∷ fs) i (omega arith)

-- the index of the last entry
pub last_index : (nodes : List (List ℕ)) (stack : List Entry) (fs : List Formula) (k : ℕ)
    → entry_formulas nodes stack ≡ fs → 0 < length fs → k ≡ length stack → length stack ≡ k - 1 + 1
last_index nodes stack fs k fs_are has_entry k_is =
    omega (arith, length-map stack (entry_formula nodes), ap length fs_are, has_entry, k_is)

-- the state after a mark more
pub marked_state : (nodes : List (List ℕ)) (stack : List Entry) (marks : List ℕ)
    (marked : List Entry) (variable_flags : List Bool) (i step : ℕ) (m e : Entry) (s : MachineState)
    → machine_state (entry_formulas nodes stack) marks (entry_formulas nodes marked) variable_flags
    ≡ s → length stack ≡ i + 1 → m ≡ get_or stack i no_entry
    → entry_formula nodes e ≡ entry_formula nodes m
    → machine_state (entry_formulas nodes stack) (marks ++ step ∷ []) (entry_formulas nodes
    (marked ++ e ∷ [])) variable_flags ≡ with_mark true step s
marked_state nodes stack marks marked variable_flags i step m e s s_is count_is m_is formula_stays =
    grind (arith, common_steps, length-map, entry_formula_is_at, top_is_last, entry_formulas_push)

-- there is one entry
pub one_formula : (nodes : List (List ℕ)) (stack : List Entry) (e : Entry)
    → length (entry_formulas nodes stack) ≡ 1 → e ≡ get_or stack 0 e
    → entry_formulas nodes stack ≡ entry_formula nodes e ∷ []
one_formula nodes stack e h1 h2 = grind (arith, common_steps)

-- the answer of a step that changes the entries alone
pub is_applied_if_kept : {T : Type 0} (db : List Statement) (t a : ℕ) (s s' : MachineState)
    → (r : Result T StepRefused) → OnOk r (applied db t a s.stack ≡ Ok s'.stack)
    → OnOk r (0 < length s'.stack) → IfErr r (λ e. IsStepRefusalOf e (applied db t a s.stack))
    → s'.marks ≡ s.marks → s'.formulas ≡ s.formulas → s'.variable_flags ≡ s.variable_flags
    → AnswersStep db t a s s' r
is_applied_if_kept db t a s s' r h1 h2 h3 h4 h5 h6 = grind (arith, common_steps)

-- ---- the only entry

module _ {E : Type 0} (stack : List Formula) (u v f : Formula) (stack_is : stack ≡ u ∷ [])
    (v_is : v ≡ f) where
  pub only_entry : (r : Result Bool E) → IfOk r (λ b. b ≡ bytes_eq u v)
      → IfOk r (λ b. b ≡ true → stack ≡ f ∷ [])
  only_entry (Ok b) b_is = λ is_true.
      stack_is ∙ ap (λ z. z ∷ []) ((bytes_eq-Decides u v).0 (sym b_is ∙ is_true) ∙ v_is)
  only_entry (Err e) b_is = tt

  pub other_entry : (r : Result Bool E) → IfOk r (λ b. b ≡ bytes_eq u v)
      → IfOk r (λ b. b ≡ false → stack ≡ f ∷ [] → ⊥)
  other_entry (Ok b) b_is = λ is_false is_only.
      let same : u ∷ [] ≡ f ∷ [] = sym stack_is ∙ is_only in
      let u_is : u ≡ f = cc in
      true≢false (sym ((bytes_eq-Decides u v).1 (u_is ∙ sym v_is)) ∙ sym b_is ∙ is_false)
  other_entry (Err e) b_is = tt

-- no formula of the stack is too long
pub no_long_entry : (nodes : List (List ℕ)) (stack : List Entry) (f : Formula)
    → All (IsEntry nodes) stack → formula_limit < length f → entry_formulas nodes stack ≡ f ∷ [] → ⊥
no_long_entry nodes [] f are_entries limit_lt is_only = grind (arith, common_steps)
no_long_entry nodes (e ∷ stack) f are_entries limit_lt is_only =
    grind (arith, nat_tests, formula_le_limit, All-head)

-- ---- a mark more

module _ {nodes : List (List ℕ)} {stack : List Entry} {marks : List ℕ} {marked : List Entry}
    {floor : ℕ} {variable_flags : List Bool} (is_machine : IsMachine nodes stack marks marked floor
    variable_flags)
    (n floor' : ℕ) (m e : Entry) (n_lt : n < length stack) (m_is : m ≡ get_or stack n no_entry)
    (is_entry : IsEntry nodes e) (formula_stays : entry_formula nodes e ≡ entry_formula nodes m)
    (floor_is : floor' ≡ max floor e.needed) where
  pub marked_machine : IsMachine nodes stack marks (marked ++ e ∷ []) floor' variable_flags
  marked_machine =
      machine_with_marked (machine_with_floor is_machine floor' (omega (arith, floor_is))
      (omega (arith, floor_is, is_entry.needed_le_count, is_machine.floor_le_count))) e is_entry
      (omega (arith, floor_is)) (subst (All (λ s. s < length variable_flags)) (sym (formula_stays
      ∙ ap (entry_formula nodes) m_is)) (formula_at_in_range (length variable_flags) nodes stack n
      is_machine.stack_in_range n_lt))

  pub machine_after_mark : (step : ℕ) → All (λ j. j < step) marks
      → IsMachine nodes stack (marks ++ step ∷ []) (marked ++ e ∷ []) floor' variable_flags
  machine_after_mark step marks_lt =
      machine_with_mark marked_machine step
      (omega (arith, is_machine.enough_marked, length-append marked (e ∷ []))) marks_lt
