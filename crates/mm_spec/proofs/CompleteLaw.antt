-- The frames of lawful statements are complete.
use Rattle.std.proofs.Common.{arith, rules, ◌≡◌, ℕ, ◌==◌, ◌<◌, Bool, true, false, ◌&&◌, ◌||◌, inl}
use Rattle.std.proofs.Common.{inr, List, [], ◌∷◌, ◌++◌, map, length, flat_map, Option, Some, None}
use Rattle.std.proofs.Common.{slice_get, nat_lt, refl, sym, ap, ◌∙◌, subst, bytes_eq, eqb-true}
use Rattle.std.proofs.Common.{eq-eqb}
use Rattle.std.proofs.lemmas.Grind.{common_steps}
use Rattle.std.specs.List.{list_any}
use Rattle.std.proofs.lemmas.Bool.{or_cases, or_left, or_right, and_parts, and_from, cases_order}
use Rattle.std.proofs.lemmas.List.Folds.{list_any-append}
use Rattle.mm_spec.specs.Text.{Bytes, Fault, fault, is_in, words}
use Rattle.mm_spec.specs.Output.{IsRead}
use Rattle.mm_spec.specs.Statement.{Statement, axiomatic, provable, symbols_of}
use Rattle.mm_spec.specs.Scope.{Typing, names_before, depth, active_at, active, active_statements}
use Rattle.mm_spec.specs.Scope.{statement_at, constants_of, variables_of, typings_of}
use Rattle.mm_spec.specs.Lawful.{scope_faults, scope_fault, IsLawful}
use Rattle.mm_spec.specs.Frame.{symbol_names, index_of, formula_of, formula_at, is_variable_number}
use Rattle.mm_spec.specs.Frame.{is_floating, is_essential, active_of, mandatory_variables}
use Rattle.mm_spec.specs.Frame.{mandatory_hypotheses, frame_at, disjoint_at}
use Rattle.mm_spec.specs.Derivation.{Formula, Pair, is_member}
use Rattle.mm_spec.specs.Citation.{context_at, referent_of}
use Rattle.mm_spec.specs.Laws.Complete.{binds, IsBound, AreBound, IsComplete, HasCompleteFrame}
use Rattle.mm_spec.specs.Laws.Complete.{AreComplete}
use Rattle.mm_spec.specs.Lexed.{LexedText}
use Rattle.mm_spec.proofs.LocalLaw.{scope_fault_front}
use Rattle.mm_spec.proofs.FindsLaw.{any_flat_map, any_map, any_filter, member_filter, filter_member}
use Rattle.mm_spec.proofs.FindsLaw.{each_member, each_map, each_any, each_filter, got_lt_length}
use Rattle.mm_spec.proofs.FindsLaw.{formula_at_place, passing_statement, statement_passes}
use Rattle.mm_spec.proofs.FindsLaw.{passing_active, some_active_passes, equal_bytes_equal_words}
use Rattle.mm_spec.proofs.FindsLaw.{declaring_statement, later_place_knows_declared}
use Rattle.mm_spec.proofs.FindsLaw.{declared_before_is_declared}
use Rattle.mm_spec.proofs.FaultlessLaw.{no_least_no_faults, not_constant_and_variable}
use Rattle.mm_spec.proofs.FaultlessLaw.{constant_is_no_variable_before}
use Rattle.mm_spec.proofs.FaultlessLaw.{variable_is_no_constant_before, has_formula}
use Rattle.mm_spec.proofs.FaultlessLaw.{symbols_are_known, faultless_floating_is_typed}
use Rattle.mm_spec.proofs.FaultlessLaw.{typed_is_floating, word_of_variable_number, word_of_member}
use Rattle.mm_spec.proofs.FaultlessLaw.{floating_is_local, essential_is_local_kind, still_active}
use Rattle.mm_spec.proofs.BoolLaw.{passes_alone, middle_parts}

-- ---- frames

-- whether a hypothesis that is active at k is mandatory there
abbrev pub is_mandatory : List Statement → ℕ → ℕ → Bool
is_mandatory db k j =
    list_any is_essential (statement_at db j)
    || (list_any is_floating (statement_at db j)
    && list_any (is_member (mandatory_variables db k)) (formula_at db j))

-- whether a pair of variables is mandatory at k
abbrev pub is_mandatory_pair : List Statement → ℕ → Pair → Bool
is_mandatory_pair db k p =
    nat_lt p.low p.high && is_member (mandatory_variables db k) p.low
    && is_member (mandatory_variables db k) p.high && disjoint_at db k p.low p.high

module _ (db : List Statement) (lawful : (k : ℕ) → k < length db → IsLawful db k) where
  pub lawful_is_faultless : (k : ℕ) (s : Statement) → slice_get db k ≡ Some s
      → scope_faults (names_before db k) (depth db k) s ≡ []
  lawful_is_faultless k s s_at_k = grind (arith, common_steps, got_lt_length, no_least_no_faults)

  -- no constant is a variable
  pub no_constant_is_variable : (w : Bytes) → is_in w (flat_map constants_of db) ≡ true
      → is_in w (flat_map variables_of db) ≡ true → ⊥
  no_constant_is_variable w is_constant is_variable =
      let (i, s, s_at_i, s_declares) = declaring_statement constants_of db w is_constant in
      let (j, t, t_at_j, t_declares) = declaring_statement variables_of db w is_variable in
      let s_is_faultless = lawful_is_faultless i s s_at_i in
      let t_is_faultless = lawful_is_faultless j t t_at_j in
      elim (cases_order i j) [
        | inl i_is_j ↦
            let s_is_t : s ≡ t = cc in
            not_constant_and_variable t w (rw s_is_t at s_declares) t_declares
        | inr (inl i_lt_j) ↦
            let known = later_place_knows_declared constants_of db j i s w s_at_i i_lt_j s_declares
            in
            absurd (cc (variable_is_no_constant_before _ _ t w t_is_faultless t_declares))
        | inr (inr j_lt_i) ↦
            let known = later_place_knows_declared variables_of db i j t w t_at_j j_lt_i t_declares
            in
            absurd (cc (constant_is_no_variable_before _ _ s w s_is_faultless s_declares))
      ]

  constant_is_no_variable : (k : ℕ) (w : Bytes) → is_in w (names_before db k).constants ≡ true
      → is_variable_number db (index_of w (symbol_names db)) ≡ false
  constant_is_no_variable k w is_constant =
      grind (arith, no_constant_is_variable, declared_before_is_declared, word_of_variable_number)

  -- statement i is the `$f` of x
  pub record Types (i x : ℕ) : Type 0 where
    pub statement : Statement
    pub statement_is_at : slice_get db i ≡ Some statement
    pub is_floating_statement : is_floating statement ≡ true
    pub typecode : ℕ
    pub formula_is : formula_at db i ≡ typecode ∷ x ∷ []
    pub typecode_is_constant : is_variable_number db typecode ≡ false

  -- a `$f` is one of its variable
  pub floating_types_its_variable : (i : ℕ) (s : Statement) → slice_get db i ≡ Some s
      → is_floating s ≡ true
      → (w : Bytes) × Types i (index_of w (symbol_names db))
      × ((v : Bytes) → list_any (λ t. bytes_eq v t.variable) (typings_of s) ≡ true → v ≡ w)
  floating_types_its_variable i s s_at_i is_floating_s =
      let is_typing =
      faultless_floating_is_typed (names_before db i) (depth db i) s is_floating_s
      (lawful_is_faultless i s s_at_i) in (
        is_typing.variable.word,
        record {
          statement = s;
          statement_is_at = s_at_i;
          is_floating_statement = is_floating_s;
          typecode = index_of is_typing.typecode.word (symbol_names db);
          formula_is =
              formula_at_place db i s s_at_i ∙ ap (formula_of db) is_typing.is_floating_of;
          typecode_is_constant =
              constant_is_no_variable i is_typing.typecode.word is_typing.typecode_is_constant;
        },
        λ v v_is_typed. equal_bytes_equal_words v is_typing.variable.word
            (passes_alone (bytes_eq v is_typing.variable.word)
            (subst (λ x. list_any (λ u. bytes_eq v u.variable) (typings_of x) ≡ true)
            is_typing.is_floating_of
            v_is_typed)),
      )

  -- each variable of a formula has an active `$f`
  pub formula_variable_is_typed : (j x : ℕ) (s : Statement) → slice_get db j ≡ Some s
      → has_formula s ≡ true
      → is_member (formula_at db j) x ≡ true → is_variable_number db x ≡ true
      → (i : ℕ) × (active_at db i j ≡ true) × Types i x
  formula_variable_is_typed j x s s_at_j has_formula_s x_in_formula is_variable =
      let (w, w_is_symbol, x_is) = word_of_member (symbol_names db) (words (symbols_of s)) x
      (rw (formula_at_place db j s s_at_j) at x_in_formula) in
      let is_declared = word_of_variable_number db w (rw x_is at is_variable) in
      elim (symbols_are_known (names_before db j) (depth db j) s has_formula_s
      (lawful_is_faultless j s s_at_j) w w_is_symbol) [
        | inl is_constant ↦ absurd (no_constant_is_variable w
            (declared_before_is_declared constants_of db j w is_constant) is_declared)
        | inr is_typed ↦
            let types_w : Typing → Bool = λ t. bytes_eq w t.variable in
            let states_w : Statement → Bool = λ s. list_any types_w (typings_of s) in
            let (i, i_is_active, i_states) =
            passing_active db j (λ i. list_any states_w (statement_at db i))
            (sym (any_flat_map types_w typings_of (active_statements db j)
            ∙ any_flat_map states_w (statement_at db) (active db j)) ∙ is_typed) in
            let (t, t_at_i, t_states) = passing_statement db states_w i i_states in
            let (v, types_v, is_v) = floating_types_its_variable i t t_at_i
            (typed_is_floating types_w t t_states) in
            let number_is : index_of v (symbol_names db) ≡ x = cc (is_v w t_states) in
            (i, i_is_active, subst (Types i) number_is types_v)
      ]

  essential_has_formula : (s : Statement) → is_essential s ≡ true → has_formula s ≡ true
  essential_has_formula s is_essential_s = grind (arith, common_steps)

  -- each mandatory variable of a statement with a formula has a `$f` that is active there
  pub mandatory_is_typed : (k x : ℕ) (s : Statement) → slice_get db k ≡ Some s
      → has_formula s ≡ true
      → is_member (mandatory_variables db k) x ≡ true
      → (i : ℕ) × (active_at db i k ≡ true) × Types i x × (is_variable_number db x ≡ true)
  mandatory_is_typed k x s s_at_k has_formula_s x_is_mandatory =
      let essential_symbols = flat_map (formula_at db) (active_of is_essential db k) in
      let (is_variable, x_is_symbol) =
      member_filter (is_variable_number db) (formula_at db k ++ essential_symbols) x
      x_is_mandatory in
      elim (or_cases (is_member (formula_at db k) x) (is_member essential_symbols x)
      (sym (list_any-append (λ y. x == y) (formula_at db k) essential_symbols) ∙ x_is_symbol)) [
        | inl in_formula ↦
            let (i, i_is_active, types) =
            formula_variable_is_typed k x s s_at_k has_formula_s in_formula is_variable in
            (i, i_is_active, types, is_variable)
        | inr in_essential ↦
            let is_essential_at : ℕ → Bool = λ j. list_any is_essential (statement_at db j) in
            let (j, j_is_active, has_x) =
            passing_active db k (λ j. is_essential_at j && is_member (formula_at db j) x)
            (sym (any_flat_map (λ y. x == y) (formula_at db) (active_of is_essential db k)
            ∙ any_filter is_essential_at (λ j. is_member (formula_at db j) x) (active db k))
            ∙ in_essential) in
            let (j_is_essential, x_in_j) = and_parts (is_essential_at j) _ has_x in
            let (t, t_at_j, t_is_essential) = passing_statement db is_essential j j_is_essential in
            let (i, i_is_active, types) =
            formula_variable_is_typed j x t t_at_j (essential_has_formula t t_is_essential) x_in_j
            is_variable in
            let i_is_local = floating_is_local types.statement types.is_floating_statement in
            let active_too = still_active db i j k types.statement t types.statement_is_at
            i_is_local t_at_j (essential_is_local_kind t t_is_essential) i_is_active j_is_active in
            (i, active_too, types, is_variable)
      ]

  -- the `$f` of a mandatory variable is mandatory
  pub typing_is_mandatory : (k i x : ℕ) → Types i x → is_member (mandatory_variables db k) x ≡ true
      → is_mandatory db k i ≡ true
  typing_is_mandatory k i x types_x x_is_mandatory =
      grind (arith, common_steps, and_from, statement_passes, or_left, or_right)

  -- each variable of the formula is mandatory
  pub formula_variable_is_mandatory : (k x : ℕ) → is_member (formula_at db k) x ≡ true
      → is_variable_number db x ≡ true
      → is_member (mandatory_variables db k) x ≡ true
  formula_variable_is_mandatory k x x_in_formula is_variable =
      grind (arith, common_steps, filter_member, list_any-append, or_left)

  -- what some symbol of a `$f` passes, and not its typecode, its variable passes
  variable_passes : {j y : ℕ} (types : Types j y) (p : ℕ → Bool) → (p types.typecode ≡ true → ⊥)
      → list_any p (formula_at db j) ≡ true → p y ≡ true
  variable_passes {y = y} types p not_typecode some_passes =
      let one_passes = rw types.formula_is at some_passes in
      elim (or_cases (p types.typecode) (p y || false) one_passes) [
        | inl typecode_passes ↦ absurd (not_typecode typecode_passes)
        | inr passes ↦ passes_alone (p y) passes
      ]

  -- each variable of a mandatory hypothesis is a mandatory variable
  pub hypothesis_variable_is_mandatory : (k j x : ℕ) → active_at db j k ≡ true
      → is_mandatory db k j ≡ true
      → is_member (formula_at db j) x ≡ true → is_variable_number db x ≡ true
      → is_member (mandatory_variables db k) x ≡ true
  hypothesis_variable_is_mandatory k j x j_is_active j_is_mandatory x_in_hypothesis is_variable =
      let essential_symbols = flat_map (formula_at db) (active_of is_essential db k) in
      let is_essential_at : ℕ → Bool = λ i. list_any is_essential (statement_at db i) in
      elim (or_cases (is_essential_at j) _ j_is_mandatory) [
        | inl is_essential_j ↦
            filter_member (is_variable_number db) (formula_at db k ++ essential_symbols) x
            is_variable (list_any-append (λ y. x == y) (formula_at db k) essential_symbols
            ∙ or_right (is_member (formula_at db k) x) (is_member essential_symbols x)
            (any_flat_map (λ y. x == y) (formula_at db) (active_of is_essential db k)
            ∙ any_filter is_essential_at (λ i. is_member (formula_at db i) x) (active db k)
            ∙ some_active_passes db k (λ i. is_essential_at i && is_member (formula_at db i) x) j
            j_is_active (and_from (is_essential_at j) _ is_essential_j x_in_hypothesis)))
        | inr is_floating_j ↦
            let (is_kind, some_is_mandatory) = and_parts _ _ is_floating_j in
            let (s, s_at_j, is_floating_s) = passing_statement db is_floating j is_kind in
            let (w, types, _) = floating_types_its_variable j s s_at_j is_floating_s in
            let x_is = eqb-true x _ (variable_passes types (λ y. x == y)
            (λ is_typecode. absurd (cc (
              eqb-true x types.typecode is_typecode,
              types.typecode_is_constant,
            ))) x_in_hypothesis) in
            rw x_is (variable_passes types (is_member (mandatory_variables db k))
            (λ is_mandatory_typecode. absurd (cc (
              (member_filter (is_variable_number db)
                  (formula_at db k ++ essential_symbols) types.typecode is_mandatory_typecode).0,
              types.typecode_is_constant,
            ))) some_is_mandatory)
      ]

  -- both variables of a mandatory pair are mandatory variables
  pub pair_is_mandatory : (k : ℕ) (p : Pair) → is_mandatory_pair db k p ≡ true
      → (is_member (mandatory_variables db k) p.low ≡ true)
      × (is_member (mandatory_variables db k) p.high ≡ true)
  pair_is_mandatory k p is_mandatory_p = grind (arith, common_steps, middle_parts)

  module _ (m k : ℕ) (s : Statement) (e : slice_get db k ≡ Some s) (f : has_formula s ≡ true) where
    abbrev frame_hypotheses : List Formula
    frame_hypotheses = map (formula_at db) (mandatory_hypotheses db k)

    -- a mandatory hypothesis that binds
    hypothesis_binds : (x j : ℕ) → active_at db j k ≡ true → is_mandatory db k j ≡ true
        → binds (context_at db m) x (formula_at db j) ≡ true
        → IsBound (context_at db m) frame_hypotheses x
    hypothesis_binds x j j_is_active j_is_mandatory j_binds =
        search (rules, arith, any_map, any_filter, some_active_passes, and_from)

    typing_binds : (i x : ℕ) → Types i x → is_variable_number db x ≡ true
        → binds (context_at db m) x (formula_at db i) ≡ true
    typing_binds i x types_x is_variable = cc (eq-eqb x x refl)

    mandatory_is_bound : (x : ℕ) → is_member (mandatory_variables db k) x ≡ true
        → IsBound (context_at db m) frame_hypotheses x
    mandatory_is_bound x x_is_mandatory =
        let typing_of_x = mandatory_is_typed k x s e f x_is_mandatory in
        search (rules, arith, hypothesis_binds, typing_is_mandatory, typing_binds)

    pub complete : IsComplete (context_at db m) (frame_at db k)
    complete = record {
      hypotheses =
          each_map (AreBound (context_at db m) frame_hypotheses) (formula_at db)
          (mandatory_hypotheses db k)
          (each_filter (λ j. AreBound (context_at db m) frame_hypotheses (formula_at db j))
          (is_mandatory db k) (active db k) (search (
            rules,
            arith,
            each_filter,
            each_any,
            each_member,
            mandatory_is_bound,
            hypothesis_variable_is_mandatory,
          )));
      formula =
          search (rules, arith, each_member, mandatory_is_bound, formula_variable_is_mandatory);
      pairs = search (rules, arith, each_filter, each_any, bound_pair);
    }
      where
        bound_pair : (p : Pair) → is_mandatory_pair db k p ≡ true
            → IsBound (context_at db m) frame_hypotheses p.low
            × IsBound (context_at db m) frame_hypotheses p.high
        bound_pair p is_mandatory_p = search (rules, arith, pair_is_mandatory, mandatory_is_bound)

  referent_is_complete : (m k : ℕ) (o : Option Statement) → slice_get db k ≡ o
      → HasCompleteFrame (context_at db m) (elim o [ None ↦ None | Some s ↦ referent_of db k s ])
  referent_is_complete m k (Some (axiomatic l p xs d)) s_at_k = complete m k _ s_at_k refl
  referent_is_complete m k (Some (provable l p xs q ps d)) s_at_k = complete m k _ s_at_k refl
  referent_is_complete m k _ s_at_k = tt

  -- the frame of each assertion to which a label refers is complete, if the statements are lawful
  pub lawful_complete : AreComplete db
  lawful_complete m k = elim (active_at db k m) as (λ b. HasCompleteFrame (context_at db m)
      (elim b [
        | false ↦ None
        | true ↦ elim (slice_get db k) [ None ↦ None | Some s ↦ referent_of db k s ]
      ])) [
        | false ↦ tt
        | true ↦ referent_is_complete m k (slice_get db k) refl
      ]

-- the frames of all that is read are complete: a lawful `$e`, `$a` or `$p` has an active `$f` for
-- each of its variables
pub reads_complete : (len : ℕ) (x : LexedText) (db : List Statement) (fault : Option Fault)
    → IsRead len x db fault → AreComplete db
reads_complete len x db fault is_read =
    lawful_complete db
    (λ k k_lt_length. sym (scope_fault_front db is_read.rest k k_lt_length)
    ∙ ap (λ list. scope_fault list k) (sym is_read.splits)
    ∙ is_read.lawful k k_lt_length)
