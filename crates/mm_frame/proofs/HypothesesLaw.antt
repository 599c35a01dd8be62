-- The mandatory variables and hypotheses are those that the walk finds.
use Rattle.std.proofs.Common.{rules, ◌≡◌, ℕ, ◌+◌, ◌<◌, ◌≤◌, Bool, true, false, ◌&&◌, ◌||◌, not, All}
use Rattle.std.proofs.Common.{List, [], ◌∷◌, ◌++◌, length, get_or, flat_map, nat_eq, nat_lt, None}
use Rattle.std.proofs.Common.{Some, refl, sym, ap, ap₂, ◌∙◌, subst, arith, eqb-true, eq-eqb}
use Rattle.std.proofs.Common.{true≢false, inl, inr}
use Rattle.std.proofs.lemmas.Grind.{common_steps}
use Rattle.std.proofs.lemmas.Bool.{cases_lt, ltb-true, ne_eqb, and_parts, cases_Bool, or_cases}
use Rattle.std.proofs.lemmas.Option.{slice_get_past}
use Rattle.std.proofs.lemmas.Bool.Decides.{nat_tests}
use Rattle.std.specs.List.{list_any, range_with_len, filter}
use Rattle.std.specs.List.Sorted.{IsStrictlyIncreasing}
use Rattle.std.proofs.lemmas.List.Folds.{list_any-append}
use Rattle.std.proofs.Math.Bool.{or-false, or-true}
use Rattle.mm_spec.specs.Text.{is_in}
use Rattle.mm_spec.specs.Derivation.{is_member}
use Rattle.mm_spec.specs.Statement.{Statement}
use Rattle.mm_spec.specs.Scope.{statement_at, active, active_at, variables_of, is_block_open}
use Rattle.mm_spec.specs.Frame.{symbol_names, index_of, is_variable_number, is_essential}
use Rattle.mm_spec.specs.Frame.{is_floating, active_of, formula_at, mandatory_variables}
use Rattle.mm_spec.specs.Frame.{mandatory_hypotheses}
use Rattle.mm_spec.proofs.BoolLaw.{same_tests}
use Rattle.mm_spec.proofs.MemberLaw.{passing_has_witness, witness_makes_any, same_members_same_any}
use Rattle.mm_spec.proofs.MemberLaw.{member_flat, member_filter, member_range, active_member}
use Rattle.mm_spec.proofs.MemberLaw.{essential_local}
use Rattle.mm_spec.proofs.ListLaw.{element_is_member}
use Rattle.mm_outline.specs.Blocks.{never}
use Rattle.mm_frame.specs.Latest.{is_staying}
use Rattle.mm_database.specs.ParsedStatements.{IsSound, typed_variable_at}
use Rattle.mm_frame.specs.Hypotheses.{AreLastFloats, is_float_of}
use Rattle.mm_spec.specs.Rising.{IsRisingFrom}
use Rattle.mm_spec.proofs.RisingLaw.{filter_is}
use Rattle.mm_frame.proofs.FloatLaw.{typed_is_float, floating_is_typed, float_is_floating}
use Rattle.mm_frame.proofs.FloatLaw.{formula_is_typecode_and_variable, float_active_is_block_open}
use Rattle.mm_frame.proofs.FloatLaw.{typecode_is_no_variable, variable_lt_symbol_count}

-- a list that is strictly rising, by its neighbours
pub rising_from_increasing : (xs : List ℕ) (a : ℕ) → IsStrictlyIncreasing xs
    → (0 < length xs → a ≤ get_or xs 0 0) → IsRisingFrom a xs
rising_from_increasing [] a increasing a_le_first = tt
rising_from_increasing (y ∷ ys) a increasing a_le_first = (
  a_le_first (omega arith),
  rising_from_increasing ys (y + 1)
      (λ k positive. tail_increases k (increasing (k + 1) (omega arith)))
      (λ positive. second_is_greater (increasing 0 (omega arith))),
)
  where
    second_is_greater : get_or (y ∷ ys) 0 0 < get_or (y ∷ ys) (0 + 1) 0 → y + 1 ≤ get_or ys 0 0
    second_is_greater second_is_greater_than_y =
        (search (rules, arith))

    tail_increases : (k : ℕ) → get_or (y ∷ ys) (k + 1) 0 < get_or (y ∷ ys) (k + 1 + 1) 0
        → get_or ys k 0 < get_or ys (k + 1) 0
    tail_increases k second_is_greater_than_y =
        search (rules, arith)

-- two filters are one with both tests
filter_filter : (p q : ℕ → Bool) (xs : List ℕ)
    → filter p (filter q xs) ≡ filter (λ j. q j && p j) xs
filter_filter p q [] = refl
filter_filter p q (x ∷ xs) = grind (arith, common_steps, cases_Bool, (filter_filter p q xs))

module _ (db : List Statement) (k : ℕ) where
  -- ---- variables

  -- the variables that were found are the mandatory variables
  pub found_are_mandatory_variables : (xs : List ℕ)
      → ((i : ℕ) → is_member xs i ≡ is_member (active_of is_essential db k) i) → (x : ℕ)
      → (is_variable_number db x
      && (is_member (formula_at db k) x || list_any (λ j. is_member (formula_at db j) x) xs))
      ≡ is_member (mandatory_variables db k) x
  found_are_mandatory_variables xs essentials_are_active x =
      sym (member_filter (is_variable_number db)
      (formula_at db k ++ flat_map (formula_at db) (active_of is_essential db k)) x
      ∙ ap (λ b. is_variable_number db x && b)
      (list_any-append (nat_eq x) (formula_at db k)
      (flat_map (formula_at db) (active_of is_essential db k))
      ∙ ap (λ b. is_member (formula_at db k) x || b)
      (member_flat (formula_at db) (active_of is_essential db k) x
      ∙ sym (same_members_same_any (λ j. is_member (formula_at db j) x) xs
      (active_of is_essential db k) essentials_are_active))))

  -- those of the formula, and of the `$e`
  pub listed_are_mandatory : (x : ℕ) (n e : Bool)
      → e ≡ (is_variable_number db x
      && list_any (λ j. is_member (formula_at db j) x) (active_of is_essential db k))
      → n ≡ ((is_variable_number db x && is_member (formula_at db k) x)
      || (is_variable_number db x && e))
      → n ≡ is_member (mandatory_variables db k) x
  listed_are_mandatory x n e e_is n_is =
      n_is
      ∙ ap (λ z. (is_variable_number db x && is_member (formula_at db k) x)
      || (is_variable_number db x && z)) e_is
      ∙ grind arith
      ∙ found_are_mandatory_variables (active_of is_essential db k) (λ i. refl) x

  -- an active `$e` stands before the assertion
  pub essential_lt_k : (xs : List ℕ)
      → ((i : ℕ) → is_member xs i ≡ is_member (active_of is_essential db k) i) → (i : ℕ)
      → i < length xs → get_or xs i 0 < k
  essential_lt_k xs essentials_are_active i i_lt_length =
      let j = get_or xs i 0 in
      let j_is_active =
      sym (active_member is_essential db essential_local k j) ∙ sym (essentials_are_active j)
      ∙ element_is_member xs i 0 i_lt_length in
      ltb-true j k (and_parts (nat_lt j k) (is_staying is_essential db j k) j_is_active).0

  -- a variable is one of the symbols
  pub variable_has_name : (x : ℕ) → is_variable_number db x ≡ true → x < length (symbol_names db)
  variable_has_name x x_is_variable = elim (cases_lt x (length (symbol_names db))) [
    | inl x_lt_count ↦ x_lt_count
    | inr count_le_x ↦ absurd (true≢false (sym x_is_variable
        ∙ ap (λ o. elim o [ None ↦ false | Some w ↦ is_in w (flat_map variables_of db) ])
        (slice_get_past (symbol_names db) x count_le_x)))
  ]

  -- a mandatory variable is one of the symbols
  pub mandatory_has_name : (x : ℕ) → is_member (mandatory_variables db k) x ≡ true
      → x < length (symbol_names db)
  mandatory_has_name x x_is_mandatory =
      variable_has_name x
      (and_parts (is_variable_number db x)
      (is_member (formula_at db k ++ flat_map (formula_at db) (active_of is_essential db k)) x)
      (sym (member_filter (is_variable_number db)
      (formula_at db k ++ flat_map (formula_at db) (active_of is_essential db k)) x)
      ∙ x_is_mandatory)).0

  -- all the variables are symbols
  pub variables_have_names : (xs : List ℕ)
      → ((x : ℕ) → is_member xs x ≡ is_member (mandatory_variables db k) x)
      → All (λ s. s < length (symbol_names db)) xs
  variables_have_names xs are_mandatory i d i_lt_length =
      mandatory_has_name (get_or xs i d) (sym (are_mandatory (get_or xs i d))
      ∙ element_is_member xs i d i_lt_length)

  -- ---- hypotheses

  -- whether a statement is a `$e` or a `$f` of a mandatory variable
  abbrev wanted : ℕ → Bool
  wanted j =
      list_any is_essential (statement_at db j)
      || (list_any is_floating (statement_at db j)
      && list_any (is_member (mandatory_variables db k)) (formula_at db j))

  module _ (is_sound : IsSound db) (k_le_length : k ≤ length db) (ts : List ℕ)
      (last_floats : AreLastFloats db k ts)
      (variables : List ℕ)
      (variables_are : (x : ℕ) → is_member variables x ≡ is_member (mandatory_variables db k) x)
    where
      -- an active `$f` of a mandatory variable is found
      float_found : (j : ℕ) → j < k → list_any is_floating (statement_at db j) ≡ true
          → list_any (is_member (mandatory_variables db k)) (formula_at db j) ≡ true
          → active_at db j k ≡ true → list_any (is_float_of db k ts j) variables ≡ true
      float_found j j_lt_k j_is_floating j_has_mandatory active_at_k =
          let j_lt_length_db : j < length db = omega arith in
          let floating = floating_is_typed db is_sound j j_lt_length_db j_is_floating in
          let v = floating.0 in
          let float = floating.2 in
          let typecode = index_of float.typecode.word (symbol_names db) in
          let typecode_or_variable =
          sym (ap (list_any (is_member (mandatory_variables db k)))
          (formula_is_typecode_and_variable db is_sound j v j_lt_length_db float))
          ∙ j_has_mandatory in
          let typecode_is_not_mandatory =
          member_filter (is_variable_number db)
          (formula_at db k ++ flat_map (formula_at db) (active_of is_essential db k)) typecode
          ∙ ap (λ b. b
          && is_member (formula_at db k ++ flat_map (formula_at db) (active_of is_essential db k))
          typecode)
          (typecode_is_no_variable db is_sound j v j_lt_length_db float) in
          let variable_is_mandatory =
          sym (or-false (is_member (mandatory_variables db k) v))
          ∙ sym (ap (λ b. b || (is_member (mandatory_variables db k) v || false))
          typecode_is_not_mandatory) ∙ typecode_or_variable in
          let j_is_open = sym
          (float_active_is_block_open db is_sound j v j_lt_length_db float k j_lt_k)
          ∙ active_at_k in
          let last_is_j = last_floats.open_is_last j v j_lt_k
          (variable_lt_symbol_count db is_sound j v j_lt_length_db float)
          floating.1 j_is_open in
          witness_makes_any (is_float_of db k ts j) variables v
          (variables_are v ∙ variable_is_mandatory)
          (ap₂ (λ p q. p && q) (eq-eqb j (get_or ts v 0) (sym last_is_j))
          (ap₂ (λ p q. not p && q)
          (ne_eqb (get_or ts v 0) never
          (λ last_is_never. let length_lt_2_31 = is_sound.few_statements in
          absurd (omega (arith, last_is_never, last_is_j, j_lt_length_db, length_lt_2_31))))
          (ap (λ i. is_block_open db i k) last_is_j
          ∙ j_is_open)))

      -- what is found is an active `$f` of a mandatory variable
      found_is_active_float : (j : ℕ) → list_any (is_float_of db k ts j) variables ≡ true
          → (active_at db j k ≡ true) × (list_any is_floating (statement_at db j) ≡ true)
          × (list_any (is_member (mandatory_variables db k)) (formula_at db j) ≡ true) × (j < k)
      found_is_active_float j j_is_found =
          let witness = passing_has_witness (is_float_of db k ts j) variables j_is_found in
          let v = witness.0 in
          let last_float = get_or ts v 0 in
          let j_is_t =
          eqb-true j last_float
          (and_parts (nat_eq j last_float)
          (not (nat_eq last_float never) && is_block_open db last_float k)
          witness.2).0 in
          let t_is_open = (and_parts (nat_eq j last_float)
          (not (nat_eq last_float never) && is_block_open db last_float k)
          witness.2).1 in
          let v_is_mandatory = sym (variables_are v) ∙ witness.1 in
          let t_types_v =
          last_floats.last_is_typed v (mandatory_has_name v v_is_mandatory)
          (λ t_is_never. true≢false
          (sym (and_parts (not (nat_eq last_float never))
          (is_block_open db last_float k) t_is_open).0
          ∙ ap not (eq-eqb last_float never t_is_never))) in
          let j_lt_k : j < k = subst (λ i. i < k) (sym j_is_t) t_types_v.0 in
          let j_lt_length_db : j < length db = omega arith in
          let j_types_v : typed_variable_at db j ≡ Some v =
          ap (typed_variable_at db) j_is_t ∙ t_types_v.1 in
          let float = typed_is_float db is_sound j v j_lt_length_db j_types_v in
          let typecode = index_of float.typecode.word (symbol_names db) in (
            float_active_is_block_open db is_sound j v j_lt_length_db float k j_lt_k
                ∙ ap (λ i. is_block_open db i k) j_is_t
                ∙ (and_parts (not (nat_eq last_float never))
                (is_block_open db last_float k) t_is_open).1,
            float_is_floating db is_sound j v j_lt_length_db float,
            ap (list_any (is_member (mandatory_variables db k)))
                (formula_is_typecode_and_variable db is_sound j v j_lt_length_db float)
                ∙ ap (λ b. is_member (mandatory_variables db k) typecode || (b || false))
                v_is_mandatory
                ∙ or-true (is_member (mandatory_variables db k) typecode),
            j_lt_k,
          )

      pub hypotheses_are_mandatory : (es xs : List ℕ)
          → ((j : ℕ) → is_member es j ≡ is_member (active_of is_essential db k) j)
          → IsStrictlyIncreasing xs
          → ((j : ℕ) → is_member xs j ≡ (is_member es j
          || list_any (is_float_of db k ts j) variables))
          → xs ≡ mandatory_hypotheses db k
      hypotheses_are_mandatory es xs essentials_are_active xs_are_rising xs_members_are =
          sym (filter_filter wanted (λ j. active_at db j k) (range_with_len 0 k)
          ∙ filter_is (λ j. active_at db j k && wanted j) k 0 xs
          (rising_from_increasing xs 0 xs_are_rising (λ j_lt_k. omega arith))
          (λ j j_is_in_xs. let j_lt_k = (right_to_left j (sym (xs_members_are j) ∙ j_is_in_xs)).1 in
          omega (arith, j_lt_k))
          (λ j wanted_if_member b. wanted_is_member j (omega arith)))
        where
          member_is_active_essential : (j : ℕ)
              → is_member es j
              ≡ (list_any is_essential (statement_at db j) && (active_at db j k && nat_lt j k))
          member_is_active_essential j =
              essentials_are_active j
              ∙ member_filter (λ j. list_any is_essential (statement_at db j)) (active db k) j
              ∙ ap (λ b. list_any is_essential (statement_at db j) && b)
              (member_filter (λ j. active_at db j k) (range_with_len 0 k) j
              ∙ ap (λ b. active_at db j k && b)
              (member_range k 0 j (omega arith)
              ∙ (let zero_plus_k_is_k : 0 + k ≡ k = omega arith in ap (nat_lt j) zero_plus_k_is_k)))

          right_to_left : (j : ℕ)
              → (is_member es j || list_any (is_float_of db k ts j) variables) ≡ true
              → ((active_at db j k && wanted j) ≡ true) × (j < k)
          right_to_left j is_found =
              let is_float = list_any (is_float_of db k ts j) variables in
              elim (or_cases (is_member es j) is_float is_found) [
                | inl j_is_member ↦ (
                  grind (arith, j_is_member, member_is_active_essential j),
                  grind (arith, nat_tests, j_is_member, member_is_active_essential j),
                )
                | inr float_is_found ↦
                    let (is_active, is_floating_j, has_mandatory, j_lt_k) =
                    found_is_active_float j float_is_found in
                    (grind (arith, is_active, is_floating_j, has_mandatory), j_lt_k)
              ]

          left_to_right : (j : ℕ) → j < k → (active_at db j k && wanted j) ≡ true
              → (is_member es j || list_any (is_float_of db k ts j) variables) ≡ true
          left_to_right j j_lt_k active_and_wanted =
              elim (cases_Bool (list_any is_essential (statement_at db j))) [
                | inl is_one ↦ grind (
                  arith,
                  nat_tests,
                  j_lt_k,
                  is_one,
                  active_and_wanted,
                  member_is_active_essential j,
                )
                | inr is_none ↦
                    let is_found = float_found j j_lt_k (grind (arith, is_none, active_and_wanted))
                    (grind (arith, is_none, active_and_wanted)) (grind (arith, active_and_wanted))
                    in
                    grind (arith, is_found)
              ]

          wanted_is_member : (j : ℕ) → j < k → (active_at db j k && wanted j) ≡ is_member xs j
          wanted_is_member j j_lt_k =
              same_tests (active_at db j k && wanted j)
              (is_member es j || list_any (is_float_of db k ts j) variables)
              (left_to_right j j_lt_k)
              (λ is_found. (right_to_left j is_found).0)
              ∙ sym (xs_members_are j)
