-- What a lawful `$f` says of its two symbols.
use Rattle.std.proofs.Common.{rules, ◌≡◌, ℕ, ◌<◌, Bool, true, false, ◌&&◌, ◌||◌, List, [], ◌∷◌}
use Rattle.std.proofs.Common.{◌++◌, length, take, drop, bytes_eq, flat_map, slice_get, get_or}
use Rattle.std.proofs.Common.{Option, None, Some, refl, sym, ap, ap₂, ◌∙◌, subst, arith, true≢false}
use Rattle.std.proofs.Common.{if◌then◌else◌, inl, inr}
use Rattle.std.proofs.lemmas.Bool.{lt-ltb, cases_Bool}
use Rattle.std.proofs.lemmas.List.{take-append-drop}
use Rattle.std.proofs.lemmas.List.Folds.{list_any-append}
use Rattle.std.proofs.lemmas.Grind.{flat_map-append}
use Rattle.std.proofs.lemmas.Option.{same_Some}
use Rattle.std.proofs.lemmas.Slice.Eq.{bytes_eq-Decides}
use Rattle.std.specs.Option.{option_to_list}
use Rattle.std.specs.List.{list_any}
use Rattle.mm_spec.specs.Text.{Bytes, Token, is_in, fault}
use Rattle.mm_spec.specs.Statement.{Statement, floating}
use Rattle.mm_spec.specs.Scope.{Names, names_before, depth, constants_of, variables_of}
use Rattle.mm_spec.specs.Scope.{active_statements, active_at, is_some_still_active, is_block_open}
use Rattle.mm_spec.specs.Lawful.{scope_faults, least, is_typed, floating_faults, label_faults}
use Rattle.mm_spec.specs.Lawful.{faults_at, when, is_typed_otherwise}
use Rattle.mm_spec.specs.declared.Fault.{Fault}
use Rattle.mm_spec.specs.declared.Code.TheVariants.{BadFloating, TypedBefore, OtherTypecode}
use Rattle.mm_spec.specs.Frame.{symbol_names, index_of, is_variable_number, is_floating, formula_at}
use Rattle.mm_spec.specs.Frame.{formula_of}
use Rattle.mm_spec.proofs.FindsLaw.{range_any}
use Rattle.mm_spec.proofs.FaultlessLaw.{both_are_empty, no_least_no_faults}
use Rattle.mm_outline.specs.Typed.{has_word, typed_words}
use Rattle.mm_database.specs.ParsedStatements.{IsSound, typed_variable_at}
use Rattle.mm_outline.proofs.FaultlessLaw.{faultless_floating_is_new}
use Rattle.mm_outline.proofs.ActiveWordsLaw.{typed_word_is_typing, word_of_active_is_any}

-- a word that has an index is there
pub word_at_index_of : (w : Bytes) (ws : List Bytes) → index_of w ws < length ws
    → slice_get ws (index_of w ws) ≡ Some w
word_at_index_of w [] index_lt_length = absurd (omega arith)
word_at_index_of w (v ∷ vs) index_lt_length = elim (cases_Bool (bytes_eq w v)) [
  | inl is_first ↦ rw (is_first, slice_get) (ap Some (sym ((bytes_eq-Decides w v).0 is_first)))
  | inr is_other ↦
      rw (is_other, slice_get) (word_at_index_of w vs (search (rules, arith)))
]

-- the variable to which a statement gives a type, if there is a statement
abbrev typed_variable_of : List Statement → Option Statement → Option ℕ
typed_variable_of db o =
    if list_any is_floating (option_to_list o)
    then slice_get (flat_map (formula_of db) (option_to_list o)) 1 else None

-- statement `k` is a `$f` of variable `v`
pub record IsFloat (db : List Statement) (k v : ℕ) : Type 0 where
  pub label : Token
  pub keyword : ℕ
  pub typecode : Token
  pub variable : Token
  pub dot : ℕ
  pub statement_is : slice_get db k ≡ Some (floating label keyword (typecode ∷ variable ∷ []) dot)
  pub number_is_v : index_of variable.word (symbol_names db) ≡ v
  pub variable_is_untyped : is_typed (names_before db k) variable.word ≡ false
  pub typecode_is_declared : is_in typecode.word (flat_map constants_of (take k db)) ≡ true

module _ (db : List Statement) (is_sound : IsSound db) where
  -- a statement of a lawful database has no fault
  lawful_has_no_faults : (k : ℕ) → k < length db → (s : Statement) → slice_get db k ≡ Some s
      → scope_faults (names_before db k) (depth db k) s ≡ []
  lawful_has_no_faults k k_lt_length s s_is_statement_k =
      no_least_no_faults (scope_faults (names_before db k) (depth db k) s)
      (sym (ap
      (λ o. elim o
      [ None ↦ None | Some s ↦ least (scope_faults (names_before db k) (depth db k) s) ])
      s_is_statement_k)
      ∙ is_sound.lawful k k_lt_length)

  -- the typecode of a lawful `$f` is a constant
  typecode_is_constant : (n : Names) (keyword : ℕ) (c v : Token)
      → floating_faults n keyword (c ∷ v ∷ []) ≡ [] → is_in c.word n.constants ≡ true
  typecode_is_constant n keyword c v no_fault =
      is_constant (is_in c.word n.constants) refl no_fault
    where
      codes : Bool → List Fault
      codes =
          λ b. elim b [
            | true ↦ faults_at v.at
                (when (is_typed n v.word) TypedBefore
                ++ when (is_typed_otherwise n c.word v.word) OtherTypecode)
            | false ↦ fault keyword BadFloating ∷ []
          ]

      is_constant : (a : Bool) → is_in c.word n.constants ≡ a
          → codes (a && is_in v.word n.active_variables) ≡ [] → is_in c.word n.constants ≡ true
      is_constant true c_is_constant no_fault = c_is_constant
      is_constant false c_is_constant no_fault = absurd (cc)

  -- a `$f` by its statement
  is_float_of_statement : (k v : ℕ) → k < length db → (o : Option Statement) → slice_get db k ≡ o
      → list_any is_floating (elim o [ None ↦ [] | Some s ↦ s ∷ [] ]) ≡ true
      → (slice_get (flat_map (formula_of db) (elim o [ None ↦ [] | Some s ↦ s ∷ [] ])) 1 ≡ Some v)
      → IsFloat db k v
  is_float_of_statement k v k_lt_length_db (Some (floating l a [] d)) statement_k_is_o o_is_floating
      second_symbol_is_v = absurd (cc)
  is_float_of_statement k v k_lt_length_db (Some (floating l a (c ∷ []) d)) statement_k_is_o
      o_is_floating second_symbol_is_v = absurd (cc)
  is_float_of_statement k v k_lt_length_db (Some (floating l a (c ∷ x ∷ y ∷ ys) d)) statement_k_is_o
      o_is_floating second_symbol_is_v =
      absurd (let no_typing_fault = (both_are_empty (label_faults (names_before db k) l)
      (floating_faults (names_before db k) a (c ∷ x ∷ y ∷ ys))
      (lawful_has_no_faults k k_lt_length_db
      (floating l a (c ∷ x ∷ y ∷ ys) d) statement_k_is_o)).1 in
      cc)
  is_float_of_statement k v k_lt_length_db (Some (floating l a (c ∷ x ∷ []) d)) statement_k_is_o
      o_is_floating second_symbol_is_v =
      let no_typing_fault =
      (both_are_empty (label_faults (names_before db k) l)
      (floating_faults (names_before db k) a (c ∷ x ∷ []))
      (lawful_has_no_faults k k_lt_length_db (floating l a (c ∷ x ∷ []) d) statement_k_is_o)).1 in
      record {
        label = l;
        keyword = a;
        typecode = c;
        variable = x;
        dot = d;
        statement_is = statement_k_is_o;
        number_is_v = same_Some _ _ second_symbol_is_v;
        variable_is_untyped = (faultless_floating_is_new
            (names_before db k) a c x no_typing_fault).1;
        typecode_is_declared = typecode_is_constant (names_before db k) a c x no_typing_fault;
      }
  is_float_of_statement k v k_lt_length_db _ statement_k_is_o o_is_floating second_symbol_is_v =
      absurd (true≢false (sym o_is_floating))

  -- a statement that gives a variable a type is its `$f`
  pub typed_is_float : (k v : ℕ) → k < length db → typed_variable_at db k ≡ Some v → IsFloat db k v
  typed_is_float k v k_lt_length_db typed_variable_is_v =
      is_float (slice_get db k) refl typed_variable_is_v
    where
      is_float : (o : Option Statement) → slice_get db k ≡ o → typed_variable_of db o ≡ Some v
          → IsFloat db k v
      is_float o statement_k_is_o o_types_v =
          elim (cases_Bool (list_any is_floating (option_to_list o))) [
            | inl is_one ↦ is_float_of_statement k v k_lt_length_db o statement_k_is_o is_one
                (rw is_one at o_types_v)
            | inr is_none ↦ absurd (let none_is_some = rw is_none at o_types_v in cc)
          ]

  -- a `$f` has a variable
  pub floating_is_typed : (k : ℕ) → k < length db
      → list_any is_floating (option_to_list (slice_get db k)) ≡ true
      → (v : ℕ) × (typed_variable_at db k ≡ Some v) × IsFloat db k v
  floating_is_typed k k_lt_length_db k_is_floating =
      has_variable (slice_get db k) refl k_is_floating
    where
      has_variable : (o : Option Statement) → slice_get db k ≡ o
          → list_any is_floating (option_to_list o) ≡ true
          → (v : ℕ) × (typed_variable_at db k ≡ Some v) × IsFloat db k v
      has_variable (Some (floating l a [] d)) statement_k_is_o k_is_floating =
          absurd (let no_typing_fault = (both_are_empty (label_faults (names_before db k) l)
          (floating_faults (names_before db k) a [])
          (lawful_has_no_faults k k_lt_length_db (floating l a [] d) statement_k_is_o)).1 in
          cc)
      has_variable (Some (floating l a (c ∷ []) d)) statement_k_is_o k_is_floating =
          absurd (let no_typing_fault = (both_are_empty (label_faults (names_before db k) l)
          (floating_faults (names_before db k) a (c ∷ []))
          (lawful_has_no_faults k k_lt_length_db (floating l a (c ∷ []) d) statement_k_is_o)).1 in
          cc)
      has_variable (Some (floating l a (c ∷ x ∷ xs) d)) statement_k_is_o k_is_floating =
          let v = index_of x.word (symbol_names db) in
          let typed_variable_is_v = ap (typed_variable_of db) statement_k_is_o in
          (v, typed_variable_is_v, typed_is_float k v k_lt_length_db typed_variable_is_v)
      has_variable _ statement_k_is_o k_is_floating = absurd (true≢false (sym k_is_floating))

  module _ (k v : ℕ) (k_lt_length : k < length db) (float : IsFloat db k v) where
    -- the formula of a `$f` is its typecode and its variable
    pub formula_is_typecode_and_variable : formula_at db k
        ≡ index_of float.typecode.word (symbol_names db) ∷ v ∷ []
    formula_is_typecode_and_variable =
        ap (λ o. flat_map (formula_of db) (option_to_list o)) float.statement_is
        ∙ ap (λ x. index_of float.typecode.word (symbol_names db) ∷ x ∷ []) float.number_is_v

    -- a `$f` is a floating hypothesis
    pub float_is_floating : list_any is_floating (option_to_list (slice_get db k)) ≡ true
    float_is_floating = ap (λ o. list_any is_floating (option_to_list o)) float.statement_is

    typecode_lt_symbol_count : index_of float.typecode.word (symbol_names db) < length
        (symbol_names db)
    typecode_lt_symbol_count =
        subst (λ (xs : List ℕ). get_or xs 0 0 < length (symbol_names db))
        formula_is_typecode_and_variable
        (is_sound.symbols_have_numbers k k_lt_length 0 0
        (subst (λ (xs : List ℕ). 0 < length xs) (sym formula_is_typecode_and_variable)
        (omega arith)))

    -- the variable of a `$f` is one of the symbols
    pub variable_lt_symbol_count : v < length (symbol_names db)
    variable_lt_symbol_count =
        subst (λ (xs : List ℕ). get_or xs 1 0 < length (symbol_names db))
        formula_is_typecode_and_variable
        (is_sound.symbols_have_numbers k k_lt_length 1 0
        (subst (λ (xs : List ℕ). 1 < length xs) (sym formula_is_typecode_and_variable)
        (omega arith)))

    -- the typecode of the `$f` is no variable
    pub typecode_is_no_variable : is_variable_number db
        (index_of float.typecode.word (symbol_names db))
        ≡ false
    typecode_is_no_variable =
        ap (λ o. elim o [ None ↦ false | Some w ↦ is_in w (flat_map variables_of db) ])
        (word_at_index_of float.typecode.word (symbol_names db) typecode_lt_symbol_count)
        ∙ is_sound.no_constant_is_variable float.typecode.word
        (sym (ap (λ xs. is_in float.typecode.word (flat_map constants_of xs))
        (take-append-drop k db))
        ∙ ap (is_in float.typecode.word) (flat_map-append constants_of (take k db) (drop k db))
        ∙ list_any-append (bytes_eq float.typecode.word) (flat_map constants_of (take k db))
        (flat_map constants_of (drop k db))
        ∙ ap (λ b. b || is_in float.typecode.word (flat_map constants_of (drop k db)))
        float.typecode_is_declared)

    -- a `$f` is active exactly while its block is open
    pub float_active_is_block_open : (l : ℕ) → k < l → active_at db k l ≡ is_block_open db k l
    float_active_is_block_open l k_lt_l =
        ap₂ (λ t o. t && is_some_still_active o (is_block_open db k l))
        (lt-ltb k l k_lt_l) float.statement_is

  -- a variable has one active `$f`
  pub not_typed_twice : (j k v : ℕ) → j < k → k < length db → IsFloat db j v → IsFloat db k v
      → is_block_open db j k ≡ true → ⊥
  not_typed_twice j k v j_lt_k k_lt_length_db j_is_float k_is_float j_is_open =
      let j_lt_length : j < length db = omega arith in
      let j_index_lt_count = subst (λ n. n < length (symbol_names db)) (sym j_is_float.number_is_v)
      (variable_lt_symbol_count j v j_lt_length j_is_float) in
      let k_index_lt_count = subst (λ n. n < length (symbol_names db)) (sym k_is_float.number_is_v)
      (variable_lt_symbol_count k v k_lt_length_db k_is_float) in
      let variables_equal =
      same_Some _ _
      (sym (word_at_index_of j_is_float.variable.word (symbol_names db) j_index_lt_count)
      ∙ ap (slice_get (symbol_names db)) (j_is_float.number_is_v ∙ sym k_is_float.number_is_v)
      ∙ word_at_index_of k_is_float.variable.word (symbol_names db) k_index_lt_count) in
      let w = k_is_float.variable.word in
      let j_types_w =
      ap (λ o. is_in w (flat_map typed_words (option_to_list o))) j_is_float.statement_is
      ∙ ap (λ b. b || false)
      ((bytes_eq-Decides w j_is_float.variable.word).1 (sym variables_equal)) in
      true≢false
      (sym (range_any (λ j_lt_length. active_at db j_lt_length k && has_word db typed_words w
      j_lt_length) k 0 j (omega arith)
      (omega arith) (ap₂ (λ a b. a && b)
      (float_active_is_block_open j v j_lt_length j_is_float k j_lt_k
      ∙ j_is_open) j_types_w))
      ∙ sym (word_of_active_is_any db typed_words w (λ j_lt_length. active_at db j_lt_length k) k 0)
      ∙ sym (typed_word_is_typing w (active_statements db k)) ∙ k_is_float.variable_is_untyped)
