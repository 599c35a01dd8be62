-- The symbols of lawful statements are declared.
use Rattle.std.proofs.Common.{rules, ◌≡◌, ℕ, true, ◌||◌, ◌⊎◌, inl, inr, List, [], ◌∷◌, ◌++◌}
use Rattle.std.proofs.Common.{flat_map, length, Some, slice_get, sym, ◌∙◌, subst, true≢false, arith}
use Rattle.std.proofs.Common.{bytes_eq}
use Rattle.std.proofs.lemmas.Grind.{common_steps}
use Rattle.std.specs.List.{list_any}
use Rattle.std.proofs.lemmas.Bool.{or_cases, or_left, or_right, and_parts, not-false}
use Rattle.std.proofs.lemmas.List.{take_all}
use Rattle.std.proofs.lemmas.List.Folds.{list_any-append}
use Rattle.mm_spec.specs.Text.{Bytes, Token, is_in, words}
use Rattle.mm_spec.specs.Statement.{Statement, constants, variables, disjoint, floating, essential}
use Rattle.mm_spec.specs.Statement.{axiomatic, provable, opening, closing, symbols_of}
use Rattle.mm_spec.specs.Scope.{Names, names_before, depth, constants_of, variables_of}
use Rattle.mm_spec.specs.Scope.{statement_at}
use Rattle.mm_spec.specs.Lawful.{formula_faults, label_faults, floating_faults, scope_faults}
use Rattle.mm_spec.specs.Lawful.{IsLawful}
use Rattle.mm_spec.proofs.FindsLaw.{any_flat_map, got_lt_length, passing_statement, passing_active}
use Rattle.mm_spec.proofs.FindsLaw.{equal_bytes_equal_words, later_place_knows_declared}
use Rattle.mm_spec.proofs.FindsLaw.{declared_before_is_declared}
use Rattle.mm_spec.proofs.FaultlessLaw.{no_least_no_faults, both_are_empty, no_code_if_false}
use Rattle.mm_spec.proofs.FaultlessLaw.{each_word_has_no_codes}

-- what is known of a symbol of a statement: a constant, an active variable, or one that the
-- statement declares
pub data IsNamed (n : Names) (s : Statement) (w : Bytes) : Type 0 where
  constant : is_in w n.constants ≡ true → IsNamed n s w
  variable : is_in w n.active_variables ≡ true → IsNamed n s w
  own_symbol : is_in w (constants_of s ++ variables_of s) ≡ true → IsNamed n s w

formula_symbols_are_named : (n : Names) (s : Statement) (xs : List Token) (end : ℕ)
    → formula_faults n xs end ≡ [] → (w : Bytes) → is_in w (words xs) ≡ true → IsNamed n s w
formula_symbols_are_named n s xs end h1 w h2 =
    search (rules, each_word_has_no_codes)

floating_symbols_are_named : (n : Names) (s : Statement) (keyword : ℕ) (xs : List Token)
    → floating_faults n keyword xs ≡ [] → (w : Bytes) → is_in w (words xs) ≡ true → IsNamed n s w
floating_symbols_are_named n s keyword xs h1 w h2 =
    search (rules, arith, or_cases, bytes_eq, and_parts, equal_bytes_equal_words, true≢false)

-- each symbol of a statement without a fault of scope
pub symbols_are_named : (n : Names) (d : ℕ) (s : Statement) → scope_faults n d s ≡ [] → (w : Bytes)
    → is_in w (words (symbols_of s)) ≡ true → IsNamed n s w
symbols_are_named n d (constants k xs e) no_faults w w_is_symbol =
    grind (arith, common_steps, list_any-append, bytes_eq, or_left)
symbols_are_named n d (variables k xs e) no_faults w w_is_symbol = own_symbol w_is_symbol
symbols_are_named n d (disjoint k xs e) no_faults w w_is_symbol =
    grind (arith, common_steps, each_word_has_no_codes, both_are_empty, not-false, no_code_if_false)
symbols_are_named n d (floating l k xs e) no_faults w w_is_symbol =
    search (rules, arith, floating_symbols_are_named, both_are_empty)
symbols_are_named n d (essential l k xs e) no_faults w w_is_symbol =
    formula_symbols_are_named n (essential l k xs e) xs e
    (both_are_empty (label_faults n l) (formula_faults n xs e) no_faults).1 w w_is_symbol
symbols_are_named n d (axiomatic l k xs e) no_faults w w_is_symbol =
    formula_symbols_are_named n (axiomatic l k xs e) xs e
    (both_are_empty (label_faults n l) (formula_faults n xs e) no_faults).1 w w_is_symbol
symbols_are_named n d (provable l k xs e ps q) no_faults w w_is_symbol =
    formula_symbols_are_named n (provable l k xs e ps q) xs e
    (both_are_empty (label_faults n l) (formula_faults n xs e) no_faults).1 w w_is_symbol
symbols_are_named n d (opening k) no_faults w w_is_symbol = absurd (true≢false (sym w_is_symbol))
symbols_are_named n d (closing k) no_faults w w_is_symbol = absurd (true≢false (sym w_is_symbol))

abbrev pub declared_words : Statement → List Bytes
declared_words s = constants_of s ++ variables_of s

module _ (db : List Statement) where
  constants_are_declared : (w : Bytes) → is_in w (flat_map constants_of db) ≡ true
      → is_in w (flat_map declared_words db) ≡ true
  constants_are_declared w is_constant =
      any_flat_map (bytes_eq w) declared_words db
      ∙ some_declares_if_constant db (sym (any_flat_map (bytes_eq w) constants_of db) ∙ is_constant)
    where
      some_declares_if_constant : (xs : List Statement)
          → list_any (λ s. is_in w (constants_of s)) xs ≡ true
          → list_any (λ s. is_in w (declared_words s)) xs ≡ true
      some_declares_if_constant [] some_declares = some_declares
      some_declares_if_constant (x ∷ xs) some_declares =
          declared_if_there
          (search (rules, arith, or_cases))
          (λ declares_later. some_declares_if_constant xs declares_later)
        where
          declared_if_there : (is_in w (constants_of x) ≡ true)
              ⊎ (list_any (λ s. is_in w (constants_of s)) xs ≡ true)
              → (list_any (λ s. is_in w (constants_of s)) xs ≡ true
              → list_any (λ s. is_in w (declared_words s)) xs ≡ true)
              → (is_in w (declared_words x) || list_any (λ s. is_in w (declared_words s)) xs) ≡ true
          declared_if_there (inl is_there) declared_later =
              search (rules, arith, or_left, list_any-append, bytes_eq)
          declared_if_there (inr is_there) declared_later =
              search (rules, arith, or_right)

  own_symbols_are_declared : (i : ℕ) (s : Statement) (w : Bytes) → slice_get db i ≡ Some s
      → is_in w (declared_words s) ≡ true → is_in w (flat_map declared_words db) ≡ true
  own_symbols_are_declared i s w s_at_i s_declares_w =
      subst (λ (l : List Statement). is_in w (flat_map declared_words l) ≡ true)
      (take_all (length db) db (omega arith))
      (search (rules, arith, later_place_knows_declared, got_lt_length))

  -- each symbol of a lawful statement is declared by some statement
  pub lawful_symbols_are_declared : (k : ℕ) (s : Statement) → slice_get db k ≡ Some s
      → IsLawful db k
      → (w : Bytes) → is_in w (words (symbols_of s)) ≡ true
      → is_in w (flat_map declared_words db) ≡ true
  lawful_symbols_are_declared k s s_at_k is_lawful w w_is_symbol =
      declared_by_naming (symbols_are_named (names_before db k) (depth db k) s
      (no_least_no_faults _
      (cc)) w w_is_symbol)
    where
      declared_by_naming : IsNamed (names_before db k) s w
          → is_in w (flat_map declared_words db) ≡ true
      declared_by_naming (constant is_named) =
          constants_are_declared w (declared_before_is_declared constants_of db k w is_named)
      declared_by_naming (variable is_named) =
          let active_declaration =
          passing_active db k (λ i. list_any (λ s. is_in w (variables_of s)) (statement_at db i))
          (search (rules, arith, any_flat_map, bytes_eq)) in
          let declaring =
          passing_statement db (λ s. is_in w (variables_of s)) active_declaration.0
          active_declaration.2 in
          own_symbols_are_declared active_declaration.0 declaring.0 w declaring.1
          (search (rules, arith, list_any-append, bytes_eq, or_right))
      declared_by_naming (own_symbol is_named) = own_symbols_are_declared k s w s_at_k is_named
