-- Whether an entry is what a hypothesis requires.
use Rattle.std.proofs.lemmas.Grind.{common_steps}
use Rattle.std.proofs.Common.{◌≡◌, ℕ, ◌<◌, ◌≤◌, inl, inr, Bool, true, false, ◌&&◌, List, [], ◌∷◌}
use Rattle.std.proofs.Common.{◌++◌, length, drop, get_or, refl, sym, ap, ap₂, ◌∙◌, arith, nat_lt}
use Rattle.std.proofs.Common.{nat_eq, bytes_eq, eq-eqb, eqb-true, not}
use Rattle.std.proofs.Math.Bool.{and-true, and-false}
use Rattle.std.proofs.lemmas.Slice.Eq.{bytes_eq-Decides}
use Rattle.std.proofs.lemmas.Bool.Decides.{nat_tests}
use Rattle.mm_spec.specs.Limits.{formula_limit}
use Rattle.mm_nodes.specs.Strings.{first_node, string_of}
use Rattle.mm_machine.specs.declared.entry.Entry.{Entry}
use Rattle.mm_machine.specs.Entries.{IsEntry, HasNoSymbols, entry_formula}
use Rattle.mm_machine.proofs.FilledLaw.{symbol_string_is}

eq_self : (x : ℕ) → nat_eq x x ≡ true
eq_self x = eq-eqb x x refl

bytes_eq_self : (u : List ℕ) → bytes_eq u u ≡ true
bytes_eq_self u = (bytes_eq-Decides u u).1 refl

module _ (nodes : List (List ℕ)) (e : Entry) (is_entry : IsEntry nodes e) where
  formula_if_symbol : e.typecode < first_node
      → entry_formula nodes e ≡ e.typecode ∷ string_of nodes e.body
  formula_if_symbol is_symbol =
      ap (λ u. u ++ string_of nodes e.body) (symbol_string_is nodes e.typecode is_symbol)

  formula_if_none : HasNoSymbols nodes e → entry_formula nodes e ≡ []
  formula_if_none none = ap₂ (λ u v. u ++ v) none.1 none.2

  -- the first symbol is the typecode
  pub typed_test_is : (t : ℕ) (r : Bool) → r ≡ (nat_eq e.typecode t && nat_lt e.typecode first_node)
      → r ≡ bytes_eq (entry_formula nodes e) (t ∷ string_of nodes e.body)
  typed_test_is t r r_is = r_is ∙ elim is_entry.has_typecode [
    | inl is_symbol ↦
        let test_is : nat_lt e.typecode first_node ≡ true = grind (arith, nat_tests) in
        ap (λ b. nat_eq e.typecode t && b) (test_is ∙ sym (bytes_eq_self (string_of nodes e.body)))
        ∙ sym (ap (λ u. bytes_eq u (t ∷ string_of nodes e.body)) (formula_if_symbol is_symbol))
    | inr none ↦ let starts_at_node = none.0 in
        let test_is : nat_lt e.typecode first_node ≡ false = grind (arith, nat_tests) in
        ap (λ b. nat_eq e.typecode t && b) test_is ∙ and-false (nat_eq e.typecode t)
        ∙ sym (ap (λ u. bytes_eq u (t ∷ string_of nodes e.body)) (formula_if_none none))
  ]

  -- the formula has no symbols
  pub empty_test_is : (r : Bool) → r ≡ not (nat_lt e.typecode first_node)
      → r ≡ bytes_eq (entry_formula nodes e) []
  empty_test_is r r_is = r_is ∙ elim is_entry.has_typecode [
    | inl is_symbol ↦
        let test_is : nat_lt e.typecode first_node ≡ true = grind (arith, nat_tests) in
        ap not test_is ∙ sym (ap (λ u. bytes_eq u []) (formula_if_symbol is_symbol))
    | inr none ↦ let starts_at_node = none.0 in
        let test_is : nat_lt e.typecode first_node ≡ false = grind (arith, nat_tests) in
        ap not test_is ∙ sym (ap (λ u. bytes_eq u []) (formula_if_none none))
  ]

  -- a formula that begins with another symbol
  pub not_wanted_if_not_typed : (t : ℕ) (rest : List ℕ)
      → false ≡ bytes_eq (entry_formula nodes e) (t ∷ string_of nodes e.body)
      → false ≡ bytes_eq (entry_formula nodes e) (t ∷ rest)
  not_wanted_if_not_typed t rest differs = elim is_entry.has_typecode [
    | inl is_symbol ↦
        ap (λ b. b && bytes_eq (string_of nodes e.body) rest) (differs ∙ ap (λ u. bytes_eq u
        (t ∷ string_of nodes e.body)) (formula_if_symbol is_symbol) ∙ ap (λ b. nat_eq e.typecode t
        && b) (bytes_eq_self (string_of nodes e.body)) ∙ and-true (nat_eq e.typecode t))
        ∙ sym (ap (λ u. bytes_eq u (t ∷ rest)) (formula_if_symbol is_symbol))
    | inr none ↦ sym (ap (λ u. bytes_eq u (t ∷ rest)) (formula_if_none none))
  ]

  -- a formula that begins with the typecode
  pub wanted_if_typed : (t : ℕ) (rest : List ℕ)
      → true ≡ bytes_eq (entry_formula nodes e) (t ∷ string_of nodes e.body)
      → bytes_eq (string_of nodes e.body) rest ≡ bytes_eq (entry_formula nodes e) (t ∷ rest)
  wanted_if_typed t rest same =
      sym (ap (λ u. bytes_eq u (t ∷ rest)) ((bytes_eq-Decides (entry_formula nodes e) (t ∷ string_of
      nodes e.body)).0 (sym same))
      ∙ ap (λ b. b && bytes_eq (string_of nodes e.body) rest) (eq_self t))

  -- no formula of an entry is too long
  pub formula_le_limit : length (entry_formula nodes e) ≤ formula_limit
  formula_le_limit = elim is_entry.has_typecode [
    | inl is_symbol ↦
        omega (
          arith,
          ap length (formula_if_symbol is_symbol),
          is_entry.length_is,
          is_entry.length_lt_limit,
        )
    | inr none ↦ omega (arith, ap length (formula_if_none none))
  ]

pub not_equal_test : (a b : ℕ) → (a ≡ b → ⊥) → nat_eq a b ≡ false
not_equal_test a b differ = grind (arith, common_steps, eqb-true)

pub begins_with : {X : Type 0} (xs : List X) (x : X) → 0 < length xs → x ≡ get_or xs 0 x
    → xs ≡ x ∷ drop 1 xs
begins_with xs x h1 h2 = grind (arith, common_steps)
