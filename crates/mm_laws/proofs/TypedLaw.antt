-- Each mandatory variable of an assertion has a mandatory `$f`, and the variables of its frame are
-- the mandatory ones.
use Rattle.std.proofs.Common.{◌≡◌, ℕ, ◌==◌, ◌<◌, Bool, true, ◌||◌, List, length, refl, ap}
use Rattle.std.proofs.Common.{ap₂, ◌∙◌, true≢false, eq-eqb, IsTrue, rules, arith}
use Rattle.std.specs.List.{list_any}
use Rattle.std.proofs.lemmas.Bool.{and_parts, and_from}
use Rattle.std.proofs.lemmas.List.Folds.{list_any-append, Any-from_list_any}
use Rattle.std.proofs.lemmas.Grind.{common_steps}
use Rattle.mm_spec.specs.Statement.{Statement}
use Rattle.mm_spec.specs.Scope.{active_at, statement_at}
use Rattle.mm_spec.specs.Opened.{open_as_axioms}
use Rattle.mm_spec.specs.Lawful.{IsLawful}
use Rattle.mm_spec.specs.Frame.{formula_at, is_floating, is_essential, active_of, mandatory_pairs}
use Rattle.mm_spec.specs.Frame.{is_variable_number, mandatory_variables, mandatory_hypotheses}
use Rattle.mm_spec.specs.Derivation.{Formula, Pair, is_member}
use Rattle.mm_spec.specs.Citation.{is_assertion}
use Rattle.mm_laws.specs.Laws.Read.{WhereRead}
use Rattle.mm_laws.specs.Laws.Frames.{IsTyping, VariablesAreTyped, is_in_frame}
use Rattle.mm_laws.specs.Laws.Frames.{VariablesAreMandatory}
use Rattle.mm_spec.proofs.FindsLaw.{any_flat_map, any_filter, member_filter, filter_member}
use Rattle.mm_spec.proofs.FindsLaw.{passing_statement, statement_passes, passing_active}
use Rattle.mm_spec.proofs.FindsLaw.{some_active_passes}
use Rattle.mm_spec.proofs.FaultlessLaw.{has_formula}
use Rattle.mm_spec.proofs.CompleteLaw.{Types, is_mandatory, mandatory_is_typed}
use Rattle.mm_spec.proofs.CompleteLaw.{typing_is_mandatory, formula_variable_is_mandatory}
use Rattle.mm_spec.proofs.CompleteLaw.{hypothesis_variable_is_mandatory}
use Rattle.mm_spec.proofs.OpenedLaw.{counted_any, counted_variable, counted_formula}
use Rattle.mm_spec.proofs.OpenedLaw.{counted_mandatory, counted_hypotheses, counted_pairs}
use Rattle.mm_laws.proofs.ReadLaw.{read_statements_are_lawful}

-- an assertion has a formula
assertion_has_formula : (s : Statement) → is_assertion s ≡ true → has_formula s ≡ true
assertion_has_formula s h1 = grind (arith, common_steps, true≢false)

-- some item passes
one_passes : {X : Type 0} (p : X → Bool) (xs : List X) → list_any p xs ≡ true
    → (x : X) × (p x ≡ true)
one_passes p xs some_pass = let found = Any-from_list_any p xs some_pass in (found.1, found.4)

module _ (db : List Statement) (are_lawful : (k : ℕ) → k < length db → IsLawful db k) (k : ℕ) where
  abbrev IsMandatory : ℕ → Type 0
  IsMandatory x = is_member (mandatory_variables db k) x ≡ true

  abbrev is_essential_at : ℕ → Bool
  is_essential_at j = list_any is_essential (statement_at db j)

  abbrev essentials : List ℕ
  essentials = active_of is_essential db k

  -- whether a symbol stands in the formula of statement j, in a mandatory hypothesis, in a
  -- mandatory pair
  abbrev in_formula : ℕ → ℕ → Bool
  in_formula x j = is_member (formula_at db j) x

  abbrev in_hypotheses : ℕ → Bool
  in_hypotheses x = list_any (in_formula x) (mandatory_hypotheses db k)

  abbrev in_pair : ℕ → Pair → Bool
  in_pair x p = (x == p.low) || (x == p.high)

  abbrev in_pairs : ℕ → Bool
  in_pairs x = list_any (in_pair x) (mandatory_pairs db k)

  is_mandatory_hypothesis : (j : ℕ) → active_at db j k ≡ true → is_mandatory db k j ≡ true
      → is_member (mandatory_hypotheses db k) j ≡ true
  is_mandatory_hypothesis j is_active_j is_mandatory_j =
      grind (arith, common_steps, filter_member, is_mandatory, some_active_passes, eq-eqb)

  variables_are_typed : VariablesAreTyped db k
  variables_are_typed is_assertion_k x is_mandatory_x =
      let statement_k = passing_statement db is_assertion k is_assertion_k in
      let typing = mandatory_is_typed db are_lawful k x statement_k.0 statement_k.1
      (assertion_has_formula statement_k.0 statement_k.2) is_mandatory_x in (
        typing.0,
        is_mandatory_hypothesis typing.0 typing.1 (typing_is_mandatory db are_lawful k typing.0 x
            typing.2 is_mandatory_x),
        is_typing typing.0 typing.2,
      )
    where
      is_typing : (i : ℕ) → Types db are_lawful i x → IsTyping db i x
      is_typing i types = record {
        is_floating_statement = statement_passes db is_floating i types.statement
            types.statement_is_at types.is_floating_statement;
        typecode = types.typecode;
        formula_is = types.formula_is;
        typecode_is_constant = types.typecode_is_constant;
      }

  -- a symbol of the formula of a mandatory hypothesis is one of the hypotheses' symbols
  symbol_is_in_hypotheses : (x j : ℕ) → active_at db j k ≡ true → is_mandatory db k j ≡ true
      → in_formula x j ≡ true → in_hypotheses x ≡ true
  symbol_is_in_hypotheses x j is_active_j is_mandatory_j x_is_in_formula =
      search (rules, arith, any_filter, is_mandatory, some_active_passes, and_from)

  mandatory_is_in_frame : (x : ℕ) → IsMandatory x
      → IsTrue (is_variable_number db x) × IsTrue (is_in_frame db k x)
  mandatory_is_in_frame x is_mandatory_x =
      search (
        arith,
        member_filter,
        list_any-append,
        symbol_is_in_hypotheses,
        any_flat_map,
        any_filter,
        passing_active,
      )

  in_frame_is_mandatory : (x : ℕ) → is_variable_number db x ≡ true → is_in_frame db k x ≡ true
      → IsMandatory x
  in_frame_is_mandatory x is_variable_x is_in_frame_x =
      search (
        rules,
        formula_variable_is_mandatory,
        any_filter,
        and_parts,
        hypothesis_variable_is_mandatory,
        one_passes,
      )

-- ---- the statements as they count

module _ (with_open : Bool) (db : List Statement) (k : ℕ) where
  assertion_counted : list_any is_assertion (statement_at (open_as_axioms with_open db) k)
      ≡ list_any is_assertion (statement_at db k)
  assertion_counted = counted_any with_open db is_assertion (λ l k xs e ps d. refl) k

  mandatory_counted : (x : ℕ)
      → is_member (mandatory_variables (open_as_axioms with_open db) k) x
      ≡ is_member (mandatory_variables db k) x
  mandatory_counted x = ap (λ (f : ℕ → List ℕ). is_member (f k) x) (counted_mandatory with_open db)

  hypothesis_counted : (j : ℕ)
      → is_member (mandatory_hypotheses (open_as_axioms with_open db) k) j
      ≡ is_member (mandatory_hypotheses db k) j
  hypothesis_counted j = ap (λ (f : ℕ → List ℕ). is_member (f k) j) (counted_hypotheses with_open
      db)

  variable_counted : (x : ℕ)
      → is_variable_number (open_as_axioms with_open db) x ≡ is_variable_number db x
  variable_counted x = ap (λ (f : ℕ → Bool). f x) (counted_variable with_open db)

  frame_counted : (x : ℕ) → is_in_frame (open_as_axioms with_open db) k x ≡ is_in_frame db k x
  frame_counted x =
      ap₂ (λ (f : ℕ → Formula) (h : ℕ → List ℕ). is_member (f k) x
      || (list_any (λ j. is_member (f j) x) (h k)
      || list_any (λ p. (x == p.low) || (x == p.high)) (mandatory_pairs
      (open_as_axioms with_open db) k)))
      (counted_formula with_open db) (counted_hypotheses with_open db)
      ∙ ap (λ (p : ℕ → List Pair). is_member (formula_at db k) x
      || (list_any (λ j. is_member (formula_at db j) x) (mandatory_hypotheses db k)
      || list_any (λ p. (x == p.low) || (x == p.high)) (p k))) (counted_pairs with_open db)

  typing_counted : (j x : ℕ) → IsTyping db j x → IsTyping (open_as_axioms with_open db) j x
  typing_counted j x is_typing = record {
    is_floating_statement = counted_any with_open db is_floating (λ l k xs e ps d. refl) j
        ∙ is_typing.is_floating_statement;
    typecode = is_typing.typecode;
    formula_is = ap (λ (f : ℕ → Formula). f j) (counted_formula with_open db)
        ∙ is_typing.formula_is;
    typecode_is_constant = variable_counted is_typing.typecode ∙ is_typing.typecode_is_constant;
  }

  typed_as_counted : VariablesAreTyped db k → VariablesAreTyped (open_as_axioms with_open db) k
  typed_as_counted are_typed is_assertion_k x is_mandatory_x =
      search (rules, assertion_counted, mandatory_counted, hypothesis_counted, typing_counted)

  framed_as_counted : VariablesAreMandatory db k
      → VariablesAreMandatory (open_as_axioms with_open db) k
  framed_as_counted are_in_frame is_assertion_k x =
      search (rules, arith, assertion_counted, mandatory_counted, variable_counted, frame_counted)

pub variables_are_typed_where_read : WhereRead VariablesAreTyped
variables_are_typed_where_read len x db fault is_read with_open k =
    search (rules, arith, typed_as_counted, variables_are_typed, read_statements_are_lawful)

pub variables_are_mandatory_where_read : WhereRead VariablesAreMandatory
variables_are_mandatory_where_read len x db fault is_read with_open k =
    let are_lawful = read_statements_are_lawful len x db fault is_read in
    framed_as_counted with_open db k (λ is_assertion_k x. (
      mandatory_is_in_frame db are_lawful k x,
      λ variable_in_frame.
          in_frame_is_mandatory db are_lawful k x variable_in_frame.0 variable_in_frame.1,
    ))
