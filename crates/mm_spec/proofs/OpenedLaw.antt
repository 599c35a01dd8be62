-- What counts as an axiom has the label, the symbols, the scope and the frame that it has as a
-- theorem.
use Rattle.std.proofs.Common.{rules, arith, ◌≡◌, ℕ, zero, suc, Bool, true, List, [], ◌∷◌, map}
use Rattle.std.proofs.Common.{length, flat_map, count_by, Option, Some, None, slice_get, refl, sym}
use Rattle.std.proofs.Common.{ap, subst}
use Rattle.std.proofs.lemmas.Grind.{common_steps}
use Rattle.std.specs.Option.{option_map, option_and_then}
use Rattle.std.specs.List.{list_any}
use Rattle.std.proofs.Math.Path.{fun_ext}
use Rattle.std.proofs.lemmas.List.{length-map, take-map}
use Rattle.std.proofs.lemmas.List.Folds.{flat_map-map}
use Rattle.std.proofs.lemmas.List.Sums.{sum_by-cons}
use Rattle.mm_spec.specs.Text.{Token}
use Rattle.mm_spec.specs.Statement.{Statement, axiomatic, provable}
use Rattle.mm_spec.specs.Opened.{as_axiom, open_as_axioms}
use Rattle.mm_spec.specs.Scope.{depth, active_at, is_some_still_active, active, statement_at}
use Rattle.mm_spec.specs.Scope.{is_block_open}
use Rattle.mm_spec.specs.Derivation.{Formula, Context}
use Rattle.mm_spec.specs.Frame.{symbol_names, formula_at, is_variable_number, is_floating}
use Rattle.mm_spec.specs.Frame.{is_essential, is_disjoint_statement, mandatory_variables}
use Rattle.mm_spec.specs.Frame.{mandatory_hypotheses, mandatory_pairs, disjoint_at, frame_at}
use Rattle.mm_spec.specs.Citation.{referent_of, referent_at, context_at, is_theorem}
use Rattle.mm_spec.specs.Laws.Complete.{HasCompleteFrame, AreComplete}
use Rattle.mm_spec.specs.Assertion.{label_at}
use Rattle.mm_spec.proofs.FindsLaw.{any_map, passing_statement, statement_passes}

-- ---- one statement

-- the function has the same value for a `$p` and for the `$a` with the same label and formula
abbrev pub IsAlike : {X : Type 0} → (Statement → X) → Type 0
IsAlike f =
    (l : Token) (k : ℕ) (xs : List Token) (e : ℕ) (ps : List Token) (d : ℕ)
    → f (axiomatic l k xs d) ≡ f (provable l k xs e ps d)

pub as_axiom_keeps : {X : Type 0} (f : Statement → X) → IsAlike f → (s : Statement)
    → f (as_axiom s) ≡ f s
as_axiom_keeps f h1 s = grind (arith, common_steps)

-- ---- lists

-- all the statements, of which those that are open theorems have become axioms
abbrev pub with_open_as_axioms : List Statement → List Statement
with_open_as_axioms db = map as_axiom db

pub got_axiom : (db : List Statement) (j : ℕ)
    → slice_get (with_open_as_axioms db) j ≡ option_map as_axiom (slice_get db j)
got_axiom [] zero = refl
got_axiom [] (suc j) = refl
got_axiom (s ∷ db) zero = refl
got_axiom (s ∷ db) (suc j) = got_axiom db j

statement_at_is_mapped : (db : List Statement) (j : ℕ)
    → statement_at (with_open_as_axioms db) j ≡ map as_axiom (statement_at db j)
statement_at_is_mapped db j = grind (arith, common_steps, got_axiom)

count_is_kept : (p : Statement → Bool) → IsAlike p → (db : List Statement)
    → count_by p (with_open_as_axioms db) ≡ count_by p db
count_is_kept p h1 db = grind (arith, common_steps, as_axiom_keeps, sum_by-cons)

flat_is_kept : {X : Type 0} (f : Statement → List X) → IsAlike f → (db : List Statement)
    → flat_map f (with_open_as_axioms db) ≡ flat_map f db
flat_is_kept f is_alike db = grind (arith, common_steps, flat_map-map, fun_ext, as_axiom_keeps)

flat_at_is_kept : {X : Type 0} (f : Statement → List X) → IsAlike f → (db : List Statement) (j : ℕ)
    → flat_map f (statement_at (with_open_as_axioms db) j) ≡ flat_map f (statement_at db j)
flat_at_is_kept f is_alike db j = grind (arith, common_steps, statement_at_is_mapped, flat_is_kept)

any_at_is_kept : (p : Statement → Bool) → IsAlike p → (db : List Statement) (j : ℕ)
    → list_any p (statement_at (with_open_as_axioms db) j) ≡ list_any p (statement_at db j)
any_at_is_kept p is_alike db j =
    grind (arith, common_steps, any_map, statement_at_is_mapped, fun_ext, as_axiom_keeps)

got_is_kept : {X : Type 0} (f : Statement → X) → IsAlike f → (db : List Statement) (j : ℕ)
    → option_map f (slice_get (with_open_as_axioms db) j) ≡ option_map f (slice_get db j)
got_is_kept f is_alike db j = grind (arith, common_steps, got_axiom, as_axiom_keeps)

-- ---- scope

module _ (db : List Statement) where
  abbrev as_axioms : List Statement
  as_axioms = with_open_as_axioms db

  depth_is_kept : depth as_axioms ≡ depth db
  depth_is_kept = grind (arith, common_steps, count_is_kept, fun_ext, take-map)

  open_block_is_kept : (j k : ℕ) → is_block_open as_axioms j k ≡ is_block_open db j k
  open_block_is_kept j k = simp (λ (i : ℕ). ap (λ (f : ℕ → ℕ). f i) depth_is_kept)

  still_active_kept : (o : Option Statement) (b : Bool)
      → is_some_still_active (option_map as_axiom o) b ≡ is_some_still_active o b
  still_active_kept None b = refl
  still_active_kept (Some s) b = search (rules, arith, as_axiom_keeps)

  activity_is_kept_at : (j k : ℕ) → active_at as_axioms j k ≡ active_at db j k
  activity_is_kept_at j k = simp (got_axiom, still_active_kept, open_block_is_kept)

  activity_is_kept : active_at as_axioms ≡ active_at db
  activity_is_kept = fun_ext (λ j. fun_ext (λ k. activity_is_kept_at j k))

  active_are_kept : (k : ℕ) → active as_axioms k ≡ active db k
  active_are_kept k = simp activity_is_kept_at

  -- ---- symbols and frames

  names_are_kept : symbol_names as_axioms ≡ symbol_names db
  names_are_kept = grind (arith, common_steps, flat_is_kept)

  formulas_are_kept : formula_at as_axioms ≡ formula_at db
  formulas_are_kept = grind (arith, common_steps, flat_at_is_kept, fun_ext, names_are_kept)

  formula_is_kept : (j : ℕ) → formula_at as_axioms j ≡ formula_at db j
  formula_is_kept j = ap (λ (f : ℕ → Formula). f j) formulas_are_kept

  variables_are_kept : is_variable_number as_axioms ≡ is_variable_number db
  variables_are_kept = grind (arith, common_steps, flat_is_kept, fun_ext, names_are_kept)

  abbrev IsKept : (Statement → Bool) → Type 0
  IsKept p = (j : ℕ) → list_any p (statement_at as_axioms j) ≡ list_any p (statement_at db j)

  essential_is_kept : IsKept is_essential
  essential_is_kept j = any_at_is_kept is_essential (λ l k xs e ps d. refl) db j

  floating_is_kept : IsKept is_floating
  floating_is_kept j = any_at_is_kept is_floating (λ l k xs e ps d. refl) db j

  disjoint_statement_is_kept : IsKept is_disjoint_statement
  disjoint_statement_is_kept j =
      any_at_is_kept is_disjoint_statement (λ l k xs e ps d. refl) db j

  ruleset kept = (
    names_are_kept,
    formula_is_kept,
    formulas_are_kept,
    variables_are_kept,
    essential_is_kept,
    floating_is_kept,
    disjoint_statement_is_kept,
    active_are_kept,
  )

  mandatory_are_kept : mandatory_variables as_axioms ≡ mandatory_variables db
  mandatory_are_kept = fun_ext (λ k. simp kept)

  hypotheses_are_kept : mandatory_hypotheses as_axioms ≡ mandatory_hypotheses db
  hypotheses_are_kept = fun_ext (λ k. simp kept)

  disjoint_is_kept : (k x y : ℕ) → disjoint_at as_axioms k x y ≡ disjoint_at db k x y
  disjoint_is_kept k x y = simp kept

  pairs_are_kept : mandatory_pairs as_axioms ≡ mandatory_pairs db
  pairs_are_kept = fun_ext (λ k. simp kept)

  frame_is_kept : (k : ℕ) → frame_at as_axioms k ≡ frame_at db k
  frame_is_kept k = simp kept

  -- ---- what a proof is made over

  referents_are_equal : (j : ℕ) (s : Statement) → referent_of as_axioms j s ≡ referent_of db j s
  referents_are_equal j s = grind (arith, formula_is_kept, frame_is_kept)

  referent_is_kept : (k j : ℕ) → referent_at as_axioms k j ≡ referent_at db k j
  referent_is_kept k j =
      grind (arith, activity_is_kept_at, got_axiom, as_axiom_keeps, referents_are_equal)

  contexts_are_kept : context_at as_axioms ≡ context_at db
  contexts_are_kept = fun_ext (λ k. cc (
    variables_are_kept,
    fun_ext (λ j. referent_is_kept k j),
    fun_ext (λ x. fun_ext (λ y. disjoint_is_kept k x y)),
  ))

-- ---- the statements as they count, with the flag or without

kept_in_either_case : {X : Type 0} (F : List Statement → X)
    → ((db : List Statement) → F (with_open_as_axioms db) ≡ F db)
    → (w : Bool) (db : List Statement) → F (open_as_axioms w db) ≡ F db
kept_in_either_case F h1 w db = grind (arith, common_steps)

module _ (w : Bool) (db : List Statement) where
  pub counted_length : length (open_as_axioms w db) ≡ length db
  counted_length = kept_in_either_case length (λ db. length-map db as_axiom) w db

  pub counted_any : (p : Statement → Bool) → IsAlike p → (j : ℕ)
      → list_any p (statement_at (open_as_axioms w db) j) ≡ list_any p (statement_at db j)
  counted_any p is_alike j =
      search (rules, arith, kept_in_either_case, any_at_is_kept)

  pub counted_flat : {X : Type 0} (f : Statement → List X) → IsAlike f → (j : ℕ)
      → flat_map f (statement_at (open_as_axioms w db) j) ≡ flat_map f (statement_at db j)
  counted_flat f is_alike j =
      search (rules, arith, kept_in_either_case, flat_at_is_kept)

  pub counted_got : {X : Type 0} (f : Statement → X) → IsAlike f → (j : ℕ)
      → option_map f (slice_get (open_as_axioms w db) j) ≡ option_map f (slice_get db j)
  counted_got f is_alike j =
      search (rules, arith, kept_in_either_case, got_is_kept)

  pub counted_then : {X : Type 0} (f : Statement → Option X) → IsAlike f → (j : ℕ)
      → option_and_then f (slice_get (open_as_axioms w db) j) ≡ option_and_then f (slice_get db j)
  counted_then {X} f is_alike j =
      search (rules, arith, flat_map_is_and_then, flatten, counted_got)
    where
      flatten : Option (Option X) → Option X
      flatten o = elim o [ None ↦ None | Some x ↦ x ]

      flat_map_is_and_then : (o : Option Statement) → flatten (option_map f o) ≡ option_and_then f o
      flat_map_is_and_then None = refl
      flat_map_is_and_then (Some s) = refl

  pub counted_active : active_at (open_as_axioms w db) ≡ active_at db
  counted_active = kept_in_either_case active_at activity_is_kept w db

  pub counted_names : symbol_names (open_as_axioms w db) ≡ symbol_names db
  counted_names = kept_in_either_case symbol_names names_are_kept w db

  pub counted_variable : is_variable_number (open_as_axioms w db) ≡ is_variable_number db
  counted_variable = kept_in_either_case is_variable_number variables_are_kept w db

  pub counted_formula : formula_at (open_as_axioms w db) ≡ formula_at db
  counted_formula = kept_in_either_case formula_at formulas_are_kept w db

  pub counted_label : label_at (open_as_axioms w db) ≡ label_at db
  counted_label =
      search (rules, arith, fun_ext, counted_flat)

  pub counted_mandatory : mandatory_variables (open_as_axioms w db) ≡ mandatory_variables db
  counted_mandatory = kept_in_either_case mandatory_variables mandatory_are_kept w db

  pub counted_hypotheses : mandatory_hypotheses (open_as_axioms w db) ≡ mandatory_hypotheses db
  counted_hypotheses = kept_in_either_case mandatory_hypotheses hypotheses_are_kept w db

  pub counted_pairs : mandatory_pairs (open_as_axioms w db) ≡ mandatory_pairs db
  counted_pairs = kept_in_either_case mandatory_pairs pairs_are_kept w db

  pub counted_context : context_at (open_as_axioms w db) ≡ context_at db
  counted_context = kept_in_either_case context_at contexts_are_kept w db

  pub counted_complete : AreComplete db → AreComplete (open_as_axioms w db)
  counted_complete are_complete k l =
      subst (λ (c : ℕ → Context). HasCompleteFrame (c k) ((c k).referent l)) (sym counted_context)
      (are_complete k l)

-- a theorem among the counted statements is the same statement in what was read
pub theorem_read : (w : Bool) (db : List Statement) (j : ℕ) (l : Token) (k : ℕ) (xs : List Token)
    → (e : ℕ) (ps : List Token) (d : ℕ)
    → slice_get (open_as_axioms w db) j ≡ Some (provable l k xs e ps d)
    → slice_get db j ≡ Some (provable l k xs e ps d)
theorem_read w db j l k xs e ps d h1 = grind (arith, common_steps, got_axiom)

pub counted_theorem_is_theorem : (w : Bool) (db : List Statement) (j : ℕ)
    → list_any is_theorem (statement_at (open_as_axioms w db) j) ≡ true
    → list_any is_theorem (statement_at db j) ≡ true
counted_theorem_is_theorem w db j is_theorem_at_j =
    grind (arith, common_steps, statement_passes, passing_statement, theorem_read)
