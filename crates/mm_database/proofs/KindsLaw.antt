-- What statements count as, and the numbers of the theorems and of the axioms by that.
use Rattle.std.proofs.Common.{cond, ◌≡◌, ℕ, ◌+◌, ◌^◌, ◌<◌, Bool, true, false, ◌&&◌, ◌||◌}
use Rattle.std.proofs.Common.{List, [], ◌∷◌, ◌++◌, length, map, take, get_or, slice_get, Option}
use Rattle.std.proofs.Common.{Some, None, refl, sym, ap, ◌∙◌, append-nil}
use Rattle.std.proofs.Math.Numerals.{add-one}
use Rattle.std.proofs.Math.Nat.{zero-add}
use Rattle.std.specs.Option.{option_map}
use Rattle.std.specs.List.{list_any, range_with_len, filter}
use Rattle.std.proofs.lemmas.List.Elements.{filter-append}
use Rattle.std.proofs.Math.Path.{fun_ext}
use Rattle.std.proofs.lemmas.List.{length-map, map-append, take_more}
use Rattle.std.proofs.lemmas.Option.{slice_get-get_or, same_Some, slice_get-map}
use Rattle.mm_spec.specs.Statement.{Statement, constants, axiomatic, provable}
use Rattle.mm_spec.specs.Opened.{is_open_proof, is_open_theorem, as_axiom, open_as_axioms}
use Rattle.mm_spec.specs.Scope.{statement_at}
use Rattle.mm_spec.specs.Citation.{is_theorem, is_assertion}
use Rattle.mm_spec.specs.Frame.{is_floating, is_disjoint_statement}
use Rattle.mm_spec.specs.Output.{is_column, theorems, columns}
use Rattle.mm_spec.specs.declared.Word.{Word}
use Rattle.mm_spec.proofs.ActivityLaw.{range_with_one_more}
use Rattle.mm_spec.proofs.OpenedLaw.{counted_length, got_axiom}
use Rattle.mm_outline.specs.Parts.{statement_of}
use Rattle.mm_outline.specs.Statements.{statements}
use Rattle.mm_outline.specs.declared.parts.Kind.{Kind}
use Rattle.mm_outline.specs.declared.parts.Kind.TheVariants as kind
use Rattle.mm_outline.specs.declared.parts.Outline.{Outline}
use Rattle.mm_database.specs.Kinds.{counted_as, kind_of, is_theorem_kind, is_axiom_kind, numbers_of}
use Rattle.mm_database.specs.Kinds.{is_assertion_kind, is_floating_kind}
use Rattle.mm_database.specs.Kinds.{is_disjoint_kind}

-- ---- the numbers that pass a test

-- the numbers up to k + 1 that pass are those up to k, and k if it passes
filter_range_push : (p : ℕ → Bool) (k : ℕ) (b : Bool) → p k ≡ b
    → filter p (range_with_len 0 (k + 1)) ≡ filter p (range_with_len 0 k) ++ (cond b (k ∷ []) [])
filter_range_push p k b p_k_is_b =
    rw add-one (ap (filter p) (range_with_one_more 0 k) ∙ (rw (zero-add, filter-append)
    (ap (λ c. filter p (range_with_len 0 k) ++ cond c (k ∷ []) []) p_k_is_b)))

-- the list with k, which passes
pub filter_range_passes : (p : ℕ → Bool) (k : ℕ) (xs ys : List ℕ)
    → xs ≡ filter p (range_with_len 0 k)
    → p k ≡ true → ys ≡ xs ++ k ∷ [] → ys ≡ filter p (range_with_len 0 (k + 1))
filter_range_passes p k xs ys xs_are_filtered k_passes ys_are_xs_and_k =
    rw (ys_are_xs_and_k, xs_are_filtered) (sym (filter_range_push p k true k_passes))

-- the list without k, which doesn't pass
pub filter_range_skips : (p : ℕ → Bool) (k : ℕ) (xs : List ℕ) → xs ≡ filter p (range_with_len 0 k)
    → p k ≡ false → xs ≡ filter p (range_with_len 0 (k + 1))
filter_range_skips p k xs xs_are_filtered k_fails =
    rw (filter_range_push p k false k_fails, append-nil) xs_are_filtered

-- ---- the theorems and the axioms by the kinds

-- the test of a kind for theorems and axioms is the test of the statement
theorem_kind : (s : Statement) → is_theorem_kind (kind_of s) ≡ list_any is_theorem (s ∷ [])
theorem_kind (constants k xs d) = refl
theorem_kind _ = refl

axiom_kind : (s : Statement) → is_axiom_kind (kind_of s) ≡ list_any (is_column None) (s ∷ [])
axiom_kind (constants k xs d) = refl
axiom_kind _ = refl

-- the numbers whose kinds pass are those whose statements pass
numbers_by_kind : (test : Kind → Bool) (p : Statement → Bool)
    → ((s : Statement) → test (kind_of s) ≡ list_any p (s ∷ [])) → (db : List Statement)
    → numbers_of test (map kind_of db)
    ≡ filter (λ j. list_any p (statement_at db j)) (range_with_len 0 (length db))
numbers_by_kind test p test_decides db =
    rw length-map (ap (λ q. filter q (range_with_len 0 (length db))) (fun_ext (λ j.
    ap (λ o. elim o [ None ↦ false | Some k ↦ test k ]) (slice_get-map kind_of db j)
    ∙ (elim (slice_get db j) as (λ o. elim (option_map kind_of o) [ None ↦ false | Some k ↦ test k ]
    ≡ list_any p (elim o [ None ↦ [] | Some s ↦ s ∷ [] ])) [
      | None ↦ refl
      | Some s ↦ test_decides s
    ]))))

-- the theorems are the statements with the kind of one
pub theorems_by_kind : (db : List Statement) (kinds : List Kind) → kinds ≡ map kind_of db
    → numbers_of is_theorem_kind kinds ≡ theorems db
theorems_by_kind db kinds kinds_are =
    rw kinds_are (numbers_by_kind is_theorem_kind is_theorem theorem_kind db)

-- the axioms are the statements with the kind of one
pub axioms_by_kind : (db : List Statement) (kinds : List Kind) → kinds ≡ map kind_of db
    → numbers_of is_axiom_kind kinds ≡ columns db None
axioms_by_kind db kinds kinds_are =
    rw kinds_are (numbers_by_kind is_axiom_kind (is_column None) axiom_kind db)

-- ---- one statement more

-- statements as they count, with one statement more
pub counted_push : (w : Bool) (db : List Statement) (s : Statement)
    → open_as_axioms w (db ++ s ∷ []) ≡ open_as_axioms w db ++ counted_as w s ∷ []
counted_push true db s = map-append as_axiom db (s ∷ [])
counted_push false db s = refl

-- ---- the kind of one statement

-- the test of the kind with an index
pub test_at_is_test_of_kind : (test : Kind → Bool) (kinds : List Kind) (j : ℕ) (d : Kind)
    → j < length kinds
    → elim (slice_get kinds j) [ None ↦ false | Some k ↦ test k ] ≡ test (get_or kinds j d)
test_at_is_test_of_kind test kinds j d j_lt_length =
    ap (λ o. elim o [ None ↦ false | Some k ↦ test k ]) (slice_get-get_or kinds j d j_lt_length)

-- the kinds of the statements up to i + 1 are those up to i and that of the next
pub kinds_push : (text : List ℕ) (ws : List Word) (os : List Outline) (w : Bool) (i : ℕ)
    → (d : Outline)
    → i < length os
    → map kind_of (open_as_axioms w (statements text ws (take (i + 1) os)))
    ≡ map kind_of (open_as_axioms w (statements text ws (take i os)))
    ++ kind_of (counted_as w (statement_of text ws (get_or os i d))) ∷ []
kinds_push text ws os w i d i_lt_length_os =
    rw (take_more os i d i_lt_length_os, map-append, counted_push, map-append) refl

-- there are as many kinds as outlines
pub kinds_lt_2_31 : (text : List ℕ) (ws : List Word) (os : List Outline) (w : Bool)
    (kinds : List Kind)
    → kinds ≡ map kind_of (open_as_axioms w (statements text ws os)) → length os < 2 ^ 31
    → length kinds < 2 ^ 31
kinds_lt_2_31 text ws os w kinds kinds_are outlines_lt_2_31 =
    rw (kinds_are, length-map, counted_length, length-map) outlines_lt_2_31

-- ---- where a statement counts as what it is

-- what counts as a theorem is one
pub counted_theorem_is_unchanged : (w : Bool) (s : Statement)
    → kind_of (counted_as w s) ≡ kind.Theorem
    → counted_as w s ≡ s
counted_theorem_is_unchanged false s counts_as_theorem = refl
counted_theorem_is_unchanged true (provable l k xs e ps d) counts_as_theorem =
    (elim (is_open_proof ps) as (λ b.
    kind_of (elim b [ true ↦ axiomatic l k xs d | false ↦ provable l k xs e ps d ]) ≡ kind.Theorem
    → (elim b [ true ↦ axiomatic l k xs d | false ↦ provable l k xs e ps d ])
    ≡ provable l k xs e ps d) [ true ↦ λ counts. absurd cc | false ↦ λ counts. refl ])
    counts_as_theorem
counted_theorem_is_unchanged true _ counts_as_theorem = refl

-- a statement as it counts
pub counted_element : (w : Bool) (db : List Statement) (k : ℕ) (s : Statement)
    → slice_get db k ≡ Some s → slice_get (open_as_axioms w db) k ≡ Some (counted_as w s)
counted_element true db k s s_is_statement_k = rw (got_axiom, s_is_statement_k) refl
counted_element false db k s s_is_statement_k = s_is_statement_k

-- a statement that counts as a theorem was read as this theorem
pub counted_theorem_is_theorem : (w : Bool) (db : List Statement) (k : ℕ) (s : Statement)
    → slice_get db k ≡ Some s
    → option_map kind_of (slice_get (open_as_axioms w db) k) ≡ Some kind.Theorem
    → (kind_of s ≡ kind.Theorem) × (slice_get (open_as_axioms w db) k ≡ Some s)
counted_theorem_is_theorem w db k s s_is_statement_k k_counts_as_theorem =
    let counted_k = counted_element w db k s s_is_statement_k in
    let counts_as_theorem = same_Some _ _
    (sym (ap (option_map kind_of) counted_k) ∙ k_counts_as_theorem) in
    let counted_is_s = counted_theorem_is_unchanged w s counts_as_theorem in
    (rw (← counted_is_s) counts_as_theorem, counted_k ∙ ap Some counted_is_s)

-- what is a theorem and counts as an axiom is an open one
open_statement : (w : Bool) (s : Statement)
    → (is_theorem_kind (kind_of s) && is_axiom_kind (kind_of (counted_as w s)))
    ≡ (w && list_any is_open_theorem (s ∷ []))
open_statement false (constants k xs d) = refl
open_statement false _ = refl
open_statement true (provable l k xs e ps d) =
    elim (is_open_proof ps) as (λ b. is_axiom_kind (kind_of
    (elim b [ true ↦ axiomatic l k xs d | false ↦ provable l k xs e ps d ])) ≡ (b || false))
    [ true ↦ refl | false ↦ refl ]
open_statement true _ = refl

-- an open theorem that counts as an axiom, by the two kinds
pub is_open_by_kinds : (w : Bool) (db : List Statement) (k : ℕ) (x y : Kind)
    → option_map kind_of (slice_get db k) ≡ Some x
    → option_map kind_of (slice_get (open_as_axioms w db) k) ≡ Some y
    → (is_theorem_kind x && is_axiom_kind y)
    ≡ (w && list_any is_open_theorem (statement_at db k))
is_open_by_kinds w db k x y read_kind_is_x counted_kind_is_y =
    by_statement (slice_get db k) refl read_kind_is_x
  where
    by_statement : (o : Option Statement) → slice_get db k ≡ o → option_map kind_of o ≡ Some x
        → (is_theorem_kind x && is_axiom_kind y)
        ≡ (w && list_any is_open_theorem (statement_at db k))
    by_statement None statement_is kind_is = absurd cc
    by_statement (Some s) statement_is kind_is =
        let counted_is = ap (option_map kind_of) (counted_element w db k s statement_is) in
        let y_is = same_Some _ _ (sym counted_is ∙ counted_kind_is_y) in
        rw (← same_Some _ _ kind_is, ← y_is) (open_statement w s
        ∙ ap (λ o. w && list_any is_open_theorem (elim o [ None ↦ [] | Some s ↦ s ∷ [] ]))
        (sym statement_is))

-- ---- tests of a statement by its kind

-- a test of a kind that decides a test of statements decides it at each number
pub test_by_kind : (p : Statement → Bool) (test : Kind → Bool)
    → ((s : Statement) → test (kind_of s) ≡ list_any p (s ∷ [])) → (db : List Statement) (k : ℕ)
    → (x : Kind)
    → option_map kind_of (slice_get db k) ≡ Some x → test x ≡ list_any p (statement_at db k)
test_by_kind p test test_decides db k x kind_is_x =
    (elim (slice_get db k) as (λ o. option_map kind_of o ≡ Some x
    → test x ≡ list_any p (elim o [ None ↦ [] | Some s ↦ s ∷ [] ])) [
      | None ↦ λ is_none. absurd cc
      | Some s ↦ λ is_some. rw (← same_Some _ _ is_some) (test_decides s)
    ]) kind_is_x

-- the tests of kinds are those of statements
pub assertion_kind : (s : Statement) → is_assertion_kind (kind_of s)
    ≡ list_any is_assertion (s ∷ [])
assertion_kind (constants k xs d) = refl
assertion_kind _ = refl

pub floating_kind : (s : Statement) → is_floating_kind (kind_of s) ≡ list_any is_floating (s ∷ [])
floating_kind (constants k xs d) = refl
floating_kind _ = refl

pub disjoint_kind : (s : Statement) → is_disjoint_kind (kind_of s)
    ≡ list_any is_disjoint_statement (s ∷ [])
disjoint_kind (constants k xs d) = refl
disjoint_kind _ = refl
