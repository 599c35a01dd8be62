-- A substitution is found from the `$f` hypotheses, if there is one.
use Rattle.std.proofs.Common.{rules, arith, ◌≡◌, ℕ, true, List, [], ◌∷◌, map, IsTrue, refl, sym}
use Rattle.std.proofs.Common.{true≢false, append-nil, bytes_eq, eqb-true}
use Rattle.std.proofs.lemmas.Grind.{common_steps}
use Rattle.std.proofs.lemmas.Slice.Eq.{bytes_eq-Decides}
use Rattle.std.specs.List.{list_all, AllByRecursion}
use Rattle.std.proofs.lemmas.Bool.{and_from, and_parts, not-true}
use Rattle.mm_spec.specs.Laws.Complete.{binds, IsBound, AreBound}
use Rattle.mm_spec.specs.Derivation.{Formula, Pair, Context, Substitution, substitute}
use Rattle.mm_spec.specs.Derivation.{are_all_disjoint}
use Rattle.mm_spec.specs.Laws.Stack.{are_equal, tail, substitution_from}

pub tested_equal_are_equal : (ps qs : List Formula) → are_equal ps qs ≡ true → ps ≡ qs
tested_equal_are_equal [] [] tested_equal = refl
tested_equal_are_equal [] (q ∷ qs) tested_equal = absurd (true≢false (sym tested_equal))
tested_equal_are_equal (p ∷ ps) [] tested_equal = absurd (true≢false (sym tested_equal))
tested_equal_are_equal (p ∷ ps) (q ∷ qs) tested_equal =
    let later = tested_equal_are_equal ps qs (and_parts (bytes_eq p q) (are_equal ps qs)
    tested_equal).1 in
    grind (arith, common_steps, and_parts, bytes_eq-Decides)

pub equal_are_tested_equal : (ps qs : List Formula) → ps ≡ qs → are_equal ps qs ≡ true
equal_are_tested_equal ps qs lists_equal =
    cc (equal_to_itself ps)
  where
    equal_to_itself : (xs : List Formula) → are_equal xs xs ≡ true
    equal_to_itself [] = refl
    equal_to_itself (x ∷ xs) =
        and_from (bytes_eq x x) (are_equal xs xs) ((bytes_eq-Decides x x).1 refl)
        (equal_to_itself xs)

module _ (c : Context) where
  binder_has_value : (σ : Substitution) (x : ℕ) (h : Formula) → binds c x h ≡ true
      → tail (substitute c σ h) ≡ σ x
  binder_has_value σ x [] h_binds_x = absurd (true≢false (sym h_binds_x))
  binder_has_value σ x (t ∷ []) h_binds_x = absurd (true≢false (sym h_binds_x))
  binder_has_value σ x (t ∷ y ∷ z ∷ zs) h_binds_x = absurd (true≢false (sym h_binds_x))
  binder_has_value σ x (t ∷ y ∷ []) h_binds_x =
      grind (arith, common_steps, and_parts, append-nil, eqb-true, not-true)

  pub found_has_value : (hs : List Formula) (σ : Substitution) (x : ℕ) → IsBound c hs x
      → substitution_from c hs (map (substitute c σ) hs) x ≡ σ x
  found_has_value [] σ x x_is_bound = absurd (true≢false (sym x_is_bound))
  found_has_value (h ∷ hs) σ x x_is_bound =
      grind (arith, common_steps, binder_has_value, found_has_value hs σ x)

  pub same_values_same_formula : (σ τ : Substitution) (f : Formula)
      → AllByRecursion (λ x. IsTrue (c.is_variable x) → σ x ≡ τ x) f
      → substitute c σ f ≡ substitute c τ f
  same_values_same_formula σ τ [] same_values = refl
  same_values_same_formula σ τ (x ∷ f) same_values =
      grind (arith, common_steps, same_values_same_formula σ τ f same_values.1)

  -- the found substitution does to bound formulas what any that matches does
  module _ (hs : List Formula) (τ : Substitution) where
    abbrev σ : Substitution
    σ = substitution_from c hs (map (substitute c τ) hs)

    bound_have_same_values : (f : Formula) → AreBound c hs f
        → AllByRecursion (λ x. IsTrue (c.is_variable x) → σ x ≡ τ x) f
    bound_have_same_values [] is_bound = tt
    bound_have_same_values (x ∷ f) is_bound =
        search (rules, arith, found_has_value, bound_have_same_values f is_bound.1)

    pub found_gives_formula : (f : Formula) → AreBound c hs f → substitute c σ f ≡ substitute c τ f
    found_gives_formula f is_bound =
        same_values_same_formula σ τ f (bound_have_same_values f is_bound)

    pub found_gives_formulas : (fs : List Formula) → AllByRecursion (AreBound c hs) fs
        → map (substitute c τ) fs ≡ map (substitute c σ) fs
    found_gives_formulas [] are_bound = refl
    found_gives_formulas (f ∷ fs) are_bound =
        search (rules, arith, found_gives_formula, (found_gives_formulas fs are_bound.1))

    pub found_keeps_disjoint : (ps : List Pair)
        → AllByRecursion (λ p. IsBound c hs p.low × IsBound c hs p.high) ps
        → list_all (λ p. are_all_disjoint c (σ p.low) (σ p.high)) ps
        ≡ list_all (λ p. are_all_disjoint c (τ p.low) (τ p.high)) ps
    found_keeps_disjoint [] are_bound = refl
    found_keeps_disjoint (p ∷ ps) are_bound =
        search (rules, arith, found_has_value, (found_keeps_disjoint ps are_bound.1))
