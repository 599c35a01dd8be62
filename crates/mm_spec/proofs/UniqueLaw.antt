-- The labels in postfix order determine the whole forest of derivations.
use Rattle.std.proofs.Common.{rules, ◌≡◌, ℕ, zero, suc, List, [], ◌∷◌, ◌++◌, length, Option, Some}
use Rattle.std.proofs.Common.{None, refl, sym, ap, append_assoc, length-append, arith}
use Rattle.std.proofs.lemmas.Grind.{common_steps}
use Rattle.std.proofs.lemmas.List.{length-map}
use Rattle.mm_spec.specs.Nodes.{tree_count}
use Rattle.mm_spec.specs.Derivation.{Formula, Referent, hypothesis, assertion, Context, substitute}
use Rattle.mm_spec.specs.Derivation.{Follows, Trees, none, more, formulas, postfix, AreDerivations}
use Rattle.mm_spec.proofs.UnifyLaw.{found_gives_formula}
use Rattle.mm_spec.specs.Laws.Stack.{substitution_from, IsCompleteReferent}
use Rattle.mm_spec.proofs.StackStepsLaw.{AreGood, good_append_is_good_parts}

-- two forests, one after the other
infixl 40 ◌⧺◌
abbrev pub ◌⧺◌ : Trees → Trees → Trees
ts ⧺ none = ts
ts ⧺ more us l f cs = more (ts ⧺ us) l f cs

-- a forest without its last n trees, and these
abbrev split_last : ℕ → Trees → Trees × Trees
split_last zero forest = (forest, none)
split_last (suc n) none = (none, none)
split_last (suc n) (more ts l f cs) = let p = split_last n ts in (p.0, more p.1 l f cs)

split_last_join : (ts cs : Trees) → split_last (tree_count cs) (ts ⧺ cs) ≡ (ts, cs)
split_last_join ts none = refl
split_last_join ts (more cs l f ds) = grind (arith, common_steps, (split_last_join ts cs))

pub tree_count_formulas : (cs : Trees) → length (formulas cs) ≡ tree_count cs
tree_count_formulas none = refl
tree_count_formulas (more cs l f ds) =
    omega (arith, length-append (formulas cs) (f ∷ []), tree_count_formulas cs)

module _ (c : Context) where
  arity : Option Referent → ℕ
  arity None = 0
  arity (Some (hypothesis g)) = 0
  arity (Some (assertion a)) = length a.hypotheses

  result : Option Referent → List Formula → Formula
  result None ps = []
  result (Some (hypothesis g)) ps = g
  result (Some (assertion a)) ps = substitute c (substitution_from c a.hypotheses ps) a.formula

  follows_arity : (r : Option Referent) (ps : List Formula) (f : Formula) → Follows c r ps f
      → length ps ≡ arity r
  unfolding arity
  follows_arity None ps f follows = absurd follows
  follows_arity (Some (hypothesis g)) ps f follows = ap length follows.0
  follows_arity (Some (assertion a)) ps f follows =
      search (rules, arith, length-map)

  follows_result : (r : Option Referent) (ps : List Formula) (f : Formula) → IsCompleteReferent c r
      → Follows c r ps f → result r ps ≡ f
  unfolding result
  follows_result None ps f is_complete follows = absurd follows
  follows_result (Some (hypothesis g)) ps f is_complete follows = sym follows.1
  follows_result (Some (assertion a)) ps f is_complete follows =
      search (rules, arith, found_gives_formula)

  -- the forest that the labels make of a forest
  abbrev grow : ℕ → Trees × Trees → Trees
  grow l p = more p.0 l (result (c.referent l) (formulas p.1)) p.1

  abbrev build : List ℕ → Trees → Trees
  build [] forest = forest
  build (l ∷ ls) forest = build ls (grow l (split_last (arity (c.referent l)) forest))

  labels_build_forest : (forest : Trees) → AreDerivations c forest → AreGood c (postfix forest)
      → (ls : List ℕ) (base : Trees) → build (postfix forest ++ ls) base ≡ build ls (base ⧺ forest)
  labels_build_forest none are_derivations are_good ls base = refl
  labels_build_forest (more ts l f cs) are_derivations are_good ls base =
      let early_labels = postfix ts in
      let child_labels = postfix cs in
      let split_at_children =
      good_append_is_good_parts c early_labels (child_labels ++ l ∷ []) are_good in
      let split_at_label = good_append_is_good_parts c child_labels (l ∷ []) split_at_children.1 in
      let earlier = labels_build_forest ts are_derivations.0 split_at_children.0
      (child_labels ++ l ∷ ls) base in
      let inner = labels_build_forest cs are_derivations.1 split_at_label.0 (l ∷ ls)
      (base ⧺ ts) in
      let count = tree_count_formulas cs in
      search (rules, append_assoc, follows_arity, split_last_join, follows_result, earlier, inner)

  -- after no trees stands the forest itself
  none_before_is_itself : (forest : Trees) → none ⧺ forest ≡ forest
  none_before_is_itself none = refl
  none_before_is_itself (more ts l f cs) = ap (λ x. more x l f cs) (none_before_is_itself ts)

  pub same_labels_same_derivations : (r s : Trees) → AreDerivations c r → AreDerivations c s
      → AreGood c (postfix r)
      → postfix r ≡ postfix s → r ≡ s
  same_labels_same_derivations r s r_derives s_derives are_good labels_equal =
      search (rules, arith, is_built)
    where
      is_built : (forest : Trees) → AreDerivations c forest → AreGood c (postfix forest)
          → build (postfix forest ++ []) none ≡ forest
      is_built forest are_derivations are_good =
          search (rules, arith, labels_build_forest, none_before_is_itself)
