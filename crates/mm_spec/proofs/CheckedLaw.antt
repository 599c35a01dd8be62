-- Labels are those of one forest of derivations at most, and steps have one expansion.
use Rattle.std.proofs.Common.{rules, arith, ◌≡◌, ℕ, List, [], ◌∷◌, ◌++◌, sym, ◌∙◌, append-nil}
use Rattle.std.proofs.Common.{append_assoc}
use Rattle.mm_spec.specs.Derivation.{Context, Trees, none, more, postfix, AreDerivations}
use Rattle.mm_spec.specs.Steps.{Step, label, marked}
use Rattle.mm_spec.specs.Valid.{IsLastTree, Adds, Expands}
use Rattle.mm_spec.proofs.UniqueLaw.{same_labels_same_derivations}
use Rattle.mm_spec.proofs.StepsLaw.{forest_labels_are_good}
use Rattle.mm_spec.specs.Laws.Complete.{HasCompleteFrame}

module _ (c : Context) where
  -- the expansion only grows
  adds_at_end : (lists : List (List ℕ)) (labels : List ℕ) (s : Step) (new_labels : List ℕ)
      → Adds c lists labels s new_labels → (added : List ℕ) × (new_labels ≡ labels ++ added)
  adds_at_end lists labels (label l) new_labels adds = (l ∷ [], adds)
  adds_at_end lists labels (marked j) new_labels adds = (adds.1, adds.4)

  pub expansion_grows : (steps : List Step) (lists : List (List ℕ)) (labels all_labels : List ℕ)
      → Expands c lists labels steps all_labels → (added : List ℕ) × (all_labels ≡ labels ++ added)
  expansion_grows [] lists labels all_labels expands = ([], expands ∙ sym (append-nil labels))
  expansion_grows (s ∷ steps) lists labels all_labels expands =
      let rest = expansion_grows steps (lists ++ expands.0 ∷ []) expands.0 all_labels expands.2 in
      search (rules, arith, adds_at_end, append_assoc, rest)

module _ (c : Context) (all_complete : (l : ℕ) → HasCompleteFrame c (c.referent l)) where
  -- forests with the same labels are one forest
  pub same_labels_same_forest : (r s : Trees) → AreDerivations c r → AreDerivations c s
      → postfix r ≡ postfix s
      → r ≡ s
  same_labels_same_forest r s r_derives s_derives labels_equal =
      search (rules, arith, same_labels_same_derivations, forest_labels_are_good)

  last_trees_are_equal : (forest : Trees) (x y : List ℕ) → IsLastTree forest x → IsLastTree forest y
      → x ≡ y
  last_trees_are_equal none x y x_is_last y_is_last = absurd x_is_last
  last_trees_are_equal (more ts l f cs) x y x_is_last y_is_last = x_is_last ∙ sym y_is_last

  added_lists_are_equal : (lists : List (List ℕ)) (before : List ℕ) (s : Step) (a b : List ℕ)
      → Adds c lists before s a → Adds c lists before s b → a ≡ b
  added_lists_are_equal lists before (label l) a b adds_a adds_b = adds_a ∙ sym adds_b
  added_lists_are_equal lists before (marked j) a b adds_a adds_b =
      let marked_lists_equal : adds_a.0 ≡ adds_b.0 =
      cc in
      let forests_equal =
      same_labels_same_forest adds_a.3.0 adds_b.3.0 adds_a.3.1 adds_b.3.1
      (adds_a.3.2 ∙ marked_lists_equal ∙ sym adds_b.3.2) in
      search (rules, arith, last_trees_are_equal)

  pub expansions_are_equal : (steps : List Step) (lists : List (List ℕ)) (before a b : List ℕ)
      → Expands c lists before steps a → Expands c lists before steps b → a ≡ b
  expansions_are_equal [] lists before a b a_expands b_expands = a_expands ∙ sym b_expands
  expansions_are_equal (s ∷ steps) lists before a b a_expands b_expands =
      let next_lists_equal =
      added_lists_are_equal lists before s a_expands.0 b_expands.0 a_expands.1 b_expands.1 in
      expansions_are_equal steps (lists ++ b_expands.0 ∷ []) b_expands.0 a b
      (search (rules, arith)) b_expands.2
