-- What a proof cites is earlier than its theorem, and a theorem has one proof at most.
use Rattle.std.proofs.Common.{rules, ◌≡◌, ℕ, ◌==◌, ◌<◌, Bool, true, false, ◌||◌, ◌⊎◌, inl, inr}
use Rattle.std.proofs.Common.{List, [], ◌∷◌, ◌++◌, None, arith, eqb-true, length-append}
use Rattle.std.proofs.lemmas.Grind.{common_steps}
use Rattle.std.proofs.lemmas.Bool.{or_cases}
use Rattle.std.proofs.lemmas.List.Folds.{list_any-append}
use Rattle.mm_spec.specs.Statement.{Statement}
use Rattle.mm_spec.specs.Derivation.{Context, Trees, none, more, postfix, AreDerivations, is_member}
use Rattle.mm_spec.specs.Citation.{steps_at, IsProof, Cites}
use Rattle.mm_spec.specs.Laws.Complete.{AreComplete}
use Rattle.mm_spec.specs.Output.{is_theorem_at}
use Rattle.mm_spec.proofs.BoolLaw.{passes_alone}
use Rattle.mm_spec.proofs.CheckedLaw.{same_labels_same_forest, expansions_are_equal}
use Rattle.mm_spec.proofs.FindsLaw.{active_lt_place}
use Rattle.mm_spec.proofs.NodesLaw.{node_label_is_member}

member_append : (xs ys : List ℕ) (a : ℕ)
    → is_member (xs ++ ys) a ≡ (is_member xs a || is_member ys a)
member_append xs ys a = list_any-append (λ y. a == y) xs ys

-- a label of a derivation refers to something
no_label_without_referent : (c : Context) (a : ℕ) (forest : Trees) → AreDerivations c forest
    → is_member (postfix forest) a ≡ true → c.referent a ≡ None → ⊥
no_label_without_referent c a none are_derivations a_is_label no_referent = cc
no_label_without_referent c a (more ts l f cs) are_derivations a_is_label no_referent =
    not_in_earlier_nor_last
    (search (rules, arith, or_cases, member_append))
    (λ is_label_there. no_label_without_referent c a ts are_derivations.0 is_label_there
    no_referent)
    (λ is_label_there. no_label_without_referent c a cs are_derivations.1 is_label_there
    no_referent)
  where
    not_the_root : (a == l) ≡ true → ⊥
    not_the_root is_root =
        search (rules, arith, eqb-true)

    not_in_children_nor_root : (is_member (postfix cs) a ≡ true) ⊎ (((a == l) || false) ≡ true)
        → (is_member (postfix cs) a ≡ true → ⊥) → ⊥
    not_in_children_nor_root (inl is_in_place) not_in_children = not_in_children is_in_place
    not_in_children_nor_root (inr is_in_place) not_in_children =
        not_the_root (passes_alone (a == l) is_in_place)

    not_in_earlier_nor_last : (is_member (postfix ts) a ≡ true)
        ⊎ (is_member (postfix cs ++ l ∷ []) a ≡ true)
        → (is_member (postfix ts) a ≡ true → ⊥) → (is_member (postfix cs) a ≡ true → ⊥) → ⊥
    not_in_earlier_nor_last (inl is_in_place) not_earlier not_in_children = not_earlier is_in_place
    not_in_earlier_nor_last (inr is_in_place) not_earlier not_in_children =
        search (rules, arith, not_in_children_nor_root, or_cases, member_append)

module _ (db : List Statement) where
  -- a label of a theorem's proof is that of an earlier statement
  pub label_lt_theorem : (t a : ℕ) (d : Trees) → IsProof db t d → is_member (postfix d) a ≡ true
      → a < t
  label_lt_theorem t a d is_proof a_is_label =
      grind (arith, common_steps, active_lt_place, no_label_without_referent)

  -- what a theorem cites is earlier
  pub cited_lt_theorem : (by_essential : Bool) (t a : ℕ) → Cites db by_essential t a → a < t
  cited_lt_theorem by_essential t a cites =
      search (rules, arith, label_lt_theorem, node_label_is_member)

  no_proof_without_steps : (t : ℕ) (d : Trees) → steps_at db t ≡ [] → IsProof db t d → ⊥
  no_proof_without_steps t d steps_are_empty is_proof = grind (arith, common_steps, length-append)

  -- what has a proof is a theorem
  pub proved_is_theorem : (t : ℕ) (d : Trees) → IsProof db t d → is_theorem_at db t ≡ true
  proved_is_theorem t d is_proof = grind (arith, common_steps, no_proof_without_steps)

-- a theorem has one proof at most
pub two_proofs_are_equal : (db : List Statement) → AreComplete db → (t : ℕ) (d e : Trees)
    → IsProof db t d
    → IsProof db t e → d ≡ e
two_proofs_are_equal db all_complete t d e d_is_proof e_is_proof =
    grind (arith, common_steps, expansions_are_equal, same_labels_same_forest)
