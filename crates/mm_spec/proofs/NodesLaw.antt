-- Nodes that count, as members of lists of labels.
use Rattle.std.proofs.Common.{rules, arith, ◌≡◌, ℕ, ◌==◌, Bool, true, false, ◌⊎◌, inl, inr, ◌↔◌}
use Rattle.std.proofs.Common.{List, [], ◌∷◌, ◌++◌, refl, sym, ◌∙◌, subst, true≢false, eqb-true}
use Rattle.std.proofs.Common.{eq-eqb}
use Rattle.std.proofs.lemmas.Bool.Decides.{nat_tests}
use Rattle.std.proofs.lemmas.Grind.{common_steps}
use Rattle.std.proofs.lemmas.Bool.{or_cases, or_left, or_right}
use Rattle.std.proofs.lemmas.List.Folds.{list_any-append}
use Rattle.mm_spec.specs.Statement.{Statement}
use Rattle.mm_spec.specs.Derivation.{Trees, none, more, postfix, is_member}
use Rattle.mm_spec.specs.Nodes.{tree_count, HasNode, each_root, IsNodeLabel}
use Rattle.mm_spec.proofs.BoolLaw.{passes_alone}

-- ---- where each child counts, the labels are those of all nodes

-- each node that counts is a node
pub node_is_member : (counts : ℕ → ℕ → Bool) (root_counts : ℕ → Bool) (ts : Trees) (a : ℕ)
    → HasNode counts root_counts ts a → is_member (postfix ts) a ≡ true
node_is_member counts root_counts none a has_node = absurd has_node
node_is_member counts root_counts (more ts l f cs) a (inl has_node) =
    let earlier = node_is_member counts root_counts ts a has_node in
    grind (arith, common_steps, list_any-append, or_left)
node_is_member counts root_counts (more ts l f cs) a (inr (root_counts_last, inl is_root)) =
    grind (arith, common_steps, eq-eqb, list_any-append, or_left, or_right)
node_is_member counts root_counts (more ts l f cs) a (inr (root_counts_last, inr has_node)) =
    let below = node_is_member counts (counts l) cs a has_node in
    grind (arith, common_steps, list_any-append, or_left, or_right)

member_has_node : (ts : Trees) (a : ℕ) → is_member (postfix ts) a ≡ true
    → HasNode (λ l. each_root) each_root ts a
member_has_node none a is_label = absurd (true≢false (sym is_label))
member_has_node (more ts l f cs) a is_label =
    node_in_earlier_or_last
    (search (rules, arith, or_cases, list_any-append))
    (λ is_there. member_has_node ts a is_there) (λ is_there. member_has_node cs a is_there)
  where
    node_in_children_or_root : (is_member (postfix cs) a ≡ true) ⊎ (is_member (l ∷ []) a ≡ true)
        → (is_member (postfix cs) a ≡ true → HasNode (λ l. each_root) each_root cs a)
        → HasNode (λ l. each_root) each_root (more ts l f cs) a
    node_in_children_or_root (inl is_there) node_in_children =
        inr (refl, inr (node_in_children is_there))
    node_in_children_or_root (inr is_there) node_in_children =
        inr (refl, inl (eqb-true a l (passes_alone (a == l) is_there)))

    node_in_earlier_or_last : (is_member (postfix ts) a ≡ true)
        ⊎ (is_member (postfix cs ++ l ∷ []) a ≡ true)
        → (is_member (postfix ts) a ≡ true → HasNode (λ l. each_root) each_root ts a)
        → (is_member (postfix cs) a ≡ true → HasNode (λ l. each_root) each_root cs a)
        → HasNode (λ l. each_root) each_root (more ts l f cs) a
    node_in_earlier_or_last (inl is_there) node_earlier node_in_children =
        inl (node_earlier is_there)
    node_in_earlier_or_last (inr is_there) node_earlier node_in_children =
        search (rules, arith, node_in_children_or_root, or_cases, list_any-append)

-- ---- the labels as a list

abbrev pub node_labels : (ℕ → ℕ → Bool) → (ℕ → Bool) → Trees → List ℕ
node_labels counts root_counts none = []
node_labels counts root_counts (more ts l f cs) =
    node_labels counts root_counts ts
    ++ elim (root_counts (tree_count ts)) [
      | true ↦ l
          ∷ node_labels counts (counts l) cs
      | false ↦ []
    ]

node_is_listed : (counts : ℕ → ℕ → Bool) (root_counts : ℕ → Bool) (ts : Trees) (a : ℕ)
    → HasNode counts root_counts ts a → is_member (node_labels counts root_counts ts) a ≡ true
node_is_listed counts root_counts none a has_node = absurd has_node
node_is_listed counts root_counts (more ts l f cs) a (inl has_node) =
    let earlier = node_is_listed counts root_counts ts a has_node in
    grind (arith, common_steps, list_any-append, or_left)
node_is_listed counts root_counts (more ts l f cs) a (inr (root_counts_last, has_node)) =
    list_any-append (λ y. a == y) (node_labels counts root_counts ts) _
    ∙ or_right (is_member (node_labels counts root_counts ts) a) _
    (subst (λ b. is_member
    (elim b [ true ↦ l ∷ node_labels counts (counts l) cs | false ↦ [] ]) a
    ≡ true) (sym root_counts_last)
    (listed_at_root_or_below has_node (λ is_below. node_is_listed counts (counts l) cs a is_below)))
  where
    listed_at_root_or_below : (a ≡ l) ⊎ HasNode counts (counts l) cs a
        → (HasNode counts (counts l) cs a → is_member (node_labels counts (counts l) cs) a ≡ true)
        → is_member (l ∷ node_labels counts (counts l) cs) a ≡ true
    listed_at_root_or_below (inl is_root) listed_below =
        search (rules, arith, or_left, eq-eqb)
    listed_at_root_or_below (inr is_below) listed_below =
        search (rules, arith, or_right)

listed_has_node : (counts : ℕ → ℕ → Bool) (root_counts : ℕ → Bool) (ts : Trees) (a : ℕ)
    → is_member (node_labels counts root_counts ts) a ≡ true → HasNode counts root_counts ts a
listed_has_node counts root_counts none a is_listed = absurd (true≢false (sym is_listed))
listed_has_node counts root_counts (more ts l f cs) a is_listed =
    node_in_earlier_or_last
    (search (rules, arith, or_cases, labels_of_last, list_any-append))
    (λ is_listed_there. listed_has_node counts root_counts ts a is_listed_there)
    (λ is_listed_there. listed_has_node counts (counts l) cs a is_listed_there)
  where
    labels_of_last : Bool → List ℕ
    labels_of_last b = elim b [ true ↦ l ∷ node_labels counts (counts l) cs | false ↦ [] ]

    node_in_last : (b : Bool) → root_counts (tree_count ts) ≡ b
        → is_member (labels_of_last b) a ≡ true
        → (is_member (node_labels counts (counts l) cs) a ≡ true → HasNode counts (counts l) cs a)
        → HasNode counts root_counts (more ts l f cs) a
    node_in_last false root_counts_is is_listed node_below = absurd (true≢false (sym is_listed))
    node_in_last true root_counts_is is_listed node_below =
        search (rules, arith, root_or_node_below, or_cases)
      where
        root_or_node_below : ((a == l) ≡ true)
            ⊎ (is_member (node_labels counts (counts l) cs) a ≡ true)
            → (a ≡ l) ⊎ HasNode counts (counts l) cs a
        root_or_node_below (inl is_there) = inl (eqb-true a l is_there)
        root_or_node_below (inr is_there) = inr (node_below is_there)

    node_in_earlier_or_last : (is_member (node_labels counts root_counts ts) a ≡ true)
        ⊎ (is_member (labels_of_last (root_counts (tree_count ts))) a ≡ true)
        → (is_member (node_labels counts root_counts ts) a ≡ true → HasNode counts root_counts ts a)
        → (is_member (node_labels counts (counts l) cs) a ≡ true → HasNode counts (counts l) cs a)
        → HasNode counts root_counts (more ts l f cs) a
    node_in_earlier_or_last (inl is_listed) node_earlier node_below = inl (node_earlier is_listed)
    node_in_earlier_or_last (inr is_listed) node_earlier node_below =
        search (rules, arith, node_in_last)

-- there is such a node exactly if its label is in the list of the labels of such nodes
pub node_iff_listed : (counts : ℕ → ℕ → Bool) (root_counts : ℕ → Bool) (ts : Trees) (a : ℕ)
    → HasNode counts root_counts ts a ↔ (is_member (node_labels counts root_counts ts) a ≡ true)
node_iff_listed counts root_counts ts a = grind (arith, nat_tests, node_is_listed, listed_has_node)

-- ---- of a proof

-- an essential node is a node
pub node_label_is_member : (db : List Statement) (essential : Bool) (d : Trees) (a : ℕ)
    → IsNodeLabel db essential d a → is_member (postfix d) a ≡ true
node_label_is_member db essential d a is_node_label = grind (arith, common_steps, node_is_member)

-- without the flag each label counts
pub node_label_iff_member : (db : List Statement) (d : Trees) (a : ℕ)
    → IsNodeLabel db false d a ↔ (is_member (postfix d) a ≡ true)
node_label_iff_member db d a = (node_label_is_member db false d a, member_has_node d a)
