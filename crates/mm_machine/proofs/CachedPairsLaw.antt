-- The pairs of the cache are disjoint, in whichever order their symbols come.
use Rattle.std.proofs.Common.{◌≡◌, ℕ, ◌⊎◌, inl, inr, true, List, sym, subst}
use Rattle.std.proofs.lemmas.List.Elements.{All-push}
use Rattle.mm_spec.specs.Statement.{Statement}
use Rattle.mm_spec.specs.Derivation.{are_disjoint}
use Rattle.mm_spec.specs.Citation.{context_at}
use Rattle.mm_rule.proofs.DisjointLaw.{are_disjoint_symmetric}
use Rattle.mm_machine.specs.DisjointCache.{ArePairsDisjointAt, HasPair, MayInsertPair}

module _ (db : List Statement) (t : ℕ) (ps : List (ℕ × ℕ)) (pairs_are_disjoint : ArePairsDisjointAt
    db t ps) where
  abbrev Disjoint : ℕ → ℕ → Type 0
  Disjoint a b = are_disjoint (context_at db t) a b ≡ true

  pair_of_cache_is_disjoint : (a b : ℕ) → HasPair ps a b → Disjoint a b
  pair_of_cache_is_disjoint a b pair_is_there =
      subst (λ x. Disjoint x b) pair_is_there.2 (subst (Disjoint _) pair_is_there.3
      (pairs_are_disjoint pair_is_there.0 (a, b) pair_is_there.1))

  pub either_disjoint : (a b : ℕ) → HasPair ps a b ⊎ HasPair ps b a → Disjoint a b
  either_disjoint a b (inl pair_is_there) = pair_of_cache_is_disjoint a b pair_is_there
  either_disjoint a b (inr pair_is_there) = are_disjoint_symmetric db t b a
      (pair_of_cache_is_disjoint b a pair_is_there)

  pub insert_keeps_disjoint : (a b : ℕ) (qs : List (ℕ × ℕ)) → Disjoint a b → MayInsertPair ps a b qs
      → ArePairsDisjointAt db t qs
  insert_keeps_disjoint a b qs is_disjoint (inl qs_are) =
      subst (ArePairsDisjointAt db t) (sym qs_are) pairs_are_disjoint
  insert_keeps_disjoint a b qs is_disjoint (inr qs_are) =
      subst (ArePairsDisjointAt db t) (sym qs_are) (All-push (λ (p : ℕ × ℕ). are_disjoint
      (context_at db t) p.0 p.1 ≡ true) ps (a, b) pairs_are_disjoint is_disjoint)

  pub either_insert_keeps_disjoint : (a b : ℕ) (qs : List (ℕ × ℕ)) → Disjoint a b
      → MayInsertPair ps a b qs ⊎ MayInsertPair ps b a qs → ArePairsDisjointAt db t qs
  either_insert_keeps_disjoint a b qs is_disjoint (inl inserted) = insert_keeps_disjoint a b qs
      is_disjoint inserted
  either_insert_keeps_disjoint a b qs is_disjoint (inr inserted) =
      insert_keeps_disjoint b a qs (are_disjoint_symmetric db t a b is_disjoint) inserted
