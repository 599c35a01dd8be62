-- The indices of the first `$f` of variables.
use Rattle.std.proofs.Common.{◌≡◌, ◌≢◌, ℕ, suc, ◌+◌, ◌-◌, ◌<◌, Bool, true, false, ◌||◌, List, []}
use Rattle.std.proofs.Common.{◌∷◌, length, get_or, cond, refl, sym, arith, true≢false}
use Rattle.std.specs.List.{list_any}
use Rattle.mm_spec.specs.Derivation.{Formula}
use Rattle.mm_spec.specs.Laws.Complete.{binds, IsBound, variables_context}
use Rattle.mm_spec.specs.Laws.Stack.{substitution_from, tail}
use Rattle.mm_spec.specs.Statement.{Statement}
use Rattle.mm_spec.specs.Citation.{context_at}
use Rattle.mm_rule.specs.Rule.{floating_index}

module _ (db : List Statement) where
  -- a variable that is bound has the index of a hypothesis
  pub floating_index_lt_length : (hs : List Formula) (x : ℕ) → IsBound (variables_context db) hs x
      → floating_index db hs x < length hs
  floating_index_lt_length [] x x_is_bound = absurd (true≢false (sym x_is_bound))
  floating_index_lt_length (h ∷ hs) x x_is_bound =
      first_lt_length (binds (variables_context db) x h) x_is_bound (floating_index_lt_length hs x)
    where
      first_lt_length : (v : Bool) → (v || list_any (binds (variables_context db) x) hs) ≡ true
          → (IsBound (variables_context db) hs x → floating_index db hs x < length hs)
          → cond v 0 (suc (floating_index db hs x)) < suc (length hs)
      first_lt_length true bound_here_or_in_rest rest_lt_length = omega arith
      first_lt_length false bound_here_or_in_rest rest_lt_length = let index_lt_length =
          rest_lt_length bound_here_or_in_rest in omega (arith, index_lt_length)

  -- what is found for a variable is what the premise of its first `$f` has after the typecode
  pub substitution_is_tail_at_index : (t : ℕ) (hs ps : List Formula) (x : ℕ) → length ps ≡ length hs
      → IsBound (variables_context db) hs x
      → substitution_from (context_at db t) hs ps x ≡ tail (get_or ps (floating_index db hs x) [])
  substitution_is_tail_at_index t [] ps x lengths_equal x_is_bound =
      absurd (true≢false (sym x_is_bound))
  substitution_is_tail_at_index t (h ∷ hs) [] x lengths_equal x_is_bound =
      absurd (omega (arith, lengths_equal))
  substitution_is_tail_at_index t (h ∷ hs) (p ∷ ps) x lengths_equal x_is_bound =
      tail_is_found (binds (variables_context db) x h) x_is_bound
      (substitution_is_tail_at_index t hs ps x (omega (arith, lengths_equal)))
    where
      tail_is_found : (v : Bool) → (v || list_any (binds (variables_context db) x) hs) ≡ true
          → (IsBound (variables_context db) hs x → substitution_from (context_at db t) hs ps x
          ≡ tail (get_or ps (floating_index db hs x) []))
          → elim v [ true ↦ tail p | false ↦ substitution_from (context_at db t) hs ps x ]
          ≡ tail (get_or (p ∷ ps) (cond v 0 (suc (floating_index db hs x))) [])
      tail_is_found true bound_here_or_in_rest rest_is_tail = refl
      tail_is_found false bound_here_or_in_rest rest_is_tail = rest_is_tail bound_here_or_in_rest

  -- the list has the index of the first `$f` of each variable, where `hs` are the hypotheses from
  -- index n on
  abbrev pub AreIndicesFrom : ℕ → List Formula → List ℕ → Type 0
  AreIndicesFrom n hs indices =
      (x : ℕ) → IsBound (variables_context db) hs x
      → get_or indices x 0 ≡ n + floating_index db hs x
