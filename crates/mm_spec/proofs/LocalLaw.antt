-- What is before a statement does not depend on what comes after it.
use Rattle.std.proofs.Common.{rules, ◌≡◌, ℕ, zero, suc, ◌+◌, ◌-◌, ◌≤◌, ◌<◌, Bool, List, [], ◌∷◌}
use Rattle.std.proofs.Common.{◌++◌, length, Some, flat_map, slice_get, nat_le, refl, arith}
use Rattle.std.proofs.lemmas.Grind.{common_steps}
use Rattle.std.proofs.lemmas.List.{take-append-le}
use Rattle.std.specs.List.{list_all, range_with_len, filter}
use Rattle.mm_spec.specs.Statement.{Statement}
use Rattle.mm_spec.specs.Scope.{names_before, depth, is_block_open, active_at, active_statements}
use Rattle.mm_spec.specs.Lawful.{scope_fault, scope_faults, least}

pub get_front : {X : Type 0} (xs ys : List X) (i : ℕ) → i < length xs
    → slice_get (xs ++ ys) i ≡ slice_get xs i
get_front [] ys i i_lt_length = absurd (omega arith)
get_front (x ∷ xs) ys zero i_lt_length = refl
get_front (x ∷ xs) ys (suc i) i_lt_length = get_front xs ys i (omega arith)

pub get_at_seam : {X : Type 0} (xs : List X) (y : X) (ys : List X)
    → slice_get (xs ++ y ∷ ys) (length xs) ≡ Some y
get_at_seam [] y ys = refl
get_at_seam (x ∷ xs) y ys = get_at_seam xs y ys

list_all_alike : (d e : ℕ) (f g : ℕ → ℕ) (n a : ℕ) → d ≡ e → ((i : ℕ) → i < a + n → f i ≡ g i)
    → list_all (λ i. nat_le d (f i)) (range_with_len a n)
    ≡ list_all (λ i. nat_le e (g i)) (range_with_len a n)
list_all_alike d e f g zero a d_eq_e values_equal = refl
list_all_alike d e f g (suc n) a d_eq_e values_equal =
    let equal_later = λ (i : ℕ) (lt : i < (a + 1) + n). values_equal i (omega arith) in
    grind (arith, list_all_alike d e f g n (a + 1) d_eq_e equal_later)

filter_alike : {X : Type 0} (p q : ℕ → Bool) (f g : ℕ → List X) (n a : ℕ)
    → ((i : ℕ) → i < a + n → p i ≡ q i) → ((i : ℕ) → i < a + n → f i ≡ g i)
    → flat_map f (filter p (range_with_len a n)) ≡ flat_map g (filter q (range_with_len a n))
filter_alike p q f g zero a tests_equal values_equal = refl
filter_alike p q f g (suc n) a tests_equal values_equal =
    let same_tests = λ (i : ℕ) (lt : i < (a + 1) + n). tests_equal i (omega arith) in
    let same_values = λ (i : ℕ) (lt : i < (a + 1) + n). values_equal i (omega arith) in
    grind (arith, filter_alike p q f g n (a + 1) same_tests same_values)

module _ (db later : List Statement) where
  pub depth_front : (i : ℕ) → i ≤ length db → depth (db ++ later) i ≡ depth db i
  depth_front i i_le_length = grind (arith, common_steps, take-append-le)

  pub is_block_open_front : (j k : ℕ) → j < k → k ≤ length db
      → is_block_open (db ++ later) j k ≡ is_block_open db j k
  is_block_open_front j k j_lt_k k_le_length =
      list_all_alike (depth (db ++ later) j) (depth db j) (depth (db ++ later)) (depth db) (k - j)
      (j + 1)
      (depth_front j (omega arith)) (λ i i_lt_end. depth_front i (omega arith))

  is_active_front : (j k : ℕ) → j < k → k ≤ length db
      → active_at (db ++ later) j k ≡ active_at db j k
  is_active_front j k j_lt_k k_le_length =
      search (rules, arith, get_front, is_block_open_front)

  active_front : (k : ℕ) → k ≤ length db
      → active_statements (db ++ later) k ≡ active_statements db k
  active_front k k_le_length = grind (arith, common_steps, get_front, is_active_front, filter_alike)

  pub names_front : (k : ℕ) → k ≤ length db → names_before (db ++ later) k ≡ names_before db k
  names_front k k_le_length = grind (arith, common_steps, active_front, take-append-le)

  -- the fault of an earlier statement
  pub scope_fault_front : (k : ℕ) → k < length db → scope_fault (db ++ later) k ≡ scope_fault db k
  scope_fault_front k k_lt_length = grind (arith, common_steps, depth_front, get_front, names_front)

-- the fault of the next statement
pub scope_fault_of_next : (db : List Statement) (s : Statement) (later : List Statement)
    → scope_fault (db ++ s ∷ later) (length db)
    ≡ least (scope_faults (names_before db (length db)) (depth db (length db)) s)
scope_fault_of_next db s later = grind (arith, common_steps, depth_front, get_at_seam, names_front)
