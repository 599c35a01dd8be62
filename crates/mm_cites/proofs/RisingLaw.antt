-- Selections of numbers in order.
use Rattle.std.proofs.Common.{cond, ◌≡◌, ℕ, zero, suc, ◌+◌, ◌<◌, ◌≤◌, ◌^◌, Bool, true, false, List}
use Rattle.std.proofs.Common.{[], ◌∷◌, length, get_or, refl, arith}
use Rattle.std.specs.List.{range_with_len, filter}
use Rattle.mm_cites.specs.Citing.{IsStatementList}

-- each element of a selection passes the test
pub filtered_passes : (p : ℕ → Bool) (xs : List ℕ) (i d : ℕ) → i < length (filter p xs)
    → p (get_or (filter p xs) i d) ≡ true
filtered_passes p [] i d i_lt_length = absurd (omega arith)
filtered_passes p (x ∷ xs) i d i_lt_length = passes (p x) refl (filtered_passes p xs) i i_lt_length
  where
    passes : (a : Bool) → p x ≡ a
        → ((i d : ℕ) → i < length (filter p xs) → p (get_or (filter p xs) i d) ≡ true) → (i : ℕ)
        → i < length {A = ℕ} (cond a (x ∷ filter p xs) (filter p xs))
        → p (get_or (cond a (x ∷ filter p xs) (filter p xs)) i d) ≡ true
    passes true p_x_is_a rest_passes zero i_lt_length = p_x_is_a
    passes true p_x_is_a rest_passes (suc i) i_lt_length = rest_passes i d (omega arith)
    passes false p_x_is_a rest_passes i i_lt_length = rest_passes i d i_lt_length

-- a selection of the numbers below n, in order, is a statement list: each is above the one before
pub filtered_range_is_statement_list : (p : ℕ → Bool) (n : ℕ) → n < 2 ^ 31
    → IsStatementList (filter p (range_with_len 0 n))
filtered_range_is_statement_list p n n_lt_2_31 =
    record {
      count_lt_2_31 = let selection_le_n = selection_no_longer p n 0 in
          omega (arith, selection_le_n, n_lt_2_31);
      rises = λ i j i_lt_j j_lt_length. selection_rises p n 0 i j i_lt_j j_lt_length;
    }
  where
    selection_no_longer : (p : ℕ → Bool) (n a : ℕ) → length (filter p (range_with_len a n)) ≤ n
    selection_no_longer p zero a = omega arith
    selection_no_longer p (suc n) a = selection_le (p a) (selection_no_longer p n (a + 1))
      where
        selection_le : (b : Bool) → length (filter p (range_with_len (a + 1) n)) ≤ n
            → length {A = ℕ}
            (cond b (a ∷ filter p (range_with_len (a + 1) n)) (filter p (range_with_len (a + 1) n)))
            ≤ suc n
        selection_le true rest_le_n = omega (arith, rest_le_n)
        selection_le false rest_le_n = omega (arith, rest_le_n)

    start_le_selected : (p : ℕ → Bool) (n a i : ℕ) → i < length (filter p (range_with_len a n))
        → a ≤ get_or (filter p (range_with_len a n)) i 0
    start_le_selected p zero a i i_lt_length = absurd (omega arith)
    start_le_selected p (suc n) a i i_inside =
        start_le (p a) (start_le_selected p n (a + 1)) i i_inside
      where
        start_le : (b : Bool)
            → ((i : ℕ) → i < length (filter p (range_with_len (a + 1) n))
            → a + 1 ≤ get_or (filter p (range_with_len (a + 1) n)) i 0)
            → (i : ℕ)
            → i < length {A = ℕ}
            (cond b (a ∷ filter p (range_with_len (a + 1) n)) (filter p (range_with_len (a + 1) n)))
            → a ≤ get_or {A = ℕ}
            (cond b (a ∷ filter p (range_with_len (a + 1) n))
            (filter p (range_with_len (a + 1) n))) i 0
        start_le true next_le_selected zero i_inside = omega arith
        start_le true next_le_selected (suc i) i_inside = let next_le =
            next_le_selected i (omega arith) in omega (arith, next_le)
        start_le false next_le_selected i i_inside = let next_le = next_le_selected i i_inside in
            omega (arith, next_le)

    selection_rises : (p : ℕ → Bool) (n a i j : ℕ) → i < j
        → j < length (filter p (range_with_len a n))
        → get_or (filter p (range_with_len a n)) i 0 < get_or (filter p (range_with_len a n)) j 0
    selection_rises p zero a i j i_lt_j j_lt_length = absurd (omega arith)
    selection_rises p (suc n) a i j i_below_j j_inside =
        ascends (p a) (selection_rises p n (a + 1)) (start_le_selected p n (a + 1)) i j i_below_j
        j_inside
      where
        ascends : (b : Bool)
            → ((i j : ℕ) → i < j → j < length (filter p (range_with_len (a + 1) n))
            → get_or (filter p (range_with_len (a + 1) n)) i 0
            < get_or (filter p (range_with_len (a + 1) n)) j 0)
            → ((i : ℕ) → i < length (filter p (range_with_len (a + 1) n))
            → a + 1 ≤ get_or (filter p (range_with_len (a + 1) n)) i 0)
            → (i j : ℕ) → i < j
            → j < length {A = ℕ}
            (cond b (a ∷ filter p (range_with_len (a + 1) n)) (filter p (range_with_len (a + 1) n)))
            → get_or {A = ℕ}
            (cond b (a ∷ filter p (range_with_len (a + 1) n))
            (filter p (range_with_len (a + 1) n))) i 0
            < get_or {A = ℕ}
            (cond b (a ∷ filter p (range_with_len (a + 1) n))
            (filter p (range_with_len (a + 1) n))) j 0
        ascends true rest_rises next_le_selected zero zero i_below_j j_inside = absurd (omega arith)
        ascends true rest_rises next_le_selected zero (suc j) i_below_j j_inside = let next_le =
            next_le_selected j (omega arith) in
            omega (arith, next_le)
        ascends true rest_rises next_le_selected (suc i) zero i_below_j j_inside =
            absurd (omega arith)
        ascends true rest_rises next_le_selected (suc i) (suc j) i_below_j j_inside =
            rest_rises i j (omega arith) (omega arith)
        ascends false rest_rises next_le_selected i j i_below_j j_inside =
            rest_rises i j i_below_j j_inside
