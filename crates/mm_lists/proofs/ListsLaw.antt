-- Lists one after the other.
use Rattle.std.proofs.Common.{◌≡◌, ℕ, zero, suc, ◌+◌, ◌-◌, ◌<◌, ◌≤◌, List, [], ◌∷◌, ◌++◌, length}
use Rattle.std.proofs.Common.{take, drop, map, get_or, slice_range, refl, sym, ap, ap₂, ◌∙◌, subst}
use Rattle.std.proofs.Common.{arith, take_all, length-append}
use Rattle.std.specs.List.{sum_by}
use Rattle.std.proofs.lemmas.List.{take-append-le, length-drop, length-take-le}
use Rattle.std.proofs.lemmas.List.Sums.{sum_by-cons}
use Rattle.std.proofs.lemmas.Grind.{get_or_default_zero}
use Rattle.std.proofs.Math.Seq.{take-add, drop-drop, take-length}
use Rattle.mm_lists.specs.Lists.{joined, cut, cut_at, with_end, AreEnds, AreBounds, AreJoined}

-- what stands between two bounds
pub record IsPart {X : Type 0} (all : List X) (from to : ℕ) (part : List X) : Type 0 where
  pub from_le_to : from ≤ to
  pub to_le_length : to ≤ length all
  pub range_is_part : slice_range all from to ≡ part

-- ---- the bounds are within the one list, in order

from_le_last_end : (from : ℕ) (ends : List ℕ) (len : ℕ) → AreEnds from ends len → from ≤ len
from_le_last_end from [] len are_ends = omega (arith, are_ends)
from_le_last_end from (e ∷ ends) len are_ends =
    let from_le_end = are_ends.0 in let end_le_len = from_le_last_end e ends len are_ends.1 in
    omega (arith, from_le_end, end_le_len)

bound_le_len : (from : ℕ) (ends : List ℕ) (len i : ℕ) → AreEnds from ends len → i ≤ length ends
    → get_or (from ∷ ends) i 0 ≤ len
bound_le_len from ends len zero are_ends i_le_count = from_le_last_end from ends len are_ends
bound_le_len from [] len (suc i) are_ends i_le_count = absurd (omega arith)
bound_le_len from (e ∷ ends) len (suc i) are_ends i_le_count =
    bound_le_len e ends len i are_ends.1 (omega arith)

bounds_are_sorted : (from : ℕ) (ends : List ℕ) (len i j : ℕ) → AreEnds from ends len → i ≤ j
    → j ≤ length ends → get_or (from ∷ ends) i 0 ≤ get_or (from ∷ ends) j 0
bounds_are_sorted from ends len zero zero are_ends i_le_j j_le_count = omega arith
bounds_are_sorted from [] len i (suc j) are_ends i_le_j j_le_count = absurd (omega arith)
bounds_are_sorted from (e ∷ ends) len zero (suc j) are_ends i_le_j j_le_count =
    let from_le_end = are_ends.0 in
    let end_le_later = bounds_are_sorted e ends len 0 j are_ends.1 (omega arith) (omega arith) in
    omega (arith, from_le_end, end_le_later)
bounds_are_sorted from ends len (suc i) zero are_ends i_le_j j_le_count = absurd (omega arith)
bounds_are_sorted from (e ∷ ends) len (suc i) (suc j) are_ends i_le_j j_le_count =
    bounds_are_sorted e ends len i j are_ends.1 (omega arith) (omega arith)

-- ends of lists stay such with the end of one list more
ends_with_one_more : (from : ℕ) (ends : List ℕ) (len added_length : ℕ) → AreEnds from ends len
    → AreEnds from (ends ++ (len + added_length) ∷ []) (len + added_length)
ends_with_one_more from [] len added_length are_ends = (omega (arith, are_ends), refl)
ends_with_one_more from (e ∷ ends) len added_length are_ends =
    (are_ends.0, ends_with_one_more e ends len added_length are_ends.1)

module _ {X : Type 0} where
  length_cut : (from : ℕ) (ends : List ℕ) (all : List X)
      → length (cut_at from ends all) ≡ length ends
  length_cut from [] all = refl
  length_cut from (e ∷ ends) all = ap suc (length_cut e ends all)

  -- ---- one of the lists, and those between two

  range_is_list : (from : ℕ) (ends : List ℕ) (all : List X) (i : ℕ) → i < length ends
      → slice_range all (get_or (from ∷ ends) i 0) (get_or ends i 0)
      ≡ get_or (cut_at from ends all) i []
  range_is_list from [] all i i_lt_count = absurd (omega arith)
  range_is_list from (e ∷ ends) all zero i_lt_count = refl
  range_is_list from (e ∷ ends) all (suc i) i_lt_count = range_is_list e ends all i (omega arith)

  range_split : (all : List X) (a b c : ℕ) → a ≤ b → b ≤ c
      → slice_range all a c ≡ slice_range all a b ++ slice_range all b c
  range_split all a b c a_le_b b_le_c =
      let lengths_add : c - a ≡ (b - a) + (c - b) = omega arith in
      let b_after_a : a + (b - a) ≡ b = omega arith in
      ap (λ n. take n (drop a all)) lengths_add ∙ take-add (b - a) (c - b) (drop a all)
      ∙ ap (λ l. slice_range all a b ++ take (c - b) l)
      (drop-drop (b - a) a all ∙ ap (λ n. drop n all) b_after_a)

  empty_range : (xs : List X) (a b : ℕ) → b ≤ a → slice_range xs a b ≡ []
  empty_range xs a b b_le_a =
      let length_is_zero : b - a ≡ 0 = omega arith in ap (λ n. take n (drop a xs)) length_is_zero

  range_is_joined_lists : (from : ℕ) (ends : List ℕ) (all : List X) (i j : ℕ)
      → AreEnds from ends (length all) → i ≤ j → j ≤ length ends
      → slice_range all (get_or (from ∷ ends) i 0) (get_or (from ∷ ends) j 0)
      ≡ joined (slice_range (cut_at from ends all) i j)
  range_is_joined_lists from ends all zero zero are_ends i_le_j j_le_count =
      empty_range all from from (omega arith)
  range_is_joined_lists from [] all i (suc j) are_ends i_le_j j_le_count = absurd (omega arith)
  range_is_joined_lists from (e ∷ ends) all zero (suc j) are_ends i_le_j j_le_count =
      let differences_equal : suc j - 0 ≡ suc (j - 0) = omega arith in
      range_split all from e (get_or (e ∷ ends) j 0) are_ends.0
      (bounds_are_sorted e ends (length all) 0 j are_ends.1 (omega arith) (omega arith))
      ∙ ap (λ l. slice_range all from e ++ l)
      (range_is_joined_lists e ends all 0 j are_ends.1 (omega arith) (omega arith))
      ∙ sym (ap (λ n. joined (take n (cut_at from (e ∷ ends) all))) differences_equal)
  range_is_joined_lists from ends all (suc i) zero are_ends i_le_j j_le_count = absurd (omega arith)
  range_is_joined_lists from (e ∷ ends) all (suc i) (suc j) are_ends i_le_j j_le_count =
      let differences_equal : suc j - suc i ≡ j - i = omega arith in
      range_is_joined_lists e ends all i j are_ends.1 (omega arith) (omega arith)
      ∙ sym (ap (λ n. joined (take n (drop i (cut_at e ends all)))) differences_equal)

  -- there is a list for each bound but the first
  pub count_is_bounds : (bounds : List ℕ) (all : List X) (lists : List (List X))
      → cut bounds all ≡ lists → length bounds - 1 ≡ length lists
  count_is_bounds [] all lists cut_is_lists = ap length cut_is_lists
  count_is_bounds (from ∷ ends) all lists cut_is_lists =
      let counts_equal = ap length cut_is_lists in let count_is_ends = length_cut from ends all in
      omega (arith, counts_equal, count_is_ends)

  pub next_bound_exists : (bounds : List ℕ) (all : List X) (lists : List (List X))
      → cut bounds all ≡ lists → (i : ℕ) → i < length lists → i + 1 < length bounds
  next_bound_exists [] all lists cut_is_lists i i_lt_count =
      let counts_equal = ap length cut_is_lists in absurd (omega (arith, counts_equal, i_lt_count))
  next_bound_exists (from ∷ ends) all lists cut_is_lists i i_lt_count =
      let counts_equal = ap length cut_is_lists in let count_is_ends = length_cut from ends all in
      omega (arith, counts_equal, count_is_ends, i_lt_count)

  pub list_is_part : (bounds : List ℕ) (all : List X) (lists : List (List X))
      → AreBounds bounds (length all) → cut bounds all ≡ lists → (i from to : ℕ)
      → i < length lists → from ≡ get_or bounds i from → to ≡ get_or bounds (i + 1) to
      → IsPart all from to (get_or lists i [])
  list_is_part [] all lists are_bounds cut_is_lists i from to i_lt_count is_from is_to =
      let counts_equal = ap length cut_is_lists in absurd (omega (arith, counts_equal, i_lt_count))
  list_is_part (first ∷ ends) all lists are_bounds cut_is_lists i from to i_lt_count is_from is_to =
      let next_in_bounds = next_bound_exists (first ∷ ends) all lists cut_is_lists i i_lt_count in
      let from_is_bound : from ≡ get_or (first ∷ ends) i 0 =
      is_from ∙ get_or_default_zero (first ∷ ends) i from (omega (arith, next_in_bounds)) in
      let next_is_suc : i + 1 ≡ suc i = omega arith in
      let to_is_end : to ≡ get_or ends i 0 =
      is_to ∙ get_or_default_zero (first ∷ ends) (i + 1) to next_in_bounds
      ∙ ap (λ n. get_or (first ∷ ends) n 0) next_is_suc in
      record {
        from_le_to =
            let bound_in_range =
            bounds_are_sorted first ends (length all) i (suc i) are_bounds.1 (omega arith)
            (omega (arith, next_in_bounds)) in
            omega (arith, bound_in_range, from_is_bound, to_is_end);
        to_le_length =
            let bound_in_range =
            bound_le_len first ends (length all) (suc i) are_bounds.1
            (omega (arith, next_in_bounds)) in
            omega (arith, bound_in_range, to_is_end);
        range_is_part =
            ap₂ (slice_range all) from_is_bound to_is_end
            ∙ range_is_list first ends all i (omega (arith, next_in_bounds))
            ∙ ap (λ (ls : List (List X)). get_or ls i []) cut_is_lists;
      }

  pub bound_exists : (bounds : List ℕ) (all : List X) (lists : List (List X))
      → cut bounds all ≡ lists → (i j : ℕ) → i < j → j ≤ length lists → j < length bounds
  bound_exists bounds all lists cut_is_lists i zero i_lt_j j_le_count =
      absurd (omega (arith, i_lt_j))
  bound_exists bounds all lists cut_is_lists i (suc j) i_lt_j j_le_count =
      let j_in_bounds =
      next_bound_exists bounds all lists cut_is_lists j (omega (arith, j_le_count)) in
      omega (arith, j_in_bounds)

  pub joined_lists_are_part : (bounds : List ℕ) (all : List X) (lists : List (List X))
      → AreBounds bounds (length all) → cut bounds all ≡ lists → (i j from to : ℕ) → i < j
      → j ≤ length lists → from ≡ get_or bounds i from → to ≡ get_or bounds j to
      → IsPart all from to (joined (slice_range lists i j))
  joined_lists_are_part [] all lists are_bounds cut_is_lists i j from to i_lt_j j_le_count is_from
      is_to =
      let counts_equal = ap length cut_is_lists in
      absurd (omega (arith, counts_equal, i_lt_j, j_le_count))
  joined_lists_are_part (first ∷ ends) all lists are_bounds cut_is_lists i j from to i_lt_j
      j_le_count is_from is_to =
      let j_in_bounds = bound_exists (first ∷ ends) all lists cut_is_lists i j i_lt_j j_le_count in
      let from_is_bound : from ≡ get_or (first ∷ ends) i 0 =
      is_from ∙ get_or_default_zero (first ∷ ends) i from (omega (arith, j_in_bounds, i_lt_j)) in
      let to_is_bound : to ≡ get_or (first ∷ ends) j 0 =
      is_to ∙ get_or_default_zero (first ∷ ends) j to j_in_bounds in
      record {
        from_le_to =
            let bound_in_range =
            bounds_are_sorted first ends (length all) i j are_bounds.1 (omega (arith, i_lt_j))
            (omega (arith, j_in_bounds)) in
            omega (arith, bound_in_range, from_is_bound, to_is_bound);
        to_le_length =
            let bound_in_range =
            bound_le_len first ends (length all) j are_bounds.1 (omega (arith, j_in_bounds)) in
            omega (arith, bound_in_range, to_is_bound);
        range_is_part =
            ap₂ (slice_range all) from_is_bound to_is_bound
            ∙ range_is_joined_lists first ends all i j are_bounds.1 (omega (arith, i_lt_j))
            (omega (arith, j_in_bounds))
            ∙ ap (λ (ls : List (List X)). joined (slice_range ls i j)) cut_is_lists;
      }

  pub none_joined_at_one_bound : (lists : List (List X)) (i : ℕ)
      → [] ≡ joined (slice_range lists i i)
  none_joined_at_one_bound lists i =
      let no_length : i - i ≡ 0 = omega arith in
      sym (ap (λ n. joined (take n (drop i lists))) no_length)

  -- ---- one list more

  range_of_first_part : (xs ys : List X) (a b : ℕ) → b ≤ length xs
      → slice_range (xs ++ ys) a b ≡ slice_range xs a b
  range_of_first_part xs ys zero b b_le_length =
      let differences_equal : b - 0 ≡ b = omega arith in
      ap (λ n. take n (xs ++ ys)) differences_equal ∙ take-append-le b xs ys b_le_length
      ∙ sym (ap (λ n. take n xs) differences_equal)
  range_of_first_part [] ys (suc a) b b_le_length =
      empty_range ([] ++ ys) (suc a) b (omega arith) ∙ sym (empty_range [] (suc a) b (omega arith))
  range_of_first_part (x ∷ xs) ys (suc a) zero b_le_length =
      empty_range ((x ∷ xs) ++ ys) (suc a) 0 (omega arith)
      ∙ sym (empty_range (x ∷ xs) (suc a) 0 (omega arith))
  range_of_first_part (x ∷ xs) ys (suc a) (suc b) b_le_length =
      let differences_equal : suc b - suc a ≡ b - a = omega arith in
      ap (λ n. take n (drop a (xs ++ ys))) differences_equal
      ∙ range_of_first_part xs ys a b (omega arith)
      ∙ sym (ap (λ n. take n (drop a xs)) differences_equal)

  range_of_second_part : (xs ys : List X)
      → slice_range (xs ++ ys) (length xs) (length xs + length ys) ≡ ys
  range_of_second_part xs ys =
      let length_is_ys : length xs + length ys - length xs ≡ length ys = omega arith in
      ap₂ (λ n (zs : List X). take n zs) length_is_ys (drop_gives_ys xs) ∙ take-length ys
    where
      drop_gives_ys : (xs : List X) → drop (length xs) (xs ++ ys) ≡ ys
      drop_gives_ys [] = refl
      drop_gives_ys (x ∷ xs) = drop_gives_ys xs

  cut_with_one_more : (from : ℕ) (ends : List ℕ) (xs ys : List X) → AreEnds from ends (length xs)
      → cut_at from (ends ++ (length xs + length ys) ∷ []) (xs ++ ys)
      ≡ cut_at from ends xs ++ ys ∷ []
  cut_with_one_more from [] xs ys are_ends =
      ap (λ (l : List X). l ∷ [])
      (ap (λ (a : ℕ). slice_range (xs ++ ys) a (length xs + length ys)) are_ends
      ∙ range_of_second_part xs ys)
  cut_with_one_more from (e ∷ ends) xs ys are_ends =
      ap₂ (λ (l : List X) (ls : List (List X)). l ∷ ls)
      (range_of_first_part xs ys from e (from_le_last_end e ends (length xs) are_ends.1))
      (cut_with_one_more e ends xs ys are_ends.1)

  pub joined_with_one_more : (lists : List (List X)) (list all : List X) (bounds : List ℕ)
      → AreJoined lists all bounds
      → AreJoined (lists ++ list ∷ []) (all ++ list) (with_end bounds (length (all ++ list)))
  joined_with_one_more lists list all bounds joined_before =
      rw (length-append all list)
      (joined_by_bounds bounds joined_before.are_bounds joined_before.cut_is_lists)
    where
      joined_by_bounds : (bounds : List ℕ) → AreBounds bounds (length all) → cut bounds all ≡ lists
          → AreJoined (lists ++ list ∷ []) (all ++ list)
          (with_end bounds (length all + length list))
      joined_by_bounds [] are_bounds cut_is_lists = record {
        are_bounds =
            rw (length-append all list)
            (refl, ends_with_one_more 0 [] (length all) (length list) are_bounds);
        cut_is_lists =
            cut_with_one_more 0 [] all list are_bounds ∙ ap (λ ls. ls ++ list ∷ []) cut_is_lists;
      }
      joined_by_bounds (first ∷ ends) are_bounds cut_is_lists = record {
        are_bounds =
            rw (length-append all list)
            (are_bounds.0, ends_with_one_more first ends (length all) (length list) are_bounds.1);
        cut_is_lists =
            cut_with_one_more first ends all list are_bounds.1
            ∙ ap (λ ls. ls ++ list ∷ []) cut_is_lists;
      }

  -- no lists
  pub none_joined : (all : List X) (bounds : List ℕ) → all ≡ [] → bounds ≡ []
      → AreJoined [] all bounds
  none_joined all bounds all_is_empty bounds_are_empty =
      rw (all_is_empty, bounds_are_empty) (record { are_bounds = refl; cut_is_lists = refl })

  -- ---- how many elements there are together, after the bound where the first list begins

  counted_items_are_all : (from : ℕ) (ends : List ℕ) (all : List X) → AreEnds from ends (length all)
      → from + sum_by length (cut_at from ends all) ≡ length all
  counted_items_are_all from [] all are_ends = omega (arith, are_ends)
  counted_items_are_all from (e ∷ ends) all are_ends =
      let rest_is_counted = counted_items_are_all e ends all are_ends.1 in
      let end_le_length = from_le_last_end e ends (length all) are_ends.1 in
      let dropped_length = length-drop from all in
      let first_length : length (slice_range all from e) ≡ e - from =
      length-take-le (e - from) (drop from all) (omega (arith, dropped_length, end_le_length)) in
      let lengths_add = sum_by-cons length (slice_range all from e) (cut_at e ends all) in
      let from_le_end = are_ends.0 in
      omega (arith, rest_is_counted, first_length, lengths_add, from_le_end)

  pub item_count_is_sum : (bounds : List ℕ) (all : List X) → AreBounds bounds (length all)
      → length all ≡ sum_by length (cut bounds all)
  item_count_is_sum [] all are_bounds = sym are_bounds
  item_count_is_sum (first ∷ ends) all are_bounds =
      let ends_count_items = counted_items_are_all first ends all are_bounds.1 in
      let first_is_zero = are_bounds.0 in omega (arith, ends_count_items, first_is_zero)

-- what has been joined of all elements
pub taken_joined_are_all_joined : {X Y : Type 0} (f : Y → List X) (ys : List Y) (i : ℕ)
    (all : List X)
    → (bounds : List ℕ) → length ys ≤ i → AreJoined (map f (take i ys)) all bounds
    → AreJoined (map f ys) all bounds
taken_joined_are_all_joined f ys i all bounds length_le_i taken_are_joined =
    subst (λ (zs : List _). AreJoined (map f zs) all bounds) (take_all i ys length_le_i)
    taken_are_joined
