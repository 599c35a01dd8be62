-- The theorems of a column, a run of neighbours at a time.
use Rattle.std.proofs.Common.{rules, append_assoc, zero-add, add-zero, count_by, take, drop, get_or}
use Rattle.std.proofs.Common.{◌≡◌, ℕ, zero, suc, ◌+◌, ◌-◌, ◌<◌, ◌≤◌, Bool, true, false, List, []}
use Rattle.std.proofs.Common.{◌∷◌, ◌++◌, map, length, Option, Some, None, refl, sym, ap, ◌∙◌, arith}
use Rattle.std.proofs.Common.{IfSome}
use Rattle.std.proofs.lemmas.Grind.{common_steps, flat_map-append}
use Rattle.std.specs.Prelude.{flat_map, slice_range}
use Rattle.std.proofs.lemmas.List.{append-nil, take_more, length-take-le, length-append, map-append}
use Rattle.std.proofs.lemmas.List.Folds.{flat_map-map}
use Rattle.std.proofs.lemmas.Simd.{pick_l-range_with_len}
use Rattle.std.specs.List.{range_with_len, filter}
use Rattle.std.proofs.lemmas.List.Elements.{filter-append}
use Rattle.mm_spec.specs.Text.{Bytes}
use Rattle.mm_spec.specs.Report.{Row, separated, mark_at, users, usage_line, usage_lines}
use Rattle.mm_rows.specs.Marks.{Marks, mark, IsAbove, first_after}
use Rattle.mm_rows.proofs.TableLaw.{above_is_from_first, from_first_is_above}
use Rattle.mm_report.specs.Rows.{report_row_of, after_label}
use Rattle.mm_report.proofs.SentLaw.{range_append}

-- if the test passes for all items, all are selected
filter_of_passing : {X : Type 0} (p : X → Bool) (f : ℕ → X) (a n : ℕ)
    → ((k : ℕ) → a ≤ k → k < a + n → p (f k) ≡ true)
    → filter p (map f (range_with_len a n)) ≡ map f (range_with_len a n)
filter_of_passing p f a zero test_passes = refl
filter_of_passing p f a (suc n) test_passes =
    rw (test_passes a (omega arith) (omega arith)) (ap (λ z. f a ∷ z)
    (filter_of_passing p f (a + 1) n
    (λ k a_lt_k k_lt_end. test_passes k (omega arith) (omega arith))))

-- if the test passes for no item, none is selected
filter_of_failing : {X : Type 0} (p : X → Bool) (f : ℕ → X) (a n : ℕ)
    → ((k : ℕ) → a ≤ k → k < a + n → p (f k) ≡ false) → filter p (map f (range_with_len a n)) ≡ []
filter_of_failing p f a zero test_fails = refl
filter_of_failing p f a (suc n) test_fails =
    rw (test_fails a (omega arith) (omega arith))
    (filter_of_failing p f (a + 1) n
    (λ k a_lt_k k_lt_end. test_fails k (omega arith) (omega arith)))

-- items are counted by the numbers that they are of
count_of_selected : {X : Type 0} (q : X → Bool) (f : ℕ → X) (p : ℕ → Bool)
    → ((i : ℕ) → q (f i) ≡ p i) → (ns : List ℕ) → count_by p ns ≡ length (filter q (map f ns))
count_of_selected q f p same [] = refl
count_of_selected q f p same (n ∷ ns) =
    grind (arith, common_steps, same n, count_of_selected q f p same ns)

-- the mark at a place of a row of tests is the test of that number
pub mark_at_range : (f : ℕ → Bool) (a k n : ℕ) → n < k
    → mark_at n (map f (range_with_len a k)) ≡ f (a + n)
mark_at_range f a zero n n_lt_k = absurd (omega arith)
mark_at_range f a (suc k) zero n_lt_k = ap f (sym (add-zero a))
mark_at_range f a (suc k) (suc n) n_lt_k =
    mark_at_range f (a + 1) k n (omega arith) ∙ ap f (omega arith)

-- the labels of rows, each after a space
abbrev pub spaced : List Row → List ℕ
spaced rows = flat_map (λ r. 32 ∷ r.label) rows

-- the labels of rows, with spaces between them
abbrev pub separated_rows : List Row → List ℕ
separated_rows rs = separated (map (λ r. r.label) rs)

-- separated labels are those without the first space
separated_spaced : (rs : List Row) → separated_rows rs ≡ drop 1 (spaced rs)
separated_spaced [] = refl
separated_spaced (r ∷ []) = sym (append-nil r.label)
separated_spaced (r ∷ s ∷ rs) = ap (λ z. r.label ++ 32 ∷ z) (separated_spaced (s ∷ rs))

-- after a label, further labels each have a space before them
separated_append : (rs ss : List Row) → 0 < length rs
    → separated_rows (rs ++ ss) ≡ separated_rows rs ++ spaced ss
separated_append [] ss rs_not_empty = absurd (omega arith)
separated_append (r ∷ rs) ss rs_not_empty =
    separated_spaced (r ∷ (rs ++ ss))
    ∙ ap (drop 1) (flat_map-append (λ (q : Row). 32 ∷ q.label) (r ∷ rs) ss)
    ∙ ap (λ z. z ++ spaced ss) (sym (separated_spaced (r ∷ rs)))

-- the spaced labels of neighbours are those of their rows
pub spaced_run_is_rows : (m : Marks) (labels : List Bytes) (from to : ℕ) → from ≤ to
    → to ≤ length labels
    → flat_map (λ (l : Bytes). 32 ∷ l) (slice_range labels from to)
    ≡ spaced (map (λ i. report_row_of m (get_or labels i []) i) (range_with_len from (to - from)))
spaced_run_is_rows m labels from to from_le_to to_le_length =
    let numbers : List ℕ = range_with_len from (to - from) in
    let row : ℕ → Row = λ i. report_row_of m (get_or labels i []) i in
    ap (flat_map (λ (l : Bytes). 32 ∷ l))
    (sym (pick_l-range_with_len [] labels from (to - from) (omega arith)))
    ∙ flat_map-map (λ (l : Bytes). 32 ∷ l) (λ i. get_or labels i []) numbers
    ∙ sym (flat_map-map (λ (r : Row). 32 ∷ r.label) row numbers)

module _ (m : Marks) (labels : ℕ → Bytes) (j : ℕ) where
  -- the row of a theorem
  abbrev pub row : ℕ → Row
  row i = report_row_of m (labels i) i

  -- the theorems below n that are marked in the column
  abbrev pub users_before : ℕ → List Row
  users_before n = users j (map row (range_with_len 0 n))

  -- the theorems from one number up to another
  abbrev pub run : ℕ → ℕ → List Row
  run first end = map row (range_with_len first (end - first))

module _ (m : Marks) (labels : ℕ → Bytes) (j : ℕ) (j_lt_columns : j < m.columns) where
  -- the row of a theorem has its mark of the column
  row_has_mark : (i : ℕ) → mark_at j ((row m labels j) i).marks ≡ mark m i j
  row_has_mark i = mark_at_range (mark m i) 0 m.columns j j_lt_columns ∙ ap (mark m i) (zero-add j)

  -- the users below n + d are those below n, and then those among the next d theorems
  users_before_split : (n d : ℕ)
      → users_before m labels j (n + d)
      ≡ users_before m labels j n ++ users j (map (row m labels j) (range_with_len n d))
  users_before_split n d = rw (range_append, zero-add, map-append, filter-append) refl

  -- if all of the next d theorems are marked, all of them are added to the users
  users_before_run : (n d : ℕ) → ((k : ℕ) → n ≤ k → k < n + d → mark m k j ≡ true)
      → users_before m labels j (n + d)
      ≡ users_before m labels j n ++ map (row m labels j) (range_with_len n d)
  users_before_run n d all_marked =
      search (rules, arith, users_before_split, filter_of_passing, row_has_mark)

  -- if none of the next d theorems is marked, none is added to the users
  users_before_gap : (n d : ℕ) → ((k : ℕ) → n ≤ k → k < n + d → mark m k j ≡ false)
      → users_before m labels j (n + d) ≡ users_before m labels j n
  users_before_gap n d none_marked =
      search (rules, arith, users_before_split, filter_of_failing, row_has_mark, append-nil)

  -- up to the next marked theorem nothing is added
  users_before_next_user : (last_sent : Option ℕ) (n : ℕ) → first_after last_sent ≤ n
      → ((k : ℕ) → IsAbove last_sent k → k < n → mark m k j ≡ false)
      → users_before m labels j n ≡ users_before m labels j (first_after last_sent)
  users_before_next_user last_sent n first_le_n none_marked =
      let end_is_n : first_after last_sent + (n - first_after last_sent) ≡ n = omega arith in
      ap (users_before m labels j) (sym end_is_n)
      ∙ users_before_gap (first_after last_sent) (n - first_after last_sent)
      (λ k first_le_k k_lt_end. none_marked k (from_first_is_above last_sent k first_le_k)
      (omega arith))

  -- after a marked theorem there is a user
  users_exist_after_marked : (i : ℕ) → mark m i j ≡ true
      → 0 < length (users_before m labels j (i + 1))
  users_exist_after_marked i i_is_marked =
      search (rules, arith, users_before_run, length-append)

  -- the labels of a run of marked theorems are added to those that were sent
  pub users_with_run : (last_sent : Option ℕ) (first end : ℕ)
      → IfSome last_sent (λ i. mark m i j ≡ true)
      → IsAbove last_sent first → first ≤ end
      → ((k : ℕ) → IsAbove last_sent k → k < first → mark m k j ≡ false)
      → ((k : ℕ) → first ≤ k → k < end → mark m k j ≡ true)
      → separated_rows (users_before m labels j (first_after last_sent))
      ++ after_label last_sent (spaced (run m labels j first end))
      ≡ separated_rows (users_before m labels j end)
  users_with_run last_sent first end last_is_marked first_is_above first_le_end none_marked
      run_is_marked =
      rw users_before_end (text_by_last last_sent last_is_marked)
    where
      users_before_end : users_before m labels j end
          ≡ users_before m labels j (first_after last_sent) ++ run m labels j first end
      users_before_end =
          let run_end_is_end : first + (end - first) ≡ end = omega arith in
          ap (users_before m labels j) (sym run_end_is_end)
          ∙ users_before_run first (end - first)
          (λ k first_le_k k_lt_run_end. run_is_marked k first_le_k (omega arith))
          ∙ ap (λ z. z ++ run m labels j first end) (users_before_next_user last_sent first
          (above_is_from_first last_sent first first_is_above) none_marked)

      text_by_last : (o : Option ℕ) → IfSome o (λ i. mark m i j ≡ true)
          → separated_rows (users_before m labels j (first_after o))
          ++ after_label o (spaced (run m labels j first end))
          ≡ separated_rows (users_before m labels j (first_after o) ++ run m labels j first end)
      text_by_last None last_is_marked = sym (separated_spaced (run m labels j first end))
      text_by_last (Some i) last_is_marked =
          sym (separated_append (users_before m labels j (i + 1)) (run m labels j first end)
          (users_exist_after_marked i last_is_marked))

  -- if no theorem after the last one that was sent is marked, all users were sent
  pub users_complete : (last_sent : Option ℕ) (n : ℕ) → first_after last_sent ≤ n
      → ((k : ℕ) → IsAbove last_sent k → k < n → mark m k j ≡ false)
      → separated_rows (users_before m labels j (first_after last_sent))
      ≡ separated_rows (users_before m labels j n)
  users_complete last_sent n first_le_n none_marked =
      ap separated_rows (sym (users_before_next_user last_sent n first_le_n none_marked))

  -- the count of a column
  pub users_counted : (n : ℕ)
      → count_by (λ i. mark m i j) (range_with_len 0 n)
      ≡ length (users_before m labels j n)
  users_counted n =
      count_of_selected (λ r. mark_at j r.marks) (row m labels j) (λ i. mark m i j) row_has_mark
      (range_with_len 0 n)

-- the lines of the columns from number `a` on, with one more column at the end
usage_lines_from_push : (rows : List Row) (a : ℕ) (ls : List Bytes) (l : Bytes)
    → usage_lines rows a (ls ++ l ∷ []) ≡ usage_lines rows a ls ++ usage_line rows (a + length ls) l
usage_lines_from_push rows a [] l = grind (arith, common_steps, append-nil, add-zero)
usage_lines_from_push rows a (k ∷ ls) l =
    grind (arith, common_steps, append_assoc, (usage_lines_from_push rows (a + 1) ls l))

-- the lines of the first j + 1 columns are those of the first j, and then that of column j
pub usage_lines_push : (rows : List Row) (labels : List Bytes) (j : ℕ) → j < length labels
    → usage_lines rows 0 (take (j + 1) labels)
    ≡ usage_lines rows 0 (take j labels) ++ usage_line rows j (get_or labels j [])
usage_lines_push rows labels j j_lt_length =
    grind (arith, common_steps, length-take-le, take_more, usage_lines_from_push)
