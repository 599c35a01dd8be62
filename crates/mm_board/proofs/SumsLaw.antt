-- Totals over the views of all seats.
use Rattle.std.proofs.lemmas.Grind.{common_steps}
use Rattle.std.proofs.Common.{◌≡◌, ℕ, zero, suc, ◌+◌, ◌<◌, ◌≤◌, ◌==◌, min, nat_lt, cond, List, []}
use Rattle.std.proofs.Common.{◌∷◌, ◌++◌, set, sym, refl, ap, arith}
use Rattle.std.proofs.lemmas.Bool.Decides.{nat_tests}
use mathlib.Core.Option.{some, some-injective, some-ne-none}
use lib.ListN.{get_elem?}
use Rattle.mm_board.specs.declared.views.View.{View}
use Rattle.mm_board.specs.Records.{times_in, record_length}
use Rattle.mm_board.specs.Rule.{total, settled_count, once_below, over_share}

pub total_after_set : (f : View → ℕ) (l : List View) (i : ℕ) (v w : View) → get_elem? l i ≡ some v
    → total f (set l i w) + f v ≡ total f l + f w
total_after_set f [] i v w has_view = absurd (some-ne-none v (sym has_view))
total_after_set f (x ∷ xs) zero v w has_view = grind (arith, common_steps)
total_after_set f (x ∷ xs) (suc i) v w has_view =
    let later_total = total_after_set f xs i v w has_view in omega arith

pub total_of_appended : (f : View → ℕ) (l : List View) (v : View)
    → total f (l ++ v ∷ []) ≡ total f l + f v
total_of_appended f [] v = omega arith
total_of_appended f (x ∷ xs) v = let later_total = total_of_appended f xs v in omega arith

pub one_at_most_total : (f : View → ℕ) (l : List View) (i : ℕ) (v : View) → get_elem? l i ≡ some v
    → f v ≤ total f l
one_at_most_total f [] i v has_view = absurd (some-ne-none v (sym has_view))
one_at_most_total f (x ∷ xs) zero v has_view = grind (arith, common_steps)
one_at_most_total f (x ∷ xs) (suc i) v has_view =
    let later_bound = one_at_most_total f xs i v has_view in omega arith

over_share_at_most_share : (v : View) → over_share v ≤ v.share
over_share_at_most_share v = grind (arith, common_steps)

pub over_shares_at_most_shares : (l : List View) → total over_share l ≤ total (λ v. v.share) l
over_shares_at_most_shares [] = omega arith
over_shares_at_most_shares (x ∷ xs) =
    grind (arith, common_steps, over_share_at_most_share, (over_shares_at_most_shares xs))

pub times_in_append : (y : ℕ) (l m : List ℕ) → times_in y (l ++ m) ≡ times_in y l + times_in y m
times_in_append y [] m = omega arith
times_in_append y (x ∷ xs) m = let later_count = times_in_append y xs m in omega arith

below_moves_by_one : (y x : ℕ)
    → cond (nat_lt y x) 1 0 + cond (x == y) 1 0 ≡ cond (nat_lt y (x + 1)) 1 0
below_moves_by_one y x = grind (arith, nat_tests)

pub once_below_moves_by_one : (y x n : ℕ) → x < n
    → once_below y (min x n) + cond (x == y) 1 0 ≡ once_below y (min (x + 1) n)
once_below_moves_by_one y x n x_lt_n = grind (arith, common_steps, below_moves_by_one)

pub below_by_once : (x n : ℕ) → 0 < once_below x n → x < n
below_by_once x n = grind (arith, nat_tests)

pub once_below_at_most_one : (x n : ℕ) → once_below x n ≤ 1
once_below_at_most_one x n = grind (arith, common_steps)

pub once_below_is_one : (x n : ℕ) → x < n → once_below x n ≡ 1
once_below_is_one x n = grind (arith, nat_tests)

pub counted_is_equal : (x y : ℕ) → 0 < cond (y == x) 1 0 → y ≡ x
counted_is_equal x y = grind (arith, nat_tests)

pub equal_is_counted : (x : ℕ) → 0 < cond (x == x) 1 0
equal_is_counted x = grind (arith, nat_tests)

-- the total over seats of which all but one are spent
total_of_spent : (f : View → ℕ) (l : List View) → total (λ v. v.share) l ≡ 0
    → ((i : ℕ) (u : View) → get_elem? l i ≡ some u → u.share ≡ 0 → f u ≡ 0) → total f l ≡ 0
total_of_spent f [] no_shares spent_gives_zero = refl
total_of_spent f (x ∷ xs) no_shares spent_gives_zero =
    let first_is_zero = spent_gives_zero 0 x refl (omega arith) in
    let later_is_zero =
    total_of_spent f xs (omega arith) (λ i u has_view. spent_gives_zero (suc i) u has_view) in
    omega arith

pub total_of_only_seat : (f : View → ℕ) (l : List View) (i : ℕ) (v : View) → get_elem? l i ≡ some v
    → total (λ u. u.share) l ≡ v.share
    → ((j : ℕ) (u : View) → get_elem? l j ≡ some u → u.share ≡ 0 → f u ≡ 0) → total f l ≡ f v
total_of_only_seat f [] i v has_view shares_are_its_own spent_gives_zero = grind (arith, nat_tests)
total_of_only_seat f (x ∷ xs) zero v has_view shares_are_its_own spent_gives_zero =
    let values_equal : f x ≡ f v = ap f (some-injective x v has_view) in
    let shares_equal : x.share ≡ v.share =
    ap (λ (u : View). u.share) (some-injective x v has_view) in
    let later_total =
    total_of_spent f xs (omega arith)
    (λ j u has_view_there. spent_gives_zero (suc j) u has_view_there) in omega arith
total_of_only_seat f (x ∷ xs) (suc i) v has_view shares_are_its_own spent_gives_zero =
    let share_le_later = one_at_most_total (λ u. u.share) xs i v has_view in
    let first_is_zero = spent_gives_zero 0 x refl (omega arith) in
    let later_total =
    total_of_only_seat f xs i v has_view (omega arith)
    (λ j u has_view_there. spent_gives_zero (suc j) u has_view_there) in
    omega arith

pub settled_at_most_recorded : (l : List View) → settled_count l ≤ total record_length l
settled_at_most_recorded [] = omega arith
settled_at_most_recorded (x ∷ xs) = grind (arith, common_steps, (settled_at_most_recorded xs))
