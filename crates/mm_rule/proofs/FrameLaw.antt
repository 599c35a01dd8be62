-- The numbers of a frame are those of the database.
use Rattle.std.proofs.Common.{cond, ◌≡◌, ℕ, suc, ◌<◌, ◌≤◌, Bool, true, false, ◌&&◌, ◌||◌, List, []}
use Rattle.std.proofs.Common.{◌∷◌, length, Option, None, Some, slice_get, flat_map, nat_lt, refl}
use Rattle.std.proofs.Common.{sym, subst, All, arith, true≢false}
use Rattle.std.specs.List.{AllByRecursion, list_any, range_with_len, filter}
use Rattle.std.proofs.lemmas.List.Elements.{All-from_recursion}
use Rattle.mm_spec.specs.Text.{Bytes, is_in}
use Rattle.mm_spec.specs.Statement.{Statement}
use Rattle.std.proofs.lemmas.List.FromFn.{length-range_with_len}
use Rattle.std.proofs.lemmas.Option.{slice_get_within}
use Rattle.mm_spec.specs.Scope.{active_at, active, statement_at, variables_of}
use Rattle.mm_spec.specs.Derivation.{Pair, is_member}
use Rattle.mm_spec.specs.Frame.{symbol_names, is_variable_number, is_essential, is_floating}
use Rattle.mm_spec.specs.Frame.{formula_at, mandatory_variables, mandatory_hypotheses}
use Rattle.mm_spec.specs.Frame.{mandatory_pairs, disjoint_at, pairs_below}
use Rattle.mm_spec.proofs.FindsLaw.{active_lt_place, each_filter, each_any, member_filter}
use Rattle.mm_spec.proofs.BoolLaw.{middle_parts}
use Rattle.mm_rule.specs.Assertions.{as_pairs}

-- what follows from a property of all members holds of all members
all_of_weaker : (P Q : ℕ → Type 0) → ((x : ℕ) → P x → Q x) → (xs : List ℕ) → AllByRecursion P xs
    → AllByRecursion Q xs
all_of_weaker P Q p_gives_q [] all_p = tt
all_of_weaker P Q p_gives_q (x ∷ xs) all_p =
    (p_gives_q x all_p.0, all_of_weaker P Q p_gives_q xs all_p.1)

-- a property of all members holds of those that pass a test
filter_keeps_all : (P : ℕ → Type 0) (t : ℕ → Bool) (xs : List ℕ) → AllByRecursion P xs
    → AllByRecursion P (filter t xs)
filter_keeps_all P t xs all_p =
    each_filter P t xs (all_of_weaker P (λ x. t x ≡ true → P x) (λ x holds passes. holds) xs all_p)

-- a filtered list is no longer
filter_no_longer : (t : ℕ → Bool) (xs : List ℕ) → length (filter t xs) ≤ length xs
filter_no_longer t [] = omega arith
filter_no_longer t (x ∷ xs) = length_le (t x) (filter_no_longer t xs)
  where
    length_le : (b : Bool) → length (filter t xs) ≤ length xs
        → length {A = ℕ} (cond b (x ∷ filter t xs) (filter t xs)) ≤ suc (length xs)
    length_le true rest_le_length = omega (arith, rest_le_length)
    length_le false rest_le_length = omega (arith, rest_le_length)

-- an assertion has no more hypotheses than there are statements before it
pub hypotheses_le_k : (db : List Statement) (k : ℕ) → length (mandatory_hypotheses db k) ≤ k
hypotheses_le_k db k =
    let active_le_k = filter_no_longer (λ j. active_at db j k) (range_with_len 0 k) in
    let hypotheses_le_active =
    filter_no_longer
    (λ j. list_any is_essential (statement_at db j)
    || (list_any is_floating (statement_at db j)
    && list_any (is_member (mandatory_variables db k)) (formula_at db j))) (active db k) in
    omega (arith, active_le_k, hypotheses_le_active, length-range_with_len 0 k)

-- the mandatory hypotheses are statements of the database
pub hypotheses_lt_length : (db : List Statement) (k : ℕ) → k ≤ length db
    → All (λ h. h < length db) (mandatory_hypotheses db k)
hypotheses_lt_length db k k_le_length =
    All-from_recursion (λ h. h < length db) (mandatory_hypotheses db k)
    (filter_keeps_all (λ h. h < length db) _ _
    (each_filter (λ h. h < length db) (λ j. active_at db j k) (range_with_len 0 k)
    (each_any (λ j. active_at db j k ≡ true → j < length db) (range_with_len 0 k)
    (λ j j_is_active. let j_lt_k = active_lt_place db j k j_is_active in omega (arith, j_lt_k)))))

-- a variable is one of the symbols
variable_lt_symbol_count : (db : List Statement) (x : ℕ) → is_variable_number db x ≡ true
    → x < length (symbol_names db)
variable_lt_symbol_count db x x_is_variable =
    x_is_low (slice_get (symbol_names db) x) refl x_is_variable
  where
    x_is_low : (o : Option Bytes) → slice_get (symbol_names db) x ≡ o
        → elim o [ None ↦ false | Some w ↦ is_in w (flat_map variables_of db) ] ≡ true
        → x < length (symbol_names db)
    x_is_low None name_x_is_o x_is_variable = absurd (true≢false (sym x_is_variable))
    x_is_low (Some w) name_x_is_o x_is_variable = slice_get_within (symbol_names db) x w name_x_is_o

-- a mandatory variable is one of the symbols
mandatory_lt_symbol_count : (db : List Statement) (k x : ℕ) → is_member (mandatory_variables db k) x
    ≡ true
    → x < length (symbol_names db)
mandatory_lt_symbol_count db k x x_is_mandatory =
    variable_lt_symbol_count db x (member_filter (is_variable_number db) _ x x_is_mandatory).0

-- the mandatory pairs are of symbols
pub pairs_lt_symbol_count : (db : List Statement) (k : ℕ) (ps : List (ℕ × ℕ))
    → as_pairs ps ≡ mandatory_pairs db k
    → All (λ (p : ℕ × ℕ). (p.0 < length (symbol_names db)) × (p.1 < length (symbol_names db))) ps
pairs_lt_symbol_count db k ps ps_are_mandatory =
    All-from_recursion
    (λ (p : ℕ × ℕ). (p.0 < length (symbol_names db)) × (p.1 < length (symbol_names db))) ps
    (each_pair_is_low ps (subst (AllByRecursion IsLow) (sym ps_are_mandatory) mandatory_are_low))
  where
    IsLow : Pair → Type 0
    IsLow p = (p.low < length (symbol_names db)) × (p.high < length (symbol_names db))

    in_order : Pair → Bool
    in_order p =
        nat_lt p.low p.high && is_member (mandatory_variables db k) p.low
        && is_member (mandatory_variables db k) p.high && disjoint_at db k p.low p.high

    mandatory_are_low : AllByRecursion IsLow (mandatory_pairs db k)
    mandatory_are_low =
        each_filter IsLow in_order (pairs_below (length (symbol_names db)))
        (each_any (λ p. in_order p ≡ true → IsLow p) (pairs_below (length (symbol_names db)))
        (λ p p_is_in_order. let members =
        middle_parts (nat_lt p.low p.high) (is_member (mandatory_variables db k) p.low)
        (is_member (mandatory_variables db k) p.high)
        (disjoint_at db k p.low p.high) p_is_in_order in (
          mandatory_lt_symbol_count db k p.low members.0,
          mandatory_lt_symbol_count db k p.high
              members.1,
        )))

    each_pair_is_low : (ps : List (ℕ × ℕ)) → AllByRecursion IsLow (as_pairs ps)
        → AllByRecursion
        (λ (p : ℕ × ℕ). (p.0 < length (symbol_names db)) × (p.1 < length (symbol_names db))) ps
    each_pair_is_low [] each_is_low = tt
    each_pair_is_low (p ∷ ps) each_is_low = (each_is_low.0, each_pair_is_low ps each_is_low.1)
