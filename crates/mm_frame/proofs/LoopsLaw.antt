-- One more element in the loops that collect numbers and pairs.
use Rattle.std.proofs.lemmas.Grind.{common_steps}
use Rattle.std.proofs.Common.{◌≡◌, ℕ, ◌+◌, ◌<◌, Bool, true, false, ◌&&◌, ◌||◌, not, List, [], ◌∷◌}
use Rattle.std.proofs.Common.{◌++◌, length, get_or, take, nat_eq, nat_lt, sym, arith}
use Rattle.std.proofs.lemmas.Bool.Decides.{nat_tests}
use Rattle.std.proofs.lemmas.List.Folds.{list_any_more, list_any-append}
use Rattle.std.proofs.Math.Bool.{or-false}
use Rattle.std.specs.List.{list_any}
use Rattle.mm_spec.specs.Derivation.{is_member}
use Rattle.mm_database.specs.Pairs.{has_pair}

-- with no element so far
pub none_so_far : (o : Bool) → o ≡ (o || false)
none_so_far o = sym (or-false o)

-- the next element makes the test true, or not
pub any_with_next_element : {X : Type 0} (t : X → Bool) (xs : List X) (i : ℕ) (d : X) (o b n : Bool)
    → i < length xs → b ≡ (o || list_any t (take i xs)) → n ≡ (b || t (get_or xs i d))
    → n ≡ (o || list_any t (take (i + 1) xs))
any_with_next_element t xs i d o b n i_lt_length b_is_so_far n_is_b_or_next =
    grind (arith, list_any_more t xs i d i_lt_length)

-- the pairs of the next symbol
pub active_with_next_symbol : (xs : List ℕ) (ps : List (ℕ × ℕ)) (i s j y : ℕ) (o b n l : Bool)
    → i < length xs → s ≡ get_or xs i s
    → b ≡ (o || (is_member (take i xs) y && (has_pair ps y j && l)))
    → n ≡ (b || (nat_eq y s && (has_pair ps s j && l)))
    → n ≡ (o || (is_member (take (i + 1) xs) y && (has_pair ps y j && l)))
active_with_next_symbol xs ps i s j y o b n l i_lt_length s_is_element b_is_so_far n_is_b_or_next =
    grind (arith, common_steps, list_any_more)

-- the next symbol is noted if it is a variable
pub listed_with_next_symbol : (xs : List ℕ) (i s x : ℕ) (o b n v : Bool)
    → i < length xs → s ≡ get_or xs i s
    → b ≡ (o || (v && is_member (take i xs) x)) → n ≡ (b || (v && nat_eq x s))
    → n ≡ (o || (v && is_member (take (i + 1) xs) x))
listed_with_next_symbol xs i s x o b n v i_lt_length s_is_element b_is_so_far n_is_b_or_next =
    grind (arith, nat_tests, list_any_more (nat_eq x) xs i s i_lt_length)

-- no symbols add none
pub listed_of_no_symbols : (o v : Bool) → o ≡ (o || (v && false))
listed_of_no_symbols o v = grind arith

-- the variables of the next formula, when those of the formulas before it have been found
pub variables_with_next_formula : (x : ℕ) (f : ℕ → List ℕ) (es : List ℕ) (i d : ℕ) (xs : List ℕ)
    (n b v k : Bool) → i < length es → xs ≡ f (get_or es i d)
    → b ≡ (v && (k || list_any (λ j. is_member (f j) x) (take i es)))
    → n ≡ (b || (v && is_member xs x))
    → n ≡ (v && (k || list_any (λ j. is_member (f j) x) (take (i + 1) es)))
variables_with_next_formula x f es i d xs n b v k i_lt_length xs_are_formula b_is_so_far
    n_is_b_or_next =
    grind (arith, common_steps, list_any_more)

-- the floating statement of the next variable, if it is open
pub floats_with_open_float : (hs pushed : List ℕ) (f j : ℕ) (never is_open : Bool) → never ≡ false
    → is_open ≡ true
    → pushed ≡ hs ++ f ∷ []
    → is_member pushed j ≡ (is_member hs j || (nat_eq j f && (not never && is_open)))
floats_with_open_float hs pushed f j never is_open never_false is_open_true more_is_pushed =
    grind (arith, nat_tests, list_any-append)

-- a `$f` whose block is closed isn't added
pub floats_without_closed_float : (hs unchanged : List ℕ) (f j : ℕ) (never is_open : Bool)
    → is_open ≡ false → unchanged ≡ hs
    → is_member unchanged j ≡ (is_member hs j || (nat_eq j f && (not never && is_open)))
floats_without_closed_float hs unchanged f j never is_open is_open_false unchanged_is_hs =
    grind arith

-- a variable without a `$f` adds none
pub floats_without_float : (hs unchanged : List ℕ) (f j : ℕ) (never is_open : Bool) → never ≡ true
    → unchanged ≡ hs
    → is_member unchanged j ≡ (is_member hs j || (nat_eq j f && (not never && is_open)))
floats_without_float hs unchanged f j never is_open never_true unchanged_is_hs = grind arith

-- the next element, if it passes a test
pub passing_with_next_element : (g : ℕ → Bool) (xs : List ℕ) (i s d y : ℕ) (o b n : Bool)
    → i < length xs → s ≡ get_or xs i d → b ≡ (o || (is_member (take i xs) y && g y))
    → n ≡ (b || (nat_eq y s && g s)) → n ≡ (o || (is_member (take (i + 1) xs) y && g y))
passing_with_next_element g xs i s d y o b n i_lt_length s_is_element b_is_so_far n_is_b_or_next =
    grind (arith, nat_tests, list_any_more (nat_eq y) xs i d i_lt_length)

-- a pair more, if the second passes
pub pair_if_passing : (ps qs : List (ℕ × ℕ)) (low s x y : ℕ) (passes : Bool)
    → passes ≡ true → qs ≡ ps ++ (low, s) ∷ []
    → has_pair qs x y ≡ (has_pair ps x y || (nat_eq y s && (nat_eq x low && passes)))
pair_if_passing ps qs low s x y passes it_passes qs_are_pushed =
    grind (arith, nat_tests, list_any-append)

pub no_pair_if_failing : (ps qs : List (ℕ × ℕ)) (low s x y : ℕ) (passes : Bool)
    → passes ≡ false → qs ≡ ps
    → has_pair qs x y ≡ (has_pair ps x y || (nat_eq y s && (nat_eq x low && passes)))
no_pair_if_failing ps qs low s x y passes it_fails qs_are_ps = grind arith

-- two conditions exchanged
pub and_swap : (o m e g : Bool) → (o || (m && (e && g))) ≡ (o || (e && (m && g)))
and_swap o m e g = grind arith

-- what a walk over a row finds of one symbol
pub walked_in_row : (t : ℕ → Bool) (a : ℕ → Bool) (low x y : ℕ) (row : List (ℕ × ℕ))
    → list_any (λ p. nat_eq y p.0 && (nat_eq x low && (nat_lt low p.0 && (t p.0 && a p.1)))) row
    ≡ (nat_eq x low && (t y && (nat_lt low y && list_any (λ p. nat_eq y p.0 && a p.1) row)))
walked_in_row t a low x y [] = grind arith
walked_in_row t a low x y (p ∷ row) = grind (arith, nat_tests, walked_in_row t a low x y row)
