-- What tests of lists find among active statements and names.
use Rattle.std.proofs.Common.{rules, ◌≡◌, ℕ, zero, suc, ◌+◌, ◌==◌, ◌<◌, ◌≤◌, Bool, true, ◌&&◌, ◌||◌}
use Rattle.std.proofs.Common.{inl, inr, List, [], ◌∷◌, map, take, length, flat_map, Some, None}
use Rattle.std.proofs.Common.{slice_get, refl, sym, ap, ◌∙◌, true≢false, append-nil, arith}
use Rattle.std.proofs.Common.{bytes_eq, ltb-true, eqb-true, eq-eqb, eq-or-lt_of_le}
use Rattle.std.proofs.lemmas.Grind.{common_steps}
use Rattle.std.specs.List.{list_any, range_with_len, AllByRecursion, filter}
use Rattle.std.proofs.lemmas.Bool.{or_cases, or_left, or_right, and_parts, and_from}
use Rattle.std.proofs.lemmas.List.Folds.{list_any-append}
use Rattle.std.proofs.lemmas.Slice.Eq.{bytes_eq-Decides}
use Rattle.mm_spec.specs.Text.{Bytes, is_in}
use Rattle.mm_spec.specs.Statement.{Statement}
use Rattle.mm_spec.specs.Scope.{active_at, active, statement_at}
use Rattle.mm_spec.specs.Frame.{formula_of, formula_at}
use Rattle.mm_spec.specs.Derivation.{is_member}
use Rattle.mm_spec.proofs.BoolLaw.{passes_alone}

-- ---- tests of lists

pub any_flat_map : {X Y : Type 0} (p : Y → Bool) (f : X → List Y) (xs : List X)
    → list_any p (flat_map f xs) ≡ list_any (λ x. list_any p (f x)) xs
any_flat_map p f [] = refl
any_flat_map p f (x ∷ xs) = grind (arith, common_steps, list_any-append, (any_flat_map p f xs))

pub any_map : {X Y : Type 0} (p : Y → Bool) (f : X → Y) (xs : List X)
    → list_any p (map f xs) ≡ list_any (λ x. p (f x)) xs
any_map p f [] = refl
any_map p f (x ∷ xs) = ap (λ b. p (f x) || b) (any_map p f xs)

pub any_filter : {X : Type 0} (t p : X → Bool) (xs : List X)
    → list_any p (filter t xs) ≡ list_any (λ x. t x && p x) xs
any_filter t p [] = refl
any_filter {X} t p (x ∷ xs) = grind (arith, common_steps, any_filter t p xs)

any_range : (p : ℕ → Bool) (n a : ℕ) → list_any p (range_with_len a n) ≡ true
    → (i : ℕ) × (p i ≡ true)
any_range p zero a some_passes = absurd (true≢false (sym some_passes))
any_range p (suc n) a some_passes =
    elim (or_cases (p a) (list_any p (range_with_len (a + 1) n)) some_passes) [
      | inl passes ↦ (a, passes)
      | inr later ↦ any_range p n (a + 1) later
    ]

pub range_any : (p : ℕ → Bool) (n a i : ℕ) → a ≤ i → i < a + n → p i ≡ true
    → list_any p (range_with_len a n) ≡ true
range_any p zero a i a_le_i i_lt_end i_passes = absurd (omega arith)
range_any p (suc n) a i a_le_i i_lt_end i_passes =
    elim (eq-or-lt_of_le a_le_i) [
      | inl a_is_i ↦ cc
      | inr a_lt_i ↦ or_right (p a) (list_any p (range_with_len (a + 1) n))
          (range_any p n (a + 1) i (omega arith) (omega arith) i_passes)
    ]

-- ---- members

pub member_filter : (t : ℕ → Bool) (xs : List ℕ) (x : ℕ) → is_member (filter t xs) x ≡ true
    → (t x ≡ true) × (is_member xs x ≡ true)
member_filter t [] x is_member_x = absurd (cc)
member_filter t (y ∷ ys) x is_member_x =
    elim (or_cases (t y && (x == y)) (list_any (λ y. t y && (x == y)) ys)
    (sym (any_filter t (λ y. x == y) (y ∷ ys)) ∙ is_member_x)) [
      | inl passes ↦ search (rules, arith, and_parts, eqb-true, or_left)
      | inr later ↦
          let both = member_filter t ys x (any_filter t (λ y. x == y) ys ∙ later) in
          (both.0, or_right (x == y) (is_member ys x) both.1)
    ]

pub filter_member : (t : ℕ → Bool) (xs : List ℕ) (x : ℕ) → t x ≡ true → is_member xs x ≡ true
    → is_member (filter t xs) x ≡ true
filter_member t xs x x_passes is_member_x =
    grind (arith, common_steps, and_from, any_filter, eqb-true, or_cases, or_left, or_right)

-- ---- what holds of each element

pub each_member : (P : ℕ → Type 0) (xs : List ℕ) → ((x : ℕ) → is_member xs x ≡ true → P x)
    → AllByRecursion P xs
each_member P [] holds_of_members = tt
each_member P (x ∷ xs) holds_of_members =
    let later = each_member P xs (search (rules, arith, or_right)) in
    grind (arith, common_steps, eq-eqb, or_left, or_right)

pub each_map : {X Y : Type 0} (P : Y → Type 0) (f : X → Y) (xs : List X)
    → AllByRecursion (λ x. P (f x)) xs → AllByRecursion P (map f xs)
each_map P f [] each_holds = tt
each_map P f (x ∷ xs) each_holds = (each_holds.0, each_map P f xs each_holds.1)

pub each_any : {X : Type 0} (P : X → Type 0) (xs : List X) → ((x : X) → P x) → AllByRecursion P xs
each_any P [] all_hold = tt
each_any P (x ∷ xs) all_hold = (all_hold x, each_any P xs all_hold)

pub each_filter : {X : Type 0} (P : X → Type 0) (t : X → Bool) (xs : List X)
    → AllByRecursion (λ x. t x ≡ true → P x) xs → AllByRecursion P (filter t xs)
each_filter P t [] each_holds = tt
each_filter {X} P t (x ∷ xs) each_holds = search (rules, arith, (each_filter P t xs each_holds.1))

-- ---- statements

pub got_lt_length : (db : List Statement) (i : ℕ) (s : Statement) → slice_get db i ≡ Some s
    → i < length db
got_lt_length [] zero s s_at_i = absurd (cc)
got_lt_length [] (suc i) s s_at_i = absurd (cc)
got_lt_length (x ∷ db) zero s s_at_i = omega arith
got_lt_length (x ∷ db) (suc i) s s_at_i = grind (arith, common_steps, (got_lt_length db i s s_at_i))

pub statement_at_place : (db : List Statement) (i : ℕ) (s : Statement) → slice_get db i ≡ Some s
    → statement_at db i ≡ s ∷ []
statement_at_place db i s s_at_i = ap (λ o. elim o [ None ↦ [] | Some s ↦ s ∷ [] ]) s_at_i

pub formula_at_place : (db : List Statement) (i : ℕ) (s : Statement) → slice_get db i ≡ Some s
    → formula_at db i ≡ formula_of db s
formula_at_place db i s s_at_i = grind (arith, common_steps, statement_at_place, append-nil)

pub passing_statement : (db : List Statement) (q : Statement → Bool) (i : ℕ)
    → list_any q (statement_at db i) ≡ true
    → (s : Statement) × (slice_get db i ≡ Some s) × (q s ≡ true)
passing_statement db q i some_passes = grind (arith, common_steps, passes_alone)

pub statement_passes : (db : List Statement) (q : Statement → Bool) (i : ℕ) (s : Statement)
    → slice_get db i ≡ Some s → q s ≡ true → list_any q (statement_at db i) ≡ true
statement_passes db q i s s_at_i s_passes = grind (arith, common_steps, statement_at_place, or_left)

pub active_lt_place : (db : List Statement) (i k : ℕ) → active_at db i k ≡ true → i < k
active_lt_place db i k i_is_active = ltb-true i k (and_parts _ _ i_is_active).0

pub passing_active : (db : List Statement) (k : ℕ) (q : ℕ → Bool) → list_any q (active db k) ≡ true
    → (i : ℕ) × (active_at db i k ≡ true) × (q i ≡ true)
passing_active db k q some_passes = grind (arith, common_steps, and_parts, any_filter, any_range)

pub some_active_passes : (db : List Statement) (k : ℕ) (q : ℕ → Bool) (i : ℕ)
    → active_at db i k ≡ true
    → q i ≡ true → list_any q (active db k) ≡ true
some_active_passes db k q i i_is_active i_passes =
    let i_lt_k = active_lt_place db i k i_is_active in
    any_filter (λ i. active_at db i k) q (range_with_len 0 k)
    ∙ range_any (λ i. active_at db i k && q i) k 0 i (omega arith) (omega arith)
    (and_from (active_at db i k) (q i) i_is_active i_passes)

-- ---- names

pub equal_bytes_equal_words : (v w : Bytes) → bytes_eq v w ≡ true → v ≡ w
equal_bytes_equal_words v w tested_equal = (bytes_eq-Decides v w).0 tested_equal

-- a word that the statements declare is declared by one of them
pub declaring_statement : (f : Statement → List Bytes) (db : List Statement) (w : Bytes)
    → is_in w (flat_map f db) ≡ true
    → (i : ℕ) × (s : Statement) × (slice_get db i ≡ Some s) × (is_in w (f s) ≡ true)
declaring_statement f [] w some_declares = absurd (true≢false (sym some_declares))
declaring_statement f (x ∷ db) w some_declares =
    elim (or_cases (is_in w (f x)) (is_in w (flat_map f db))
    (sym (list_any-append (bytes_eq w) (f x) (flat_map f db)) ∙ some_declares)) [
      | inl declares ↦ (0, x, refl, declares)
      | inr later ↦
          let (i, s, s_at_i, s_declares) = declaring_statement f db w later in
          (suc i, s, s_at_i, s_declares)
    ]

-- a word that statement i declares is declared before each later statement
pub later_place_knows_declared : (f : Statement → List Bytes) (db : List Statement) (k i : ℕ)
    (s : Statement)
    → (w : Bytes)
    → slice_get db i ≡ Some s → i < k → is_in w (f s) ≡ true
    → is_in w (flat_map f (take k db)) ≡ true
later_place_knows_declared f [] k zero s w s_at_i i_lt_k s_declares_w = absurd (cc)
later_place_knows_declared f [] k (suc i) s w s_at_i i_lt_k s_declares_w = absurd (cc)
later_place_knows_declared f (x ∷ db) zero i s w s_at_i i_lt_k s_declares_w = absurd (omega arith)
later_place_knows_declared f (x ∷ db) (suc k) zero s w s_at_i i_lt_k s_declares_w =
    grind (arith, common_steps, list_any-append, or_left)
later_place_knows_declared f (x ∷ db) (suc k) (suc i) s w s_at_i i_lt_k s_declares_w =
    let later = later_place_knows_declared f db k i s w s_at_i (omega arith) s_declares_w in
    grind (arith, common_steps, list_any-append, or_right)

pub declared_before_is_declared : (f : Statement → List Bytes) (db : List Statement) (k : ℕ)
    (w : Bytes)
    → is_in w (flat_map f (take k db)) ≡ true → is_in w (flat_map f db) ≡ true
declared_before_is_declared f [] zero w declared_in_front = declared_in_front
declared_before_is_declared f [] (suc k) w declared_in_front = declared_in_front
declared_before_is_declared f (x ∷ db) zero w declared_in_front = search (rules, arith, true≢false)
declared_before_is_declared f (x ∷ db) (suc k) w declared_in_front =
    list_any-append (bytes_eq w) (f x) (flat_map f db)
    ∙ elim (or_cases (is_in w (f x)) (is_in w (flat_map f (take k db)))
    (sym (list_any-append (bytes_eq w) (f x) (flat_map f (take k db))) ∙ declared_in_front)) [
      | inl declared ↦ or_left (is_in w (f x)) (is_in w (flat_map f db)) declared
      | inr later ↦ or_right (is_in w (f x)) (is_in w (flat_map f db))
          (declared_before_is_declared f db k w later)
    ]
