-- What statements without a fault of scope have: declared symbols, typed variables.
use Rattle.std.proofs.Common.{rules, ◌≡◌, ℕ, ◌==◌, Bool, true, false, ◌&&◌, ◌||◌, not, ◌⊎◌, inl}
use Rattle.std.proofs.Common.{inr, List, [], ◌∷◌, ◌++◌, map, flat_map, Some, None, slice_get}
use Rattle.std.proofs.Common.{nat_lt, refl, sym, true≢false, arith, bytes_eq, eqb-true, lt-ltb}
use Rattle.std.proofs.lemmas.Grind.{common_steps}
use Rattle.std.specs.List.{list_any}
use Rattle.std.proofs.lemmas.Bool.{or_cases, or_left, or_right, and_parts, and_from, cases_lt}
use Rattle.std.proofs.lemmas.Bool.{not-false}
use Rattle.std.proofs.lemmas.Slice.Eq.{bytes_eq-Decides}
use Rattle.mm_spec.specs.Text.{Bytes, Token, Fault, is_in, words}
use Rattle.mm_spec.specs.Statement.{Statement, constants, variables, floating, essential, axiomatic}
use Rattle.mm_spec.specs.Statement.{provable, symbols_of}
use Rattle.mm_spec.specs.Scope.{Names, Typing, is_local, is_global, active_at, constants_of}
use Rattle.mm_spec.specs.Scope.{variables_of, typings_of, is_block_open}
use Rattle.mm_spec.specs.Lawful.{when, faults_at, faults_at_each, is_typed, formula_faults}
use Rattle.mm_spec.specs.Lawful.{label_faults, scope_faults, least}
use Rattle.mm_spec.specs.Frame.{symbol_names, index_of, is_variable_number, is_floating}
use Rattle.mm_spec.specs.Frame.{is_essential}
use Rattle.mm_spec.specs.Derivation.{is_member}
use Rattle.mm_spec.specs.declared.Code.{Code}
use Rattle.mm_spec.proofs.ActivityLaw.{is_block_open_iff_in_block}
use Rattle.mm_spec.proofs.FindsLaw.{equal_bytes_equal_words}

-- ---- no faults

pub no_least_no_faults : (fs : List Fault) → least fs ≡ None → fs ≡ []
no_least_no_faults [] none_is_least = refl
no_least_no_faults (f ∷ fs) none_is_least = grind (arith, common_steps)

pub both_are_empty : {X : Type 0} (xs ys : List X) → xs ++ ys ≡ [] → (xs ≡ []) × (ys ≡ [])
both_are_empty [] ys joined_is_empty = (refl, joined_is_empty)
both_are_empty (x ∷ xs) ys joined_is_empty = absurd (cc)

pub no_faults_no_codes : (p : ℕ) (cs : List Code) → faults_at p cs ≡ [] → cs ≡ []
no_faults_no_codes p [] no_faults = refl
no_faults_no_codes p (c ∷ cs) no_faults = absurd (cc)

pub no_code_if_false : (b : Bool) (c : Code) → when b c ≡ [] → b ≡ false
no_code_if_false b c h1 = grind (arith, common_steps)

first_of_three : (a b c : Bool) → (a || b || c) ≡ false → a ≡ false
first_of_three a b c h1 = grind (arith, common_steps)

second_of_three : (a b c : Bool) → (a || b || c) ≡ false → b ≡ false
second_of_three a b c h1 = grind (arith, common_steps)

-- each symbol has no codes
pub each_word_has_no_codes : (codes : List Bytes → Bytes → List Code) (earlier_words : List Bytes)
    (ts : List Token)
    → faults_at_each codes earlier_words ts ≡ [] → (w : Bytes) → is_in w (words ts) ≡ true
    → (earlier : List Bytes) × (codes earlier w ≡ [])
each_word_has_no_codes codes earlier_words [] no_faults w w_is_there = cc
each_word_has_no_codes codes earlier_words (t ∷ ts) no_faults w w_is_there =
    let both = both_are_empty (faults_at t.at (codes earlier_words t.word))
    (faults_at_each codes (t.word ∷ earlier_words) ts) no_faults in
    elim (or_cases (bytes_eq w t.word) (is_in w (words ts)) w_is_there) [
      | inl is_first ↦
          let no_codes = no_faults_no_codes t.at (codes earlier_words t.word) both.0 in
          (earlier_words, cc (equal_bytes_equal_words w t.word is_first))
      | inr later ↦ each_word_has_no_codes codes (t.word ∷ earlier_words) ts both.1 w later
    ]

-- ---- what lawful statements declare

pub not_constant_and_variable : (s : Statement) (w : Bytes) → is_in w (constants_of s) ≡ true
    → is_in w (variables_of s) ≡ true → ⊥
not_constant_and_variable s w h1 h2 = grind (arith, common_steps, true≢false)

pub constant_is_no_variable_before : (n : Names) (d : ℕ) (s : Statement) (w : Bytes)
    → scope_faults n d s ≡ []
    → is_in w (constants_of s) ≡ true → is_in w n.all_variables ≡ false
constant_is_no_variable_before n d (constants k xs e) w no_faults declares_w =
    search (rules, arith, both_are_empty, each_word_has_no_codes, second_of_three, no_code_if_false)
constant_is_no_variable_before n d _ w no_faults declares_w = absurd (true≢false (sym declares_w))

pub variable_is_no_constant_before : (n : Names) (d : ℕ) (s : Statement) (w : Bytes)
    → scope_faults n d s ≡ []
    → is_in w (variables_of s) ≡ true → is_in w n.constants ≡ false
variable_is_no_constant_before n d (variables k xs e) w no_faults declares_w =
    search (rules, arith, both_are_empty, each_word_has_no_codes, first_of_three, no_code_if_false)
variable_is_no_constant_before n d _ w no_faults declares_w = absurd (true≢false (sym declares_w))

-- ---- formulas

abbrev pub has_formula : Statement → Bool
has_formula (essential l k xs d) = true
has_formula (axiomatic l k xs d) = true
has_formula (provable l k xs e ps d) = true
has_formula _ = false

-- a symbol is a constant or has a type
abbrev pub IsKnown : Names → Bytes → Type 0
IsKnown n w = (is_in w n.constants ≡ true) ⊎ (is_typed n w ≡ true)

constant_or_typed : (c a t : Bool) → not (c || a) ≡ false → (a && not t) ≡ false
    → (c ≡ true) ⊎ (t ≡ true)
constant_or_typed c a t h1 h2 = grind (arith, common_steps, not-false)

formula_symbols_are_known : (n : Names) (xs : List Token) (end : ℕ) → formula_faults n xs end ≡ []
    → (w : Bytes)
    → is_in w (words xs) ≡ true → IsKnown n w
formula_symbols_are_known n [] end no_faults w w_is_there = absurd (true≢false (sym w_is_there))
formula_symbols_are_known n (t ∷ ts) end no_faults w w_is_there =
    search (
      rules,
      arith,
      or_cases,
      bytes_eq,
      equal_bytes_equal_words,
      not-false,
      no_code_if_false,
      no_faults_no_codes,
      both_are_empty,
      each_word_has_no_codes,
      constant_or_typed,
    )

pub symbols_are_known : (n : Names) (d : ℕ) (s : Statement) → has_formula s ≡ true
    → scope_faults n d s ≡ [] → (w : Bytes) → is_in w (words (symbols_of s)) ≡ true → IsKnown n w
symbols_are_known n d s h1 h2 w h3 =
    grind (arith, common_steps, formula_symbols_are_known, both_are_empty, true≢false)

-- a label without a fault is new
pub faultless_label_is_new : (n : Names) (l : Token) → label_faults n l ≡ []
    → is_in l.word n.labels ≡ false
faultless_label_is_new n l no_faults =
    grind (arith, common_steps, both_are_empty, no_faults_no_codes, no_code_if_false)

-- a `$f` has a constant and a variable
pub record IsTyping (n : Names) (s : Statement) : Type 0 where
  pub label : Token
  pub keyword : ℕ
  pub typecode : Token
  pub variable : Token
  pub dot : ℕ
  pub is_floating_of : s ≡ floating label keyword (typecode ∷ variable ∷ []) dot
  pub typecode_is_constant : is_in typecode.word n.constants ≡ true

pub faultless_floating_is_typed : (n : Names) (d : ℕ) (s : Statement) → is_floating s ≡ true
    → scope_faults n d s ≡ [] → IsTyping n s
faultless_floating_is_typed n d s h1 h2 =
    grind (arith, common_steps, both_are_empty, and_parts, true≢false)

pub typed_is_floating : (q : Typing → Bool) (s : Statement) → list_any q (typings_of s) ≡ true
    → is_floating s ≡ true
typed_is_floating q s h1 = grind (arith, common_steps, true≢false)

-- ---- numbers of symbols

pub symbol_of_number_is : (w v : Bytes) (vs : List Bytes) → slice_get vs (index_of w vs) ≡ Some v
    → v ≡ w
symbol_of_number_is w v [] got_v = absurd (cc)
symbol_of_number_is w v (u ∷ us) got_v =
    grind (arith, equal_bytes_equal_words w u, symbol_of_number_is w v us)

pub word_of_variable_number : (db : List Statement) (w : Bytes)
    → is_variable_number db (index_of w (symbol_names db)) ≡ true
    → is_in w (flat_map variables_of db) ≡ true
word_of_variable_number db w is_variable = grind (arith, common_steps, symbol_of_number_is)

pub word_of_member : (names ws : List Bytes) (x : ℕ)
    → is_member (map (λ w. index_of w names) ws) x ≡ true
    → (w : Bytes) × (is_in w ws ≡ true) × (x ≡ index_of w names)
word_of_member names [] x x_is_number = absurd (true≢false (sym x_is_number))
word_of_member names (v ∷ ws) x x_is_number =
    elim (or_cases (x == index_of v names) (is_member (map (λ w. index_of w names) ws) x)
    x_is_number) [
      | inl is_first ↦
          let v_is_v = (bytes_eq-Decides v v).1 refl in
          (v, or_left (bytes_eq v v) (is_in v ws) v_is_v, eqb-true x (index_of v names) is_first)
      | inr later ↦
          let (w, w_is_there, x_is) = word_of_member names ws x later in
          (w, or_right (bytes_eq w v) (is_in w ws) w_is_there, x_is)
    ]

-- ---- activity of what is local

pub record IsLocal (s : Statement) : Type 0 where
  pub local : is_local s ≡ true
  pub global : is_global s ≡ false

pub floating_is_local : (s : Statement) → is_floating s ≡ true → IsLocal s
floating_is_local s h1 = grind (arith, common_steps, true≢false)

pub essential_is_local_kind : (s : Statement) → is_essential s ≡ true → IsLocal s
essential_is_local_kind s h1 = grind (arith, common_steps, true≢false)

local_is_active_in_block : (db : List Statement) (i k : ℕ) (s : Statement) → slice_get db i ≡ Some s
    → IsLocal s
    → active_at db i k ≡ (nat_lt i k && is_block_open db i k)
local_is_active_in_block db i k s s_at_i is_local_s = grind (arith, common_steps)

-- what is active at a statement that is still active, is active too
pub still_active : (db : List Statement) (i j k : ℕ) (s t : Statement) → slice_get db i ≡ Some s
    → IsLocal s → slice_get db j ≡ Some t → IsLocal t → active_at db i j ≡ true
    → active_at db j k ≡ true → active_at db i k ≡ true
still_active db i j k s t s_at_i s_is_local t_at_j t_is_local i_active_at_j j_active_at_k =
    grind (
      arith,
      common_steps,
      and_from,
      and_parts,
      cases_lt,
      local_is_active_in_block,
      lt-ltb,
      is_block_open_iff_in_block,
    )
