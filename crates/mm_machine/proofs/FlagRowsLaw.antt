-- Flags are set only for symbols that are disjoint.
use Rattle.std.proofs.lemmas.Grind.{common_steps}
use Rattle.std.proofs.lemmas.Bool.Decides.{nat_tests}
use Rattle.std.proofs.Common.{◌≡◌, ℕ, ◌+◌, ◌-◌, ◌*◌, ◌/◌, ◌%◌, ◌<◌, ◌≤◌, Bool, true, false, cond, ◌⊎◌}
use Rattle.std.proofs.Common.{inl, inr, List, [], ◌∷◌, ◌++◌, length, take, drop, get_or, slice_range}
use Rattle.std.proofs.Common.{replicate, sym, ap, ap₂, ◌∙◌, arith, subst, length-append, eqb}
use Rattle.std.specs.Int.{bit_at}
use Rattle.std.specs.List.{list_all}
use Rattle.std.proofs.lemmas.Nat.Bits.{bit_at-zero}
use Rattle.std.proofs.lemmas.Bool.{cases_lt, and_parts}
use Rattle.std.proofs.lemmas.List.{get_or_append_left, get_or-append-add, get_or-take, get_or-drop}
use Rattle.std.proofs.lemmas.List.{take_more}
use Rattle.std.proofs.lemmas.List.Sums.{list_all-from_AllPass}
use Rattle.std.proofs.lemmas.List.Elements.{All-push, All-weaker}
use Rattle.mm_bits.specs.Bits.{is_bit, HasBitsOf}
use Rattle.mm_bits.proofs.BitLaw.{no_bit_past_words}
use Rattle.mm_spec.specs.Statement.{Statement}
use Rattle.mm_spec.specs.Derivation.{are_disjoint, is_disjoint_from}
use Rattle.mm_spec.specs.Citation.{context_at}
use Rattle.mm_machine.specs.declared.flag_rows.TheConstants.{ROW_LENGTH, ROW_WORDS}
use Rattle.mm_machine.specs.FlagRows.{RowsOfFlags, flag_at, AreApartAt, StayDisjoint, AreColumnsOf}
use Rattle.mm_machine.specs.FlagRows.{flag_rows, HasColumn}
use Rattle.mm_machine.specs.FlagRows.{AreRowsDisjointAt, StayDisjointWith, ExtendsSymbols, HasFlags}

no_bit_of_zero : (j : ℕ) → eqb (bit_at 0 j) 1 ≡ true → ⊥
no_bit_of_zero j is_set = grind (arith, nat_tests, bit_at-zero)

-- words without flags
abbrev no_flags : ℕ → List ℕ
no_flags m = replicate m 0

no_flag_filled : (m i : ℕ) → get_or (no_flags m) i 0 ≡ 0
no_flag_filled m i = grind (arith, common_steps)

-- a flag of a list that was cut, or filled up without flags, was there before
set_before : (n : ℕ) (flags : List ℕ) (m j : ℕ)
    → is_bit (take n flags ++ no_flags m) j ≡ true → is_bit flags j ≡ true
set_before n flags m j is_set = by (cases_lt (j / 64) (length (take n flags)))
  where
    by : (j / 64 < length (take n flags)) ⊎ (length (take n flags) ≤ j / 64)
        → is_bit flags j ≡ true
    by (inl lt) =
        let same : get_or (take n flags ++ no_flags m) (j / 64) 0 ≡ get_or flags (j / 64) 0 =
        get_or_append_left (take n flags) (no_flags m) 0 (j / 64) lt
        ∙ get_or_of_take lt in
        rw same at is_set
      where
        get_or_of_take : j / 64 < length (take n flags)
            → get_or (take n flags) (j / 64) 0 ≡ get_or flags (j / 64) 0
        get_or_of_take lt = grind (arith, common_steps)
    by (inr le) =
        let place : j / 64 ≡ length (take n flags) + (j / 64 - length (take n flags)) =
        omega (arith, le) in
        let past : get_or (take n flags ++ no_flags m) (j / 64) 0 ≡ 0 =
        ap (λ i. get_or (take n flags ++ no_flags m) i 0) place
        ∙ get_or-append-add (take n flags) (no_flags m) (j / 64 - length (take n flags)) 0
        ∙ no_flag_filled m (j / 64 - length (take n flags)) in
        absurd (no_bit_of_zero (j % 64) (rw past at is_set))

more_symbols : (db : List Statement) (t : ℕ) (symbols more : List ℕ) (row column : ℕ)
    → AreApartAt db t symbols row column → AreApartAt db t (symbols ++ more) row column
more_symbols db t symbols more row column apart =
    grind (arith, common_steps, length-append, get_or_append_left)

flag_was : (flags flags' : List ℕ) (n m : ℕ) (is_resized : Bool)
    → flags' ≡ cond is_resized (take n flags ++ no_flags m) flags
    → (j : ℕ) → is_bit flags' j ≡ true → is_bit flags j ≡ true
flag_was flags flags' n m true flags_are j is_set =
    set_before n flags m j (subst (λ (z : List ℕ). is_bit z j ≡ true) flags_are is_set)
flag_was flags flags' n m false flags_are j is_set =
    subst (λ (z : List ℕ). is_bit z j ≡ true) flags_are is_set

apart_still : (db : List Statement) (t : ℕ) (symbols symbols' : List ℕ) (s row column : ℕ)
    (is_pushed : Bool) → symbols' ≡ cond is_pushed (symbols ++ s ∷ []) symbols
    → AreApartAt db t symbols row column → AreApartAt db t symbols' row column
apart_still db t symbols symbols' s row column true symbols_are apart =
    subst (λ (z : List ℕ). AreApartAt db t z row column) (sym symbols_are)
    (more_symbols db t symbols (s ∷ []) row column apart)
apart_still db t symbols symbols' s row column false symbols_are apart =
    subst (λ (z : List ℕ). AreApartAt db t z row column) (sym symbols_are) apart

pub grown_stay_disjoint : (symbols symbols' : List ℕ) (flags flags' : List ℕ) (s n m : ℕ)
    (is_pushed is_resized : Bool) → symbols' ≡ cond is_pushed (symbols ++ s ∷ []) symbols
    → flags' ≡ cond is_resized (take n flags ++ no_flags m) flags
    → StayDisjoint (flag_rows symbols flags) (flag_rows symbols' flags')
grown_stay_disjoint symbols symbols' flags flags' s n m is_pushed is_resized symbols_are flags_are =
    record {
      stay = λ db t disjoint. record {
        are_apart = λ row column column_lt is_set.
            apart_still db t symbols symbols' s row column is_pushed symbols_are
            (disjoint.are_apart row column column_lt
            (flag_was flags flags' n m is_resized flags_are (row * ROW_LENGTH + column) is_set));
      };
    }

-- ---- a flag

pub set_stays_disjoint : (symbols : List ℕ) (flags flags' : List ℕ) (s other row column : ℕ)
    → row < length symbols → column < length symbols → column < ROW_LENGTH
    → get_or symbols row 0 ≡ s → get_or symbols column 0 ≡ other
    → ((k : ℕ) → is_bit flags' k ≡ true
    → (is_bit flags k ≡ true) ⊎ (k ≡ row * ROW_LENGTH + column))
    → StayDisjointWith s (other ∷ []) (flag_rows symbols flags) (flag_rows symbols flags')
set_stays_disjoint symbols flags flags' s other row column row_lt_length column_lt_length column_lt
    row_is column_is only_set = record {
      stay = λ db t is_disjoint disjoint. record {
        are_apart = λ row' column' column_lt' is_set.
            is_apart db t is_disjoint disjoint row' column' column_lt'
            (only_set (row' * ROW_LENGTH + column') is_set);
      };
    }
  where
    is_apart : (db : List Statement) (t : ℕ)
        → is_disjoint_from (context_at db t) s (other ∷ []) ≡ true
        → AreRowsDisjointAt db t (flag_rows symbols flags) → (row' column' : ℕ)
        → column' < ROW_LENGTH → (is_bit flags (row' * ROW_LENGTH + column') ≡ true)
        ⊎ (row' * ROW_LENGTH + column' ≡ row * ROW_LENGTH + column)
        → AreApartAt db t symbols row' column'
    is_apart db t is_disjoint disjoint row' column' column_lt' (inl was_set) =
        disjoint.are_apart row' column' column_lt' was_set
    is_apart db t is_disjoint disjoint row' column' column_lt' (inr is_this) =
        let row_equal : row' ≡ row = omega (arith, is_this, column_lt, column_lt') in
        let column_equal : column' ≡ column = omega (arith, is_this, row_equal) in
        record {
          row_lt_length = omega (arith, row_equal, row_lt_length);
          column_lt_length = omega (arith, column_equal, column_lt_length);
          are_apart = ap₂ (are_disjoint (context_at db t))
              (ap (λ n. get_or symbols n 0) row_equal ∙ row_is)
              (ap (λ n. get_or symbols n 0) column_equal ∙ column_is)
              ∙ (and_parts (are_disjoint (context_at db t) s other) true is_disjoint).0;
        }

list_all_at : (test : ℕ → Bool) (xs : List ℕ) (i d : ℕ) → i < length xs → list_all test xs ≡ true
    → test (get_or xs i d) ≡ true
list_all_at test xs i d h1 h2 = grind (arith, common_steps, and_parts)

-- one more of the symbols from which a symbol is disjoint
pub next_stays_disjoint : (s other i : ℕ) (others : List ℕ) (r r' r'' : RowsOfFlags)
    → i < length others → other ≡ get_or others i other → StayDisjointWith s others r r'
    → StayDisjointWith s (other ∷ []) r' r'' → StayDisjointWith s others r r''
next_stays_disjoint s other i others r r' r'' i_lt_length other_is so_far next =
    grind (arith, common_steps, list_all_at)

-- ---- columns

-- the flags of a row are the bits of its words
pub flags_of_row : (flags columns : List ℕ) (row : ℕ) → length columns ≤ ROW_WORDS
    → HasBitsOf (slice_range flags (row * ROW_WORDS) (row * ROW_WORDS + ROW_WORDS)) columns
    → (column : ℕ) → is_bit columns column ≡ true → flag_at flags row column ≡ true
flags_of_row flags columns row columns_le has_bits column is_set =
    by (cases_lt (column / 64) (length columns))
  where
    words : List ℕ
    words = slice_range flags (row * ROW_WORDS) (row * ROW_WORDS + ROW_WORDS)

    by : (column / 64 < length columns) ⊎ (length columns ≤ column / 64)
        → flag_at flags row column ≡ true
    by (inr le) =
        let none = no_bit_past_words columns column (omega (arith, le)) in
        absurd cc
    by (inl lt) =
        let place : row * ROW_WORDS + column / 64 ≡ (row * ROW_LENGTH + column) / 64 =
        omega arith in
        let word_is : get_or words (column / 64) 0
        ≡ get_or flags ((row * ROW_LENGTH + column) / 64) 0 =
        get_or-take (row * ROW_WORDS + ROW_WORDS - row * ROW_WORDS)
        (drop (row * ROW_WORDS) flags) (column / 64) 0 (omega (arith, lt, columns_le))
        ∙ get_or-drop (row * ROW_WORDS) flags (column / 64) 0
        ∙ ap (λ i. get_or flags i 0) place in
        let bit_is : column % 64 ≡ (row * ROW_LENGTH + column) % 64 = omega arith in
        ap₂ (λ word bit. eqb (bit_at word bit) 1) (sym word_is) (sym bit_is)
        ∙ has_bits column is_set

-- a symbol with a flag in each column is disjoint from the symbols of the columns
pub flagged_are_disjoint : (db : List Statement) (t : ℕ) (r : RowsOfFlags) (s : ℕ)
    (columns others : List ℕ) → AreRowsDisjointAt db t r → AreColumnsOf r.symbols columns others
    → HasFlags r s columns → is_disjoint_from (context_at db t) s others ≡ true
flagged_are_disjoint db t r s columns others disjoint are_columns has_flags =
    list_all-from_AllPass (are_disjoint (context_at db t) s) others
    (All-weaker (HasColumn r.symbols columns)
    (λ other. are_disjoint (context_at db t) s other ≡ true) is_apart others are_columns)
  where
    is_apart : (other : ℕ) → HasColumn r.symbols columns other
        → are_disjoint (context_at db t) s other ≡ true
    is_apart other has =
        sym (ap₂ (are_disjoint (context_at db t)) has_flags.is_row_of has.is_column_of)
        ∙ (disjoint.are_apart has_flags.row has.column has.column_lt
        (has_flags.has_flags has.column has.is_set)).are_apart

column_stays : (symbols symbols' columns columns' : List ℕ) (s : ℕ)
    → ExtendsSymbols symbols symbols'
    → ((k : ℕ) → is_bit columns k ≡ true → is_bit columns' k ≡ true)
    → HasColumn symbols columns s → HasColumn symbols' columns' s
column_stays symbols symbols' columns columns' s extends stay has = record {
  column = has.column;
  column_lt = has.column_lt;
  column_lt_length = omega (
    arith,
    has.column_lt_length,
    ap length extends.1,
    length-append symbols extends.0,
  );
  is_column_of = ap (λ xs. get_or xs has.column 0) extends.1
      ∙ get_or_append_left symbols extends.0 0 has.column has.column_lt_length
      ∙ has.is_column_of;
  is_set = stay has.column has.is_set;
}

pub columns_stay : (symbols symbols' columns others : List ℕ) → ExtendsSymbols symbols symbols'
    → AreColumnsOf symbols columns others → AreColumnsOf symbols' columns others
columns_stay symbols symbols' columns others extends are_columns =
    All-weaker (HasColumn symbols columns) (HasColumn symbols' columns)
    (λ s has. column_stays symbols symbols' columns columns s extends (λ k is_set. is_set) has)
    others are_columns

-- one more symbol with its column
pub next_has_column : (symbols symbols' columns columns' others : List ℕ) (i s column : ℕ)
    → i < length others → s ≡ get_or others i s → ExtendsSymbols symbols symbols'
    → ((k : ℕ) → is_bit columns k ≡ true → is_bit columns' k ≡ true)
    → column < ROW_LENGTH → column < length symbols' → get_or symbols' column 0 ≡ s
    → is_bit columns' column ≡ true → AreColumnsOf symbols columns (take i others)
    → AreColumnsOf symbols' columns' (take (i + 1) others)
next_has_column symbols symbols' columns columns' others i s column i_lt s_is extends stay column_lt
    lt_length is_column_of is_set so_far =
    subst (AreColumnsOf symbols' columns')
    (sym (take_more others i s i_lt ∙ ap (λ x. take i others ++ x ∷ []) (sym s_is)))
    (All-push (HasColumn symbols' columns') (take i others) s
    (All-weaker (HasColumn symbols columns) (HasColumn symbols' columns')
    (λ r has. column_stays symbols symbols' columns columns' r extends stay has) (take i others)
    so_far) (record {
      column = column;
      column_lt = column_lt;
      column_lt_length = lt_length;
      is_column_of = is_column_of;
      is_set = is_set;
    }))
