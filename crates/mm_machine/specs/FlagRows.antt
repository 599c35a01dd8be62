-- Rows of flags that say which symbols are known to be disjoint.
use Rattle.std.specs.Prelude.{ℕ, ◌≡◌, ◌<◌, ◌+◌, ◌*◌, ◌++◌, Bool, true, List, length, get_or, All}
use Rattle.mm_bits.specs.Bits.{is_bit}
use Rattle.mm_spec.specs.Statement.{Statement}
use Rattle.mm_spec.specs.Derivation.{are_disjoint, is_disjoint_from}
use Rattle.mm_spec.specs.Citation.{context_at}
use Rattle.mm_machine.specs.declared.flag_rows.TheConstants.{ROW_LENGTH}

-- the symbols that have a row and a column, and the flags of the rows, one row after the other, in
-- words of 64 bits
pub record RowsOfFlags : Type 0 where
  pub symbols : List ℕ
  pub flags : List ℕ

abbrev pub flag_rows : List ℕ → List ℕ → RowsOfFlags
flag_rows symbols flags = record { symbols = symbols; flags = flags }

-- the flag of a row and a column
abbrev pub flag_at : List ℕ → ℕ → ℕ → Bool
flag_at flags row column = is_bit flags (row * ROW_LENGTH + column)

-- the symbols of the row and of the column are disjoint at the theorem
pub record AreApartAt (db : List Statement) (t : ℕ) (symbols : List ℕ) (row column : ℕ)
    : Type 0 where
  pub row_lt_length : row < length symbols
  pub column_lt_length : column < length symbols
  pub are_apart : are_disjoint (context_at db t) (get_or symbols row 0) (get_or symbols column 0)
      ≡ true

-- a flag is set only for symbols that are disjoint at the theorem
pub record AreRowsDisjointAt (db : List Statement) (t : ℕ) (r : RowsOfFlags) : Type 0 where
  pub are_apart : (row column : ℕ) → column < ROW_LENGTH
      → flag_at r.flags row column ≡ true → AreApartAt db t r.symbols row column

-- at each theorem at which the first rows are of disjoint symbols, the second ones are too
pub record StayDisjoint (r r' : RowsOfFlags) : Type 0 where
  pub stay : (db : List Statement) (t : ℕ) → AreRowsDisjointAt db t r → AreRowsDisjointAt db t r'

-- the same if the symbol is disjoint from the others
pub record StayDisjointWith (s : ℕ) (others : List ℕ) (r r' : RowsOfFlags) : Type 0 where
  pub stay : (db : List Statement) (t : ℕ) → is_disjoint_from (context_at db t) s others ≡ true
      → AreRowsDisjointAt db t r → AreRowsDisjointAt db t r'

-- the second list begins with the first
abbrev pub ExtendsSymbols : List ℕ → List ℕ → Type 0
ExtendsSymbols xs ys = (more : List ℕ) × (ys ≡ xs ++ more)

-- one of the columns, which are bits, is that of the symbol
pub record HasColumn (symbols columns : List ℕ) (s : ℕ) : Type 0 where
  pub column : ℕ
  pub column_lt : column < ROW_LENGTH
  pub column_lt_length : column < length symbols
  pub is_column_of : get_or symbols column 0 ≡ s
  pub is_set : is_bit columns column ≡ true

-- each of the other symbols has one of the columns
abbrev pub AreColumnsOf : List ℕ → List ℕ → List ℕ → Type 0
AreColumnsOf symbols columns others = All (HasColumn symbols columns) others

-- the row of the symbol has a flag in each of the columns
pub record HasFlags (r : RowsOfFlags) (s : ℕ) (columns : List ℕ) : Type 0 where
  pub row : ℕ
  pub is_row_of : get_or r.symbols row 0 ≡ s
  pub has_flags : (column : ℕ) → is_bit columns column ≡ true → flag_at r.flags row column ≡ true
