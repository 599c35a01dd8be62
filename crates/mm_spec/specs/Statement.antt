-- Statements and their spelling (Metamath book, "Basic Syntax"). The test whether tokens begin a
-- list of statements, and the faults of a text's shape, are this project's own.
use Rattle.std.specs.Prelude.{◌≡◌, ℕ, ◌≤◌, ◌<◌, ◌≢◌, Bool, true, false, ◌&&◌, not, List, [], ◌∷◌}
use Rattle.std.specs.Prelude.{◌++◌, take, Option, Some, None, codes, count_by, flat_map, ◌⊎◌}
use Rattle.std.specs.Prelude.{bytes_eq, if◌then◌else◌, IsTrue, ◌||◌}
use Rattle.std.specs.List.{list_all}
use Rattle.mm_spec.specs.Text.{Bytes, Token, token, Fault, fault, has_dollar, is_label}
use Rattle.mm_spec.specs.declared.Code.TheVariants.{Inclusion, BadLabel, UnexpectedToken}
use Rattle.mm_spec.specs.declared.Code.TheVariants.{OpenStatement, UnopenedBlock, OpenBlock}
use Rattle.mm_spec.specs.declared.Code.{Code}

-- The nine shapes. A number is the place of a keyword.
pub data Statement : Type 0 where
  constants : (keyword : ℕ) (symbols : List Token) (dot : ℕ) → Statement
  variables : (keyword : ℕ) (symbols : List Token) (dot : ℕ) → Statement
  disjoint : (keyword : ℕ) (symbols : List Token) (dot : ℕ) → Statement
  floating : (label : Token) (keyword : ℕ) (symbols : List Token) (dot : ℕ) → Statement
  essential : (label : Token) (keyword : ℕ) (symbols : List Token) (dot : ℕ) → Statement
  axiomatic : (label : Token) (keyword : ℕ) (symbols : List Token) (dot : ℕ) → Statement
  provable : (label : Token) (keyword : ℕ) (symbols : List Token) (equals : ℕ) (proof : List Token)
      → (dot : ℕ)
      → Statement
  opening : (keyword : ℕ) → Statement
  closing : (keyword : ℕ) → Statement

-- the tokens that spell a statement
abbrev pub spelling_of : Statement → List Token
spelling_of (constants k xs d) = token k (codes "$c") ∷ (xs ++ token d (codes "$.") ∷ [])
spelling_of (variables k xs d) = token k (codes "$v") ∷ (xs ++ token d (codes "$.") ∷ [])
spelling_of (disjoint k xs d) = token k (codes "$d") ∷ (xs ++ token d (codes "$.") ∷ [])
spelling_of (floating l k xs d) = l ∷ token k (codes "$f") ∷ (xs ++ token d (codes "$.") ∷ [])
spelling_of (essential l k xs d) = l ∷ token k (codes "$e") ∷ (xs ++ token d (codes "$.") ∷ [])
spelling_of (axiomatic l k xs d) = l ∷ token k (codes "$a") ∷ (xs ++ token d (codes "$.") ∷ [])
spelling_of (provable l k xs e ps d) =
    l ∷ token k (codes "$p") ∷ (xs ++ token e (codes "$=") ∷ (ps ++ token d (codes "$.") ∷ []))
spelling_of (opening k) = token k (codes "${") ∷ []
spelling_of (closing k) = token k (codes "$}") ∷ []

-- the label of a statement, if it has one
abbrev pub label_of : Statement → Option Token
label_of (floating l k xs d) = Some l
label_of (essential l k xs d) = Some l
label_of (axiomatic l k xs d) = Some l
label_of (provable l k xs e ps d) = Some l
label_of _ = None

-- the symbols between the keyword and the next one
abbrev pub symbols_of : Statement → List Token
symbols_of (constants k xs d) = xs
symbols_of (variables k xs d) = xs
symbols_of (disjoint k xs d) = xs
symbols_of (floating l k xs d) = xs
symbols_of (essential l k xs d) = xs
symbols_of (axiomatic l k xs d) = xs
symbols_of (provable l k xs e ps d) = xs
symbols_of _ = []

-- the words of a proof
abbrev pub proof_of : Statement → List Token
proof_of (provable l k xs e ps d) = ps
proof_of _ = []

abbrev pub is_opening : Statement → Bool
is_opening (opening k) = true
is_opening _ = false

abbrev pub is_closing : Statement → Bool
is_closing (closing k) = true
is_closing _ = false

-- words of a statement other than its label and keywords: none contains a `$`
abbrev pub is_plain : List Token → Bool
is_plain ts = list_all (λ t. not (has_dollar t.word)) ts

-- whether the label, if the statement has one, is spelled as a label
abbrev pub is_label_if_any : Option Token → Bool
is_label_if_any None = true
is_label_if_any (Some l) = is_label l.word

-- a complete statement: a label where one belongs, and words without `$` between the keywords
abbrev pub is_complete : Statement → Bool
is_complete s = is_label_if_any (label_of s) && is_plain (symbols_of s) && is_plain (proof_of s)

-- complete statements, in their order, no prefix of which has more `$}` than `${`
pub record AreStatements (statements : List Statement) : Type 0 where
  pub complete : IsTrue (list_all is_complete statements)
  pub nested : (n : ℕ)
      → count_by is_closing (take n statements) ≤ count_by is_opening (take n statements)

-- some such list of statements begins with the tokens
abbrev pub BeginStatements : List Token → Type 0
BeginStatements ts =
    (statements : List Statement) × AreStatements statements × (continuation : List Token)
    × (flat_map spelling_of statements ≡ ts ++ continuation)

-- the tokens spell such a list, so the next one begins a statement
abbrev pub IsBetween : List Token → Type 0
IsBetween ts =
    (statements : List Statement) × AreStatements statements
    × (flat_map spelling_of statements ≡ ts)

-- The code for a token with which no such list continues, at the beginning of a statement: `$}`
-- without an open block (E09), another keyword (E07), or a word that isn't a label (E06).
abbrev pub code_between_statements : Bytes → Code
code_between_statements w =
    if bytes_eq w (codes "$}") then UnopenedBlock
    else if has_dollar w then UnexpectedToken
    else BadLabel

-- The code for a token with which no such list continues: `$[` or `$]` (E05), otherwise the one
-- above between two statements, and within a statement E07.
abbrev pub shape_code : Bool → Bytes → Code
shape_code between w =
    if bytes_eq w (codes "$[") || bytes_eq w (codes "$]") then Inclusion
    else if between then code_between_statements w
    else UnexpectedToken

-- the fault at the first token such that no such list begins with the tokens up to and including it
pub record ShapeFault (tokens : List Token) (f : Fault) : Type 0 where
  pub before : List Token
  pub first : Token
  pub after : List Token
  pub splits : tokens ≡ before ++ first ∷ after
  pub begins : BeginStatements before
  pub no_more : ¬ BeginStatements (before ++ first ∷ [])
  pub fault_is : (IsBetween before × (f ≡ fault first.at (shape_code true first.word)))
      ⊎ ((¬ IsBetween before) × (f ≡ fault first.at (shape_code false first.word)))

-- the longest such list at the beginning of the tokens
pub record AreLongestStatements (tokens : List Token) (statements : List Statement) : Type 0 where
  pub are_statements : AreStatements statements
  pub rest : List Token
  pub splits : tokens ≡ flat_map spelling_of statements ++ rest
  pub longest : (s : Statement) (continuation : List Token) → AreStatements (statements ++ s ∷ [])
      → ¬ (rest ≡ spelling_of s ++ continuation)

-- The fault at the end of a text of `len` bytes that has no other fault of shape: after the longest
-- list part of a statement is left (E08), or nothing is left and a block is open (E10).
pub record FileEndFault (len : ℕ) (tokens : List Token) (f : Fault) : Type 0 where
  pub statements : List Statement
  pub are_statements : AreLongestStatements tokens statements
  pub fault_is : ((are_statements.rest ≢ []) × (f ≡ fault len OpenStatement))
      ⊎ ((are_statements.rest ≡ [])
      × (count_by is_closing statements < count_by is_opening statements)
      × (f ≡ fault len OpenBlock))
