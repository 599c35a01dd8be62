-- The texts of a report and of a refusal (this project's own). Bytes by their codes: 10 is the line
-- feed, 32 the space, 48 and 49 are `0` and `1`, 58 is `:`, 87 is ten less than `a`.
use Rattle.std.specs.Prelude.{ℕ, zero, suc, ◌+◌, ◌*◌, Bool, true, false, List, [], ◌∷◌, ◌++◌}
use Rattle.std.specs.Prelude.{length, map, take, flat_map, codes, decimal, count_by, ◌==◌}
use Rattle.std.specs.Prelude.{if◌then◌else◌, nat_lt, Option, Some, None}
use Rattle.std.specs.Int.{div_ceil}
use Rattle.std.specs.List.{range_with_len, filter}
use Rattle.mm_spec.specs.Text.{Bytes, Fault}
use Rattle.mm_spec.specs.Codes.{code_number}
use Rattle.mm_spec.specs.Request.{Request}
use Rattle.mm_spec.specs.declared.Form.{Form}
use Rattle.mm_spec.specs.declared.Form.TheVariants.{One, Two}

-- the row of a theorem: its label, and for each column whether it is marked
pub record Row : Type 0 where
  pub label : Bytes
  pub marks : List Bool

-- the row of a theorem: its label, and the labels of what its proof cites
pub record CitingRow : Type 0 where
  pub label : Bytes
  pub cited : List Bytes

-- the lines of the sections of the proofs and of the statements
pub record ToldLines : Type 0 where
  pub proofs : List ℕ
  pub statements : List ℕ

-- the text as a line
abbrev pub line : List ℕ → List ℕ
line text = text ++ 10 ∷ []

-- a line of the head: a name and a number
abbrev pub head_line : List ℕ → ℕ → List ℕ
head_line name n = line (name ++ 32 ∷ decimal n)

-- `1` for a marked cell, `0` for any other
abbrev pub digit_of : Bool → ℕ
digit_of true = 49
digit_of false = 48

-- whether column n is marked; after the last column none is
abbrev pub mark_at : ℕ → List Bool → Bool
mark_at n [] = false
mark_at zero (b ∷ bs) = b
mark_at (suc n) (b ∷ bs) = mark_at n bs

-- 1 for a marked cell, 0 for any other
abbrev pub bit_of : Bool → ℕ
bit_of true = 1
bit_of false = 0

-- the number that columns 4i to 4i + 3 make, the first of them as the highest bit
abbrev pub digit_at : ℕ → List Bool → ℕ
digit_at i marks =
    8 * bit_of (mark_at (4 * i) marks) + 4 * bit_of (mark_at (4 * i + 1) marks)
    + 2 * bit_of (mark_at (4 * i + 2) marks) + bit_of (mark_at (4 * i + 3) marks)

-- `0` to `9`, `a` to `f`
abbrev pub hex_digit : ℕ → ℕ
hex_digit n = if nat_lt n 10 then 48 + n else 87 + n

-- how the cells of a row are written
abbrev pub cells : Form → List Bool → List ℕ
cells One marks = map digit_of marks
cells Two marks =
    map (λ i. hex_digit (digit_at i marks)) (range_with_len 0 (div_ceil (length marks) 4))

-- a theorem's line in the section `matrix`
abbrev pub matrix_line : Form → Row → List ℕ
matrix_line form r = line (r.label ++ 58 ∷ cells form r.marks)

-- a theorem's line in the section `counts`
abbrev pub count_line : Row → List ℕ
count_line r = line (r.label ++ 58 ∷ decimal (count_by (λ b. b) r.marks))

-- the rows that are marked in the column: those of the theorems that rest on its axiom
abbrev pub users : ℕ → List Row → List Row
users column rows = filter (λ r. mark_at column r.marks) rows

-- the labels, separated by spaces
abbrev pub separated : List Bytes → List ℕ
separated [] = []
separated (l ∷ []) = l
separated (l ∷ m ∷ ls) = l ++ 32 ∷ separated (m ∷ ls)

-- a label, the number of the labels that follow, and these labels
abbrev pub list_line : Bytes → List Bytes → List ℕ
list_line label labels = line (label ++ 58 ∷ (decimal (length labels) ++ 58 ∷ separated labels))

-- a column's line in the section `usage`
abbrev pub usage_line : List Row → ℕ → Bytes → List ℕ
usage_line rows column label = list_line label (map (λ r. r.label) (users column rows))

-- a theorem's line in the section `citations`
abbrev pub citation_line : CitingRow → List ℕ
citation_line r = list_line r.label r.cited

-- a section: the line with its name and its lines, or nothing if the report doesn't have it
abbrev pub section : Bool → List ℕ → List ℕ → List ℕ
section true name lines = line name ++ lines
section false name lines = []

-- the lines of the columns with these labels, the first of which has this index
abbrev pub usage_lines : List Row → ℕ → List Bytes → List ℕ
usage_lines rows column [] = []
usage_lines rows column (l ∷ ls) = usage_line rows column l ++ usage_lines rows (column + 1) ls

-- the version of the format that has this form
abbrev pub format_version : Form → ℕ
format_version One = 1
format_version Two = 2

-- the line that says how many columns are open theorems, if these count as axioms
abbrev pub open_line : Option ℕ → List ℕ
open_line None = []
open_line (Some n) = head_line (codes "open") n

-- the first lines: the version, the number of columns, how many of them are open theorems if these
-- count as axioms, and the number of theorems
abbrev pub head : Form → ℕ → Option ℕ → ℕ → List ℕ
head form axioms open_theorems theorems =
    head_line (codes "mmdepend") (format_version form) ++ head_line (codes "axioms") axioms
    ++ open_line open_theorems ++ head_line (codes "theorems") theorems

-- the report requested, with these labels of columns, these rows, these rows of citations, and
-- these lines of the proofs and of the statements
abbrev pub report : Request → Option ℕ → List Bytes → List Row → List CitingRow
    → (told : ToldLines) → List ℕ
report request open_theorems columns rows citing_rows told =
    head request.form (length columns) open_theorems (length rows)
    ++ section request.sections.matrix (codes "matrix") (flat_map (matrix_line request.form) rows)
    ++ section request.sections.counts (codes "counts") (flat_map count_line rows)
    ++ section request.sections.usage (codes "usage") (usage_lines rows 0 columns)
    ++ section request.sections.citations (codes "citations") (flat_map citation_line citing_rows)
    ++ section request.sections.proofs (codes "proofs") told.proofs
    ++ section request.sections.statements (codes "statements") told.statements
    ++ line (codes "end")

-- how many bytes there are after the last line feed, with n before these bytes
abbrev pub bytes_after_line_feed_from : ℕ → List ℕ → ℕ
bytes_after_line_feed_from n [] = n
bytes_after_line_feed_from n (b ∷ bs) = bytes_after_line_feed_from (if b == 10 then 0 else n + 1) bs

abbrev pub bytes_after_line_feed : List ℕ → ℕ
bytes_after_line_feed bytes = bytes_after_line_feed_from 0 bytes

-- a number below 100 in two digits
abbrev pub two_digits : ℕ → List ℕ
two_digits n = if length (decimal n) == 1 then 48 ∷ decimal n else decimal n

-- the refusal of a text for a fault, by line, column and code
abbrev pub refusal : List ℕ → Fault → List ℕ
refusal text f = let text_before = take f.at text in
    line (codes "refused " ++ decimal (count_by (λ b. b == 10) text_before + 1)
    ++ 58 ∷ (decimal (bytes_after_line_feed text_before + 1)
    ++ codes " E" ++ two_digits (code_number f.code)))
