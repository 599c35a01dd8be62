-- Variables of formulas, each once.
use Rattle.std.specs.Prelude.{ℕ, ◌≡◌, ◌≤◌, ◌<◌, ◌++◌, ◌∷◌, ◌⊎◌, Bool, true, false, All, List, []}
use Rattle.std.specs.Prelude.{length, drop, get_or, slice_range, map}
use Rattle.std.specs.List.{list_all, Contains}
use Rattle.std.specs.List.Sorted.{IsPermutation}
use Rattle.mm_spec.specs.Statement.{Statement}
use Rattle.mm_spec.specs.Derivation.{Formula, are_all_disjoint}
use Rattle.mm_spec.specs.Frame.{is_variable_number, symbol_names}
use Rattle.mm_spec.specs.Citation.{context_at}
use Rattle.mm_nodes.specs.Strings.{no_body, string_of}
use Rattle.mm_nodes.specs.declared.heads.Segment.{Segment}
use Rattle.mm_nodes.specs.Store.{segment}
use Rattle.mm_machine.specs.declared.entry.Entry.{Entry}
use Rattle.mm_machine.specs.Entries.{no_entry}
use Rattle.mm_machine.specs.Filled.{body_string_at}
use Rattle.mm_machine.specs.State.{IsRising}

-- the symbols of segment `j` of a list
abbrev pub segment_at : List ℕ → List Segment → ℕ → List ℕ
segment_at list ss j =
    slice_range list (get_or ss j (segment 0 0)).start (get_or ss j (segment 0 0)).end

-- whether, at theorem `t`, the variables in what replaces one variable by the entries are disjoint
-- from those in what replaces another one
abbrev pub are_bodies_disjoint : List Statement → ℕ → List (List ℕ) → List Entry → ℕ × ℕ → Bool
are_bodies_disjoint db t nodes es p =
    are_all_disjoint (context_at db t) (body_string_at nodes es p.0) (body_string_at nodes es p.1)

-- the same of two bodies
abbrev pub are_strings_disjoint : List Statement → ℕ → List (List ℕ) → ℕ × ℕ → Bool
are_strings_disjoint db t nodes p =
    are_all_disjoint (context_at db t) (string_of nodes p.0) (string_of nodes p.1)

-- the bodies of two entries
abbrev pub body_pair : List Entry → ℕ × ℕ → ℕ × ℕ
body_pair es p = ((get_or es p.0 no_entry).body, (get_or es p.1 no_entry).body)

-- the list has both
abbrev pub HasBoth : List ℕ → ℕ × ℕ → Type 0
HasBoth bs p = Contains bs p.0 × Contains bs p.1

-- each symbol of the body's string is one of the database
abbrev pub HasSymbols : List Statement → List (List ℕ) → ℕ → Type 0
HasSymbols db nodes b = All (λ s. s < length (symbol_names db)) (string_of nodes b)

-- it is a segment of a list of `n` symbols
pub record IsSegment (n : ℕ) (s : Segment) : Type 0 where
  pub start_le_end : s.start ≤ s.end
  pub end_le : s.end ≤ n

-- The two lists have the same variables: each test that constants pass is one that both lists pass,
-- or neither.
abbrev pub HaveSameVariables : List Statement → List ℕ → List ℕ → Type 0
HaveSameVariables db u v =
    (test : ℕ → Bool) → ((s : ℕ) → is_variable_number db s ≡ false → test s ≡ true)
    → list_all test u ≡ list_all test v

-- The symbol was appended to the list `xs`, or it is none that the list lacks: it is a constant, or
-- the list has it from index `start` on.
abbrev pub AppendsIfNew : List Statement → ℕ → ℕ → List ℕ → List ℕ → Type 0
AppendsIfNew db start s xs ys =
    ((ys ≡ xs) × ((is_variable_number db s ≡ false) ⊎ Contains (drop start xs) s))
    ⊎ (ys ≡ xs ++ s ∷ [])

-- the list `ys` is `xs` with the variables of the formula appended
pub record AppendsVariables (db : List Statement) (f : Formula) (xs ys : List ℕ) : Type 0 where
  pub variables : List ℕ
  pub list_is : ys ≡ xs ++ variables
  pub have_same_variables : HaveSameVariables db f variables
  pub are_symbols : All (λ s. s < length (symbol_names db)) variables

-- the variables of the formula were appended, and the segment of them
pub record AppendsSegment (db : List Statement) (f : Formula) (xs ys : List ℕ)
    (ss ts : List Segment) : Type 0 where
  pub appends_variables : AppendsVariables db f xs ys
  pub segments_are : ts ≡ ss ++ segment (length xs) (length ys) ∷ []

-- the segments of the list have the variables of the bodies
pub record HaveVariables (db : List Statement) (nodes : List (List ℕ)) (bodies list : List ℕ)
    (ss : List Segment) : Type 0 where
  pub are_symbols : All (λ s. s < length (symbol_names db)) list
  pub are_segments : All (IsSegment (length list)) ss
  pub counts_equal : length ss ≡ length bodies
  pub have_same_variables : (j : ℕ) → j < length bodies
      → HaveSameVariables db (string_of nodes (get_or bodies j no_body)) (segment_at list ss j)

-- The bodies of pairs of entries are asked about, in some order. Each of these bodies is listed,
-- and the segments of the list have its variables.
pub record AsksAbout (db : List Statement) (nodes : List (List ℕ)) (es : List Entry)
    (ps asked : List (ℕ × ℕ)) (listed list : List ℕ) (ss : List Segment) : Type 0 where
  pub asks_all : IsPermutation (map (body_pair es) ps) asked
  pub are_listed : All (HasBoth listed) asked
  pub listed_rise : IsRising listed
  pub have_variables : HaveVariables db nodes listed list ss
