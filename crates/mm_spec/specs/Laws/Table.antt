-- Which tokens are expected where (the table of transitions), the statements of a list of tokens,
-- and the fault of its shape. The table is this project's own; its statements are those of the
-- Metamath book, "Basic Syntax".
use Rattle.std.specs.Prelude.{ℕ, zero, suc, Bool, true, false, List, [], ◌∷◌, ◌++◌, codes, bytes_eq}
use Rattle.std.specs.Prelude.{Option, None, Some}
use Rattle.mm_spec.specs.Text.{Bytes, Token, Fault, fault, has_dollar, is_label}
use Rattle.mm_spec.specs.Statement.{Statement, constants, variables, disjoint, floating, essential}
use Rattle.mm_spec.specs.Statement.{axiomatic, provable, opening, closing, shape_code}

-- What a word is: a keyword, by what it stands for; `plain` without a `$`; or `other`, which has a
-- `$` and is no keyword that can be expected.
pub data Class : Type 0 where
  constant_keyword variable_keyword disjoint_keyword floating_keyword essential_keyword
      axiom_keyword theorem_keyword equals dot open_block close_block plain other : Class

-- a keyword with its class
pub record ClassedWord : Type 0 where
  pub word : Bytes
  pub class : Class

abbrev pub classed : Bytes → Class → ClassedWord
classed w k = record { word = w; class = k }

-- the keywords that can be expected, each with its class
abbrev pub keyword_classes : List ClassedWord
keyword_classes =
    classed (codes "$c") constant_keyword
    ∷ classed (codes "$v") variable_keyword
    ∷ classed (codes "$d") disjoint_keyword
    ∷ classed (codes "$f") floating_keyword
    ∷ classed (codes "$e") essential_keyword
    ∷ classed (codes "$a") axiom_keyword
    ∷ classed (codes "$p") theorem_keyword
    ∷ classed (codes "$=") equals
    ∷ classed (codes "$.") dot
    ∷ classed (codes "${") open_block
    ∷ classed (codes "$}") close_block
    ∷ []

-- the class of the first entry with this word
abbrev pub class_in : List ClassedWord → Bytes → Class
class_in [] w = other
class_in (e ∷ es) w = elim (bytes_eq w e.word) [ true ↦ e.class | false ↦ class_in es w ]

-- the class of a word that has a `$`
abbrev pub keyword_class : Bytes → Class
keyword_class w = class_in keyword_classes w

-- the class of a word
abbrev pub class : Bytes → Class
class w = elim (has_dollar w) [ true ↦ keyword_class w | false ↦ plain ]

-- what has been read of a statement; `depth` is the number of open blocks
pub data Progress : Type 0 where
  start : (depth : ℕ) → Progress
  labelled : (depth : ℕ) (label : Token) → Progress
  words : (depth : ℕ) (make : List Token → ℕ → Statement) (words : List Token) → Progress
  formula : (depth : ℕ) (label : Token) (keyword : ℕ) (words : List Token) → Progress

-- What a token does: no statement has it there, a statement goes on with it, or it ends one. The
-- number says how many blocks are open after that statement.
pub data Transition : Type 0 where
  unexpected : Transition
  continued : Progress → Transition
  completed : (depth : ℕ) → Statement → Transition

-- what the `$}` at the place does, before which so many blocks are open
abbrev pub closing_transition : ℕ → ℕ → Transition
closing_transition at zero = unexpected
closing_transition at (suc d) = completed d (closing at)

-- what a word without `$` does at the beginning of a statement, given whether it is a label
abbrev pub label_transition : Bool → ℕ → Token → Transition
label_transition true d t = continued (labelled d t)
label_transition false d t = unexpected

-- what a token does to what has been read, by its class
abbrev pub transition : Progress → Class → Token → Transition
transition (start d) constant_keyword t = continued (words d (constants t.at) [])
transition (start d) variable_keyword t = continued (words d (variables t.at) [])
transition (start d) disjoint_keyword t = continued (words d (disjoint t.at) [])
transition (start d) open_block t = completed (suc d) (opening t.at)
transition (start d) close_block t = closing_transition t.at d
transition (start d) plain t = label_transition (is_label t.word) d t
transition (labelled d l) floating_keyword t = continued (words d (floating l t.at) [])
transition (labelled d l) essential_keyword t = continued (words d (essential l t.at) [])
transition (labelled d l) axiom_keyword t = continued (words d (axiomatic l t.at) [])
transition (labelled d l) theorem_keyword t = continued (formula d l t.at [])
transition (formula d l k ws) plain t = continued (formula d l k (ws ++ t ∷ []))
transition (formula d l k ws) equals t = continued (words d (provable l k ws t.at) [])
transition (words d make ws) plain t = continued (words d make (ws ++ t ∷ []))
transition (words d make ws) dot t = completed d (make ws t.at)
transition _ _ t = unexpected

-- the statement that a token ends, if it ends one, and those after the token, which `of_the_rest`
-- gives
abbrev pub statements_after : Transition → (Progress → List Statement) → List Statement
statements_after unexpected of_the_rest = []
statements_after (continued r) of_the_rest = of_the_rest r
statements_after (completed d s) of_the_rest = s ∷ of_the_rest (start d)

-- the complete statements from there on
abbrev pub statements_from : Progress → List Token → List Statement
statements_from r [] = []
statements_from r (t ∷ ts) =
    statements_after (transition r (class t.word) t) (λ q. statements_from q ts)

abbrev pub statements_of : List Token → List Statement
statements_of ts = statements_from (start 0) ts

-- whether a statement begins there
abbrev pub is_between_statements : Progress → Bool
is_between_statements (start d) = true
is_between_statements _ = false

-- the fault f if the token is unexpected, otherwise the fault of the tokens after it, which
-- `of_the_rest` gives
abbrev pub shape_fault_after : Transition → Option Fault → (Progress → Option Fault) → Option Fault
shape_fault_after unexpected f of_the_rest = f
shape_fault_after (continued r) f of_the_rest = of_the_rest r
shape_fault_after (completed d s) f of_the_rest = of_the_rest (start d)

-- the fault of the first token that is not expected
abbrev pub shape_fault_from : Progress → List Token → Option Fault
shape_fault_from r [] = None
shape_fault_from r (t ∷ ts) =
    shape_fault_after (transition r (class t.word) t)
    (Some (fault t.at (shape_code (is_between_statements r) t.word)))
    (λ q. shape_fault_from q ts)

-- what was read, r, if the token is unexpected, otherwise what was read after the tokens behind it,
-- which `of_the_rest` gives
abbrev pub progress_after : Transition → (Progress → Progress) → Progress → Progress
progress_after unexpected of_the_rest r = r
progress_after (continued q) of_the_rest r = of_the_rest q
progress_after (completed d s) of_the_rest r = of_the_rest (start d)

-- what has been read after all tokens, or before the first one that is not expected
abbrev pub progress_from : Progress → List Token → Progress
progress_from r [] = r
progress_from r (t ∷ ts) =
    progress_after (transition r (class t.word) t) (λ q. progress_from q ts) r
