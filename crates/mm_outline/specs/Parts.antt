-- What the code's types stand for.
use Rattle.std.specs.Prelude.{◌≡◌, ℕ, suc, ◌+◌, ◌-◌, ◌<◌, ◌≤◌, zero, List, []}
use Rattle.std.specs.Prelude.{map, length, slice_range, get_or, All, Bool, true, false}
use Rattle.mm_spec.specs.Text.{Token, token}
use Rattle.mm_spec.specs.Statement as statement
use Rattle.mm_spec.specs.Statement.{Statement}
use Rattle.mm_spec.specs.Laws.Table as table
use Rattle.mm_spec.specs.declared.Word.{Word}
use Rattle.mm_outline.specs.declared.words.Class.{Class}
use Rattle.mm_outline.specs.declared.words.Class.TheVariants.{Constant, Variable, Disjoint}
use Rattle.mm_outline.specs.declared.words.Class.TheVariants.{Floating, Essential, Axiom, Theorem}
use Rattle.mm_outline.specs.declared.words.Class.TheVariants.{Equals, Dot, Open, Close, Plain}
use Rattle.mm_outline.specs.declared.words.Class.TheVariants.{Other}
use Rattle.mm_outline.specs.declared.parts.Kind.{Kind}
use Rattle.mm_outline.specs.declared.parts.Kind.TheVariants as kind
use Rattle.mm_outline.specs.declared.parts.Outline.{Outline}
use Rattle.mm_outline.specs.declared.parts.Part.{Part}
use Rattle.mm_outline.specs.declared.parts.Part.TheVariants.{Start, Labelled, Words, Formula, Proof}
use Rattle.mm_outline.specs.declared.parts.Transition.{Transition}
use Rattle.mm_outline.specs.declared.parts.Transition.TheVariants.{Stop, Continue, Complete}

-- the class of a token in the table of the laws
abbrev pub class_of : Class → table.Class
class_of Constant = table.constant_keyword
class_of Variable = table.variable_keyword
class_of Disjoint = table.disjoint_keyword
class_of Floating = table.floating_keyword
class_of Essential = table.essential_keyword
class_of Axiom = table.axiom_keyword
class_of Theorem = table.theorem_keyword
class_of Equals = table.equals
class_of Dot = table.dot
class_of Open = table.open_block
class_of Close = table.close_block
class_of Plain = table.plain
class_of Other = table.other

-- the words are within the text
abbrev pub AreWithin : List ℕ → List Word → Type 0
AreWithin text ws = All (λ w. (w.start ≤ w.end) × (w.end ≤ length text)) ws

-- words as tokens
abbrev pub token_of : List ℕ → Word → Token
token_of text w = token w.start (slice_range text w.start w.end)

abbrev pub as_tokens : List ℕ → List Word → List Token
as_tokens text ws = map (token_of text) ws

-- the word with the index i, or an empty one past the end
abbrev pub nth_word : List Word → ℕ → Word
nth_word ws i = get_or ws i (record { start = 0; end = 0 })

abbrev pub token_at : List ℕ → List Word → ℕ → Token
token_at text ws i = token_of text (nth_word ws i)

-- the tokens from i up to j
abbrev pub between : List ℕ → List Word → ℕ → ℕ → List Token
between text ws i j = as_tokens text (slice_range ws i j)

-- an outline by its fields
abbrev pub outline : Kind → ℕ → ℕ → ℕ → Outline
outline kind keyword middle end =
    record { kind = kind; keyword = keyword; middle = middle; end = end }

-- the kinds of statements that have a label, and so a typecode
abbrev pub is_labelled_kind : Kind → Bool
is_labelled_kind kind.Floating = true
is_labelled_kind kind.Essential = true
is_labelled_kind kind.Axiom = true
is_labelled_kind kind.Theorem = true
is_labelled_kind _ = false

-- one less, or 0 for 0
abbrev pub one_less : ℕ → ℕ
one_less zero = zero
one_less (suc d) = d

-- how many blocks are open after a statement, if d are open before it
abbrev pub depth_after : Kind → ℕ → ℕ
depth_after kind.Open d = suc d
depth_after kind.Close d = one_less d
depth_after _ d = d

module _ (text : List ℕ) (ws : List Word) where
  -- the token of the label of a statement, by the index of its keyword
  abbrev pub label_before : ℕ → Token
  label_before keyword = token_at text ws (keyword - 1)

  -- the place where the word with this index begins
  abbrev pub start_of : ℕ → ℕ
  start_of i = (nth_word ws i).start

  -- the statement with the words xs, which ends at the place d; its keyword has the index k
  abbrev pub statement_with : Kind → ℕ → List Token → ℕ → Statement
  statement_with kind.Constants k xs d = statement.constants (start_of k) xs d
  statement_with kind.Variables k xs d = statement.variables (start_of k) xs d
  statement_with kind.Disjoint k xs d = statement.disjoint (start_of k) xs d
  statement_with kind.Floating k xs d = statement.floating (label_before k) (start_of k) xs d
  statement_with kind.Essential k xs d = statement.essential (label_before k) (start_of k) xs d
  statement_with kind.Axiom k xs d = statement.axiomatic (label_before k) (start_of k) xs d
  statement_with kind.Theorem k xs d = statement.provable (label_before k) (start_of k) xs d [] d
  statement_with kind.Open k xs d = statement.opening (start_of k)
  statement_with kind.Close k xs d = statement.closing (start_of k)

  -- the `$p` with the proof ps, which ends at the place d; k and e are the indices of its keyword
  -- and its `$=`
  abbrev pub theorem_with : ℕ → ℕ → List Token → ℕ → Statement
  theorem_with k e ps d =
      statement.provable (label_before k) (start_of k) (between text ws (k + 1) e) (start_of e) ps d

  -- the statement with a keyword at k, a `$=` or without one the end at e, and the end at d
  abbrev pub statement_between : Kind → ℕ → ℕ → ℕ → Statement
  statement_between kind.Theorem k e d = theorem_with k e (between text ws (e + 1) d) (start_of d)
  statement_between kind k e d = statement_with kind k (between text ws (k + 1) e) (start_of e)

  -- the statement of an outline
  abbrev pub statement_of : Outline → Statement
  statement_of o = statement_between o.kind o.keyword o.middle o.end

  -- what has been read before token i
  abbrev pub progress : ℕ → Part → ℕ → table.Progress
  progress d Start i = table.start d
  progress d (Labelled l) i = table.labelled d (token_at text ws l)
  progress d (Words kind k) i = table.words d (statement_with kind k) (between text ws (k + 1) i)
  progress d (Formula k) i =
      table.formula d (label_before k) (start_of k) (between text ws (k + 1) i)
  progress d (Proof k e) i = table.words d (theorem_with k e) (between text ws (e + 1) i)

  -- the transition of the table for what token i does, where d blocks are open
  abbrev pub transition_of : ℕ → ℕ → Transition → table.Transition
  transition_of d i Stop = table.unexpected
  transition_of d i (Continue part) = table.continued (progress d part (i + 1))
  transition_of d i (Complete o) = table.completed (depth_after o.kind d) (statement_of o)

-- P holds if nothing has been read
abbrev pub IfAtStart : Part → Type 0 → Type 0
IfAtStart Start P = P
IfAtStart _ P = Unit {0}

-- the kind of a statement that has words, and no `$=`
abbrev pub HasWords : Kind → Type 0
HasWords kind.Theorem = ⊥
HasWords kind.Open = ⊥
HasWords kind.Close = ⊥
HasWords _ = Unit {0}

-- a statement that has a label has it before its keyword, which has this index
abbrev pub HasLabel : Kind → ℕ → Type 0
HasLabel kind.Floating keyword = 0 < keyword
HasLabel kind.Essential keyword = 0 < keyword
HasLabel kind.Axiom keyword = 0 < keyword
HasLabel kind.Theorem keyword = 0 < keyword
HasLabel _ keyword = Unit {0}

-- where the parts of a statement are, before token i
abbrev pub IsPartBefore : Part → ℕ → Type 0
IsPartBefore Start i = Unit {0}
IsPartBefore (Labelled label) i = label + 1 ≡ i
IsPartBefore (Words kind keyword) i = HasWords kind × HasLabel kind keyword × (keyword < i)
IsPartBefore (Formula keyword) i = (0 < keyword) × (keyword < i)
IsPartBefore (Proof keyword equals) i = (0 < keyword) × (keyword < equals) × (equals < i)

-- a statement other than `${` and `$}` has its `$=`, or without one its end, after its keyword
abbrev pub IsKeywordBefore : Kind → ℕ → ℕ → Type 0
IsKeywordBefore kind.Open keyword middle = Unit {0}
IsKeywordBefore kind.Close keyword middle = Unit {0}
IsKeywordBefore _ keyword middle = keyword < middle

-- a `$p` has its `$=` before its last token, `${` and `$}` have one token, and the others have no
-- `$=`
abbrev pub HasEnd : Kind → ℕ → ℕ → ℕ → Type 0
HasEnd kind.Theorem keyword middle end = middle < end
HasEnd kind.Open keyword middle end = (keyword ≡ middle) × (middle ≡ end)
HasEnd kind.Close keyword middle end = (keyword ≡ middle) × (middle ≡ end)
HasEnd _ keyword middle end = middle ≡ end

abbrev pub IsOutline : Outline → Type 0
IsOutline o =
    HasLabel o.kind o.keyword × IsKeywordBefore o.kind o.keyword o.middle × (o.keyword ≤ o.middle)
    × (o.middle ≤ o.end) × HasEnd o.kind o.keyword o.middle o.end

-- what holds after a transition at token i
abbrev pub IsTransitionAt : ℕ → Transition → Type 0
IsTransitionAt i Stop = Unit {0}
IsTransitionAt i (Continue part) = IsPartBefore part (i + 1)
IsTransitionAt i (Complete o) = IsOutline o × (o.end ≡ i)
