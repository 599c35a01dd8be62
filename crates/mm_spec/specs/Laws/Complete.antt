-- A frame is complete if its hypotheses bind each of its variables (this project's own, for a law).
-- A frame has its hypotheses as formulas, so here a `$f` is recognised only by its form; a law of
-- `mm_laws` says that there is a `$f`.
use Rattle.std.specs.Prelude.{ℕ, Bool, false, ◌&&◌, not, List, [], ◌∷◌, Option, Some, None, ◌==◌}
use Rattle.std.specs.Prelude.{IsTrue}
use Rattle.std.specs.List.{list_any, AllByRecursion}
use Rattle.mm_spec.specs.Statement.{Statement}
use Rattle.mm_spec.specs.Derivation.{Formula, Frame, Context, Referent, hypothesis, assertion}
use Rattle.mm_spec.specs.Citation.{context_at}

module _ (c : Context) where
  -- whether a hypothesis has the form of the variable's `$f`: a constant, and the variable
  abbrev pub binds : ℕ → Formula → Bool
  binds x [] = false
  binds x (t ∷ []) = false
  binds x (t ∷ y ∷ []) = not (c.is_variable t) && (c.is_variable y && (x == y))
  binds x (t ∷ y ∷ z ∷ zs) = false

  -- some hypothesis has that form
  abbrev pub IsBound : List Formula → ℕ → Type 0
  IsBound hs x = IsTrue (list_any (binds x) hs)

  -- the hypotheses bind each variable of the formula
  abbrev pub AreBound : List Formula → Formula → Type 0
  AreBound hs f = AllByRecursion (λ x. IsTrue (c.is_variable x) → IsBound hs x) f

  -- the hypotheses bind each variable that occurs in the frame
  pub record IsComplete (a : Frame) : Type 0 where
    pub hypotheses : AllByRecursion (AreBound a.hypotheses) a.hypotheses
    pub formula : AreBound a.hypotheses a.formula
    pub pairs : AllByRecursion
        (λ p. IsBound a.hypotheses p.low × IsBound a.hypotheses p.high) a.pairs

  -- if the label refers to an assertion, its frame is complete
  abbrev pub HasCompleteFrame : Option Referent → Type 0
  HasCompleteFrame None = Unit {0}
  HasCompleteFrame (Some (hypothesis g)) = Unit {0}
  HasCompleteFrame (Some (assertion a)) = IsComplete a

-- the context of the proof of a statement, where it doesn't matter which: that a symbol is a
-- variable is the same for all
abbrev pub variables_context : List Statement → Context
variables_context db = context_at db 0

-- the frame of each assertion to which a label refers is complete
abbrev pub AreComplete : List Statement → Type 0
AreComplete db = (k l : ℕ) → HasCompleteFrame (context_at db k) ((context_at db k).referent l)
