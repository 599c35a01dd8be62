-- The stack used to check a proof (Metamath book, "Proof Verification"): its entries are formulas,
-- and each step changes them or fails. For lemmas and for the contracts of the checker.
use Rattle.std.specs.Prelude.{◌≡◌, ℕ, suc, ◌-◌, ◌<◌, Bool, true, false, ◌&&◌, List, [], ◌∷◌, ◌++◌}
use Rattle.std.specs.Prelude.{map, length, take, drop, Option, Some, None, Result, Ok, Err, nat_le}
use Rattle.std.specs.Prelude.{bytes_eq, slice_get}
use Rattle.std.specs.List.{list_all}
use Rattle.mm_spec.specs.Limits.{formula_limit}
use Rattle.mm_spec.specs.Derivation.{Formula, Frame, Referent, hypothesis, assertion, Context}
use Rattle.mm_spec.specs.Derivation.{Substitution, substitute, are_all_disjoint, Trees, none, more}
use Rattle.mm_spec.specs.Derivation.{postfix, AreDerivations}
use Rattle.mm_spec.specs.Steps.{Step, label, marked}
use Rattle.mm_spec.specs.Valid.{Reason, too_few, unmatched, not_disjoint, too_long}
use Rattle.mm_spec.specs.Laws.Complete.{binds, IsComplete}

-- whether two lists of formulas are equal
abbrev pub are_equal : List Formula → List Formula → Bool
are_equal [] [] = true
are_equal [] (q ∷ qs) = false
are_equal (p ∷ ps) [] = false
are_equal (p ∷ ps) (q ∷ qs) = bytes_eq p q && are_equal ps qs

-- the symbols after the first
abbrev pub tail : Formula → Formula
tail [] = []
tail (y ∷ ys) = ys

-- the last entry
abbrev pub top : List Formula → Formula
top [] = []
top (f ∷ []) = f
top (f ∷ g ∷ fs) = top (g ∷ fs)

-- g is the formula of the last tree
abbrev pub IsLastFormula : Trees → Formula → Type 0
IsLastFormula none g = ⊥
IsLastFormula (more ts l f cs) g = f ≡ g

-- the entries after a step, unless the formula that it adds is too long
abbrev pub unless_too_long : (fits_limit : Bool) → List Formula → Result (List Formula) Reason
unless_too_long false out = Err too_long
unless_too_long true out = Ok out

-- the entries after the step of an assertion, or the reason why it fails: the first of its four
-- tests that fails
abbrev pub unless_failed : (enough matched disjoint fits_limit : Bool) → List Formula
    → Result (List Formula) Reason
unless_failed false matched disjoint fits_limit out = Err too_few
unless_failed true false disjoint fits_limit out = Err unmatched
unless_failed true true false fits_limit out = Err not_disjoint
unless_failed true true true fits_limit out = unless_too_long fits_limit out

module _ (c : Context) where
  -- what replaces a variable: the premise for its `$f`, without the typecode
  abbrev pub substitution_from : List Formula → List Formula → Substitution
  substitution_from [] ps x = []
  substitution_from (h ∷ hs) [] x = []
  substitution_from (h ∷ hs) (p ∷ ps) x =
      elim (binds c x h) [ true ↦ tail p | false ↦ substitution_from hs ps x ]

  -- the step of an assertion; `premises` are the entries that it takes, `below` the entries below
  -- them, and `enough` says whether there are enough entries
  abbrev pub apply : Frame → Bool → List Formula → List Formula → Result (List Formula) Reason
  apply a enough below premises = let σ = substitution_from a.hypotheses premises in
      unless_failed enough (are_equal premises (map (substitute c σ) a.hypotheses))
      (list_all (λ p. are_all_disjoint c (σ p.low) (σ p.high)) a.pairs)
      (nat_le (length (substitute c σ a.formula)) formula_limit)
      (below ++ substitute c σ a.formula ∷ [])

  -- the entries after the step of a label, by what it refers to
  abbrev pub label_entries : Option Referent → List Formula → Result (List Formula) Reason
  label_entries None es = Err too_few
  label_entries (Some (hypothesis g)) es =
      unless_too_long (nat_le (length g) formula_limit) (es ++ g ∷ [])
  label_entries (Some (assertion a)) es = let n = length es - length a.hypotheses in
      apply a (nat_le (length a.hypotheses) (length es)) (take n es) (drop n es)

  -- the label refers to something, and the frame is complete if that is an assertion
  abbrev pub IsCompleteReferent : Option Referent → Type 0
  IsCompleteReferent None = ⊥
  IsCompleteReferent (Some (hypothesis g)) = Unit {0}
  IsCompleteReferent (Some (assertion a)) = IsComplete c a

  -- f is the formula of the last tree of a forest of derivations whose postfix list is the labels:
  -- the formula after the steps that expand to these labels
  abbrev pub EndsInFormula : List ℕ → Formula → Type 0
  EndsInFormula labels f =
      (forest : Trees) × AreDerivations c forest × (postfix forest ≡ labels)
      × IsLastFormula forest f

  -- the entries after a step; `last_entries` has the last entry after each step so far
  abbrev pub step_entries : Step → List Formula → List Formula → Result (List Formula) Reason
  step_entries (label l) last_entries es = label_entries (c.referent l) es
  step_entries (marked j) last_entries es =
      elim (slice_get last_entries j) [ None ↦ Ok es | Some f ↦ Ok (es ++ f ∷ []) ]

  -- the step is a label that refers to something, or names one of the n earlier steps
  abbrev pub IsGoodStep : ℕ → Step → Type 0
  IsGoodStep n (label l) = IsCompleteReferent (c.referent l)
  IsGoodStep n (marked j) = j < n

  -- each step is good in this sense, the first of them as step n
  abbrev pub AreGoodSteps : ℕ → List Step → Type 0
  AreGoodSteps n [] = Unit {0}
  AreGoodSteps n (s ∷ steps) = IsGoodStep n s × AreGoodSteps (suc n) steps
