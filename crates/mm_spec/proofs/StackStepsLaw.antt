-- A step on a stack of formulas adds a tree to a forest of derivations, or it fails and that tells
-- why. Where the labels of a forest are performed, its formulas are left.
use Rattle.std.proofs.Common.{rules, ◌≡◌, ℕ, zero, suc, ◌+◌, ◌-◌, ◌≤◌, Bool, true, false, List, []}
use Rattle.std.proofs.Common.{◌∷◌, ◌++◌, map, length, take, drop, Option, Some, None, Result, Ok}
use Rattle.std.proofs.Common.{Err, nat_le, refl, sym, ap, append-nil, append_assoc, length-append}
use Rattle.std.proofs.Common.{take_at, drop_at, drop_of_length-le, take_all, arith, le-leb}
use Rattle.std.proofs.Common.{leb-true, leb-false}
use Rattle.std.proofs.lemmas.Grind.{common_steps}
use Rattle.std.proofs.lemmas.List.{length-map}
use Rattle.std.specs.List.{AllByRecursion}
use Rattle.mm_spec.specs.Derivation.{Formula, Frame, Referent, hypothesis, assertion, Context}
use Rattle.mm_spec.specs.Derivation.{Substitution, substitute, Matches, KeepsDisjoint, Follows}
use Rattle.mm_spec.specs.Derivation.{Trees, none, more, formulas, postfix, AreDerivations}
use Rattle.mm_spec.specs.Limits.{formula_limit}
use Rattle.mm_spec.specs.Valid.{Reason, Fails}
use Rattle.mm_spec.proofs.UnifyLaw.{tested_equal_are_equal, equal_are_tested_equal}
use Rattle.mm_spec.proofs.UnifyLaw.{found_gives_formula, found_gives_formulas, found_keeps_disjoint}
use Rattle.mm_spec.specs.Laws.Stack.{substitution_from, are_equal, unless_too_long, label_entries}
use Rattle.mm_spec.specs.Laws.Stack.{IsCompleteReferent}
use Rattle.mm_spec.specs.Laws.Complete.{IsComplete}

-- the index of the label whose step fails, and why it fails
pub record StepFailure : Type 0 where
  pub at : ℕ
  pub reason : Reason

-- what comes after the step of the label with the index n
abbrev pub proceed : Result (List Formula) Reason → ℕ
    → (List Formula → Result (List Formula) StepFailure) → Result (List Formula) StepFailure
proceed (Ok es) n next = next es
proceed (Err r) n next = Err (record { at = n; reason = r })

module _ (c : Context) where
  -- the entries after the steps of the labels, the first of which has the index n
  abbrev pub perform_labels : ℕ → List ℕ → List Formula → Result (List Formula) StepFailure
  perform_labels n [] es = Ok es
  perform_labels n (l ∷ ls) es = proceed (label_entries c (c.referent l) es) n (perform_labels (suc n) ls)

  -- a step of a derivation is performed; τ is its substitution, σ the one that is found
  assertion_is_performed : (a : Frame) (es : List Formula) (τ : Substitution) → IsComplete c a
      → KeepsDisjoint c a τ → length (substitute c τ a.formula) ≤ formula_limit
      → label_entries c (Some (assertion a)) (es ++ map (substitute c τ) a.hypotheses)
      ≡ Ok (es ++ substitute c τ a.formula ∷ [])
  assertion_is_performed a es τ is_complete keeps_disjoint formula_le_limit =
      let hs = a.hypotheses in
      let ps = map (substitute c τ) hs in
      let length_is : length (es ++ ps) ≡ length es + length hs =
      search (rules, arith, length-append, length-map) in
      let rest_length_is : length es ≡ length (es ++ ps) - length hs = omega arith in
      let σ = substitution_from c hs ps in
      let formulas_equal : substitute c σ a.formula ≡ substitute c τ a.formula =
      found_gives_formula c hs τ a.formula is_complete.formula in
      let matches = equal_are_tested_equal ps (map (substitute c σ) hs)
      (found_gives_formulas c hs τ hs is_complete.hypotheses) in
      rw (
        le-leb (length hs) (length (es ++ ps)) (omega arith),
        take_at es ps _ rest_length_is,
        drop_at es ps _ rest_length_is,
        matches,
        found_keeps_disjoint c hs τ a.pairs is_complete.pairs,
        keeps_disjoint,
        formulas_equal,
        le-leb (length (substitute c τ a.formula)) formula_limit formula_le_limit,
      ) refl

  pub follows_is_performed : (r : Option Referent) (es ps : List Formula) (f : Formula)
      → IsCompleteReferent c r
      → Follows c r ps f
      → label_entries c r (es ++ ps) ≡ Ok (es ++ f ∷ [])
  follows_is_performed None es ps f is_complete follows = absurd follows
  follows_is_performed (Some (hypothesis g)) es ps f is_complete follows =
      grind (arith, common_steps, append-nil, le-leb)
  follows_is_performed (Some (assertion a)) es ps f is_complete follows =
      grind (arith, common_steps, assertion_is_performed)

  -- each label is good
  abbrev pub AreGood : List ℕ → Type 0
  AreGood ls = AllByRecursion (λ l. IsCompleteReferent c (c.referent l)) ls

  pub good_append_is_good_parts : (xs ys : List ℕ) → AreGood (xs ++ ys) → AreGood xs × AreGood ys
  good_append_is_good_parts [] ys all_are_good = (tt, all_are_good)
  good_append_is_good_parts (x ∷ xs) ys all_are_good =
      search (rules, arith, (good_append_is_good_parts xs ys all_are_good.1))

  -- the labels of a forest of derivations are performed, and leave its formulas
  pub forest_is_performed : (forest : Trees) → AreDerivations c forest → AreGood (postfix forest)
      → (n : ℕ) (ls : List ℕ) (es : List Formula)
      → perform_labels n (postfix forest ++ ls) es
      ≡ perform_labels (n + length (postfix forest)) ls (es ++ formulas forest)
  forest_is_performed none are_derivations are_good n ls es =
      search (rules, arith, append-nil)
  forest_is_performed (more ts l f cs) are_derivations are_good n ls es =
      let p = postfix ts in
      let q = postfix cs in
      let k = n + length p + length q in
      let regroup : (p ++ (q ++ l ∷ [])) ++ ls ≡ p ++ (q ++ l ∷ ls) =
      search (rules, arith, append_assoc) in
      let count_is : suc k ≡ n + length (p ++ (q ++ l ∷ [])) =
      omega (arith, length-append p (q ++ l ∷ []), length-append q (l ∷ [])) in
      let split_at_children = good_append_is_good_parts p (q ++ l ∷ []) are_good in
      let split_at_label = good_append_is_good_parts q (l ∷ []) split_at_children.1 in
      let earlier = forest_is_performed ts are_derivations.0 split_at_children.0 n (q ++ l ∷ ls) es in
      let children = forest_is_performed cs are_derivations.1 split_at_label.0 (n + length p) (l ∷ ls)
      (es ++ formulas ts) in
      search (rules, arith, follows_is_performed, append_assoc, earlier, children)

  -- a forest in two parts, the last of which has n trees
  record SplitForest (forest : Trees) (n : ℕ) : Type 0 where
    before : Trees
    last : Trees
    before_derivations : AreDerivations c before
    last_derivations : AreDerivations c last
    all_formulas : formulas forest ≡ formulas before ++ formulas last
    all_labels : postfix forest ≡ postfix before ++ postfix last
    count : length (formulas last) ≡ n

  split_forest : (forest : Trees) (n : ℕ) → AreDerivations c forest → n ≤ length (formulas forest)
      → SplitForest forest n
  split_forest forest zero are_derivations n_le_length =
      search (rules, arith, append-nil)
  split_forest none (suc n) are_derivations n_le_length = absurd (omega arith)
  split_forest (more ts l f cs) (suc n) are_derivations n_le_length =
      let n_le_earlier : n ≤ length (formulas ts) =
      omega (arith, length-append (formulas ts) (f ∷ [])) in
      let earlier_split = split_forest ts n are_derivations.0 n_le_earlier in
      record {
        before = earlier_split.before;
        last = more earlier_split.last l f cs;
        before_derivations = earlier_split.before_derivations;
        last_derivations = search (rules, arith);
        all_formulas =
            search (rules, arith, append_assoc);
        all_labels =
            search (rules, arith, append_assoc);
        count =
            search (rules, arith, length-append);
      }

  -- what the answer of a step means: premises on top of the entries, and a formula that follows
  -- from them; or why the step fails
  abbrev pub StepOutcome : Option Referent → List Formula → Result (List Formula) Reason → Type 0
  StepOutcome r es (Ok out) =
      (n : ℕ) × (f : Formula) × (n ≤ length es) × Follows c r (drop (length es - n) es) f
      × (out ≡ take (length es - n) es ++ f ∷ [])
  StepOutcome r es (Err reason) = Fails c r es reason

  hypothesis_has_outcome : (g : Formula) (es : List Formula) (b : Bool)
      → nat_le (length g) formula_limit ≡ b
      → StepOutcome (Some (hypothesis g)) es (unless_too_long b (es ++ g ∷ []))
  hypothesis_has_outcome g es true test_is =
      grind (arith, common_steps, drop_of_length-le, leb-true, take_all)
  hypothesis_has_outcome g es false test_is = leb-false (length g) formula_limit test_is

  -- premises that some substitution gives are given by the one that is found
  pub found_matches_if_any : (a : Frame) (ps : List Formula) (τ : Substitution) → IsComplete c a
      → Matches c a ps τ
      → are_equal ps (map (substitute c (substitution_from c a.hypotheses ps)) a.hypotheses) ≡ true
  found_matches_if_any a ps τ is_complete matches =
      grind (arith, common_steps, equal_are_tested_equal, found_gives_formulas)

  assertion_has_outcome : (a : Frame) (es : List Formula) → IsComplete c a
      → StepOutcome (Some (assertion a)) es (label_entries c (Some (assertion a)) es)
  assertion_has_outcome a es is_complete =
      grind (arith, common_steps, leb-false, leb-true, found_matches_if_any, tested_equal_are_equal)

  pub step_has_outcome : (r : Option Referent) (es : List Formula) → IsCompleteReferent c r
      → StepOutcome r es (label_entries c r es)
  step_has_outcome None es is_complete = absurd is_complete
  step_has_outcome (Some (hypothesis g)) es is_complete =
      hypothesis_has_outcome g es (nat_le (length g) formula_limit) refl
  step_has_outcome (Some (assertion a)) es is_complete = assertion_has_outcome a es is_complete

  -- after the labels of a forest the step of some label fails; before it a longer forest is reached
  pub record StopsAtLabel (forest : Trees) (ls : List ℕ) (reason : Reason) : Type 0 where
    pub before : List ℕ
    pub label : ℕ
    pub after : List ℕ
    pub splits : ls ≡ before ++ label ∷ after
    pub reached : Trees
    pub derivations : AreDerivations c reached
    pub labels : postfix reached ≡ postfix forest ++ before
    pub fails : Fails c (c.referent label) (formulas reached) reason

  -- a step after a forest gives one more forest
  pub step_grows_forest : (forest : Trees) (l : ℕ) (n : ℕ) (f : Formula) → AreDerivations c forest
      → n ≤ length (formulas forest)
      → Follows c (c.referent l) (drop (length (formulas forest) - n) (formulas forest)) f
      → (next : Trees) × AreDerivations c next × (postfix next ≡ postfix forest ++ l ∷ [])
      × (formulas next ≡ take (length (formulas forest) - n) (formulas forest) ++ f ∷ [])
  step_grows_forest forest l n f are_derivations n_le_length follows =
      let parts = split_forest forest n are_derivations n_le_length in
      let k = length (formulas forest) - n in
      let count_of_before : length (formulas parts.before) ≡ k =
      let lengths = ap length parts.all_formulas in
      let count = length-append (formulas parts.before) (formulas parts.last) in
      omega (arith, parts.count) in
      let last_formulas_are : drop k (formulas forest) ≡ formulas parts.last =
      search (rules, arith, drop_at) in
      let first_formulas_are : take k (formulas forest) ≡ formulas parts.before =
      search (rules, arith, take_at) in (
        more parts.before l f parts.last,
        search (rules, arith),
        search (rules, arith, append_assoc),
        ap (λ x. x ++ f ∷ []) (sym first_formulas_are),
      )
