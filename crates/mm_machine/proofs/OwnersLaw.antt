-- Masks of formulas, and what they say of disjoint variables.
use Rattle.std.proofs.Common.{rules, ◌≡◌, ℕ, ◌+◌, ◌<◌, ◌≤◌, ◌⊎◌, inl, inr, Bool, true, false, List}
use Rattle.std.proofs.Common.{[], ◌∷◌, ◌++◌, length, take, drop, get_or, bit_or, refl, sym, ap, ◌∙◌}
use Rattle.std.proofs.Common.{subst, arith, All, cond, Result, Ok, Err, OnOk, OnErr, length-append}
use Rattle.std.proofs.Common.{length-take, length-drop, true≢false, append-nil, bit_and}
use Rattle.std.proofs.Common.{slice_range, append_assoc, ◌*◌, ◌^◌, ◌%◌, w64}
use Rattle.std.proofs.lemmas.Grind.{common_steps}
use Rattle.std.specs.Int.{bit_at, bit_not}
use Rattle.std.specs.List.{list_all, AllByRecursion}
use Rattle.std.proofs.lemmas.Nat.Bits.{bit_at_or, bit_at-lt, bit_at-zero, bit_at_set_same}
use Rattle.std.proofs.lemmas.Nat.Bits.{bit_at_clear_other}
use Rattle.std.proofs.lemmas.List.{get_or-take, get_or-drop, get_or_append_left, length-map}
use Rattle.std.proofs.lemmas.List.{get_or_push, get_or-map, map_push, take-map, drop-map, take_more}
use Rattle.std.proofs.lemmas.List.Elements.{recursion_from_All, All-from_recursion, All-nil}
use Rattle.std.proofs.lemmas.List.Elements.{All-cons, All-weaker, All-push, All-head, All-tail}
use Rattle.std.proofs.lemmas.List.Folds.{list_all_more}
use Rattle.std.proofs.lemmas.List.Sums.{list_all-from_AllPass}
use Rattle.std.proofs.lemmas.Bool.{cases_lt, cases_eq, cases_Bool}
use Rattle.mm_spec.specs.Statement.{Statement}
use Rattle.mm_spec.specs.Frame.{is_variable_number, symbol_names, frame_at}
use Rattle.mm_spec.specs.Derivation.{Formula, are_disjoint, is_disjoint_from, are_all_disjoint}
use Rattle.mm_spec.specs.Citation.{context_at}
use Rattle.mm_nodes.specs.Strings.{string_of, joined_string_of}
use Rattle.mm_rule.specs.declared.rule.RulePart.{RulePart}
use Rattle.mm_rule.specs.declared.rule.RulePart.TheVariants.{Constant, Variable}
use Rattle.mm_rule.specs.Rule.{CompiledRule, IsCompiled, IsVariableBelow, IsConstantBelow, parts_of}
use Rattle.mm_rule.specs.Rule.{floating_index}
use Rattle.mm_machine.specs.declared.entry.Entry.{Entry}
use Rattle.mm_machine.specs.declared.owners.TheConstants.{OTHERS}
use Rattle.mm_machine.specs.Entries.{no_entry, entry_formula, entry_formulas}
use Rattle.mm_machine.specs.Filled.{body_string_at, filled_part, filled_parts, IsFilled}
use Rattle.mm_machine.specs.declared.entry.Filled.{Filled}
use Rattle.mm_machine.specs.FlagRows.{ExtendsSymbols}
use Rattle.mm_machine.specs.Masks.{AreVariablesOf, HasOwnBit, IsMasked, AreMasked, AreAllMasked}
use Rattle.mm_machine.specs.Masks.{entry_masks, Includes, IncludesPart, IsNoVariable, StayMasked}
use Rattle.mm_machine.specs.Masks.{IsDisjointFromMask, AreDisjointMasks, Owned}
use Rattle.mm_machine.proofs.DistinctLaw.{constant_is_disjoint_from, is_disjoint_from_constant}
use Rattle.mm_machine.specs.State.{HasMasks}
use Rattle.mm_machine.proofs.EntryRuleLaw.{entry_formula_is_at}
use Rattle.mm_machine.proofs.FilledLaw.{All_behind, All_flat_map}
use Rattle.mm_machine.proofs.StepLaw.{premises_are, variables_are_below_premises}

-- ---- more bits, and more variables with bits

pub includes_first : (m n : ℕ) → Includes (bit_or m n) m
includes_first m n i is_set = omega (arith, bit_at_or m n i, bit_at-lt n i, is_set)

pub includes_second : (m n : ℕ) → Includes (bit_or m n) n
includes_second m n i is_set = omega (arith, bit_at_or m n i, bit_at-lt m i, is_set)

module _ (vs : List Bool) (owners owners' : List ℕ) (m n s : ℕ) (extends : ExtendsSymbols owners
    owners')
    (includes : Includes n m) where
  pub masked_by_more : IsMasked vs owners m s → IsMasked vs owners' n s
  masked_by_more is_masked is_variable =
      elim (is_masked is_variable) [
        | inl is_other ↦ inl (includes OTHERS is_other)
        | inr own ↦
            let lt = own.index_lt_length in
            inr (record {
              index = own.index;
              index_lt_others = own.index_lt_others;
              index_lt_length = rw extends.1 (omega (arith, lt, length-append owners extends.0));
              is_owner =
                  rw extends.1 (get_or_append_left owners extends.0 0 own.index lt ∙ own.is_owner);
              is_set = includes own.index own.is_set;
            })
      ]

pub itself_included : (m : ℕ) → Includes m m
itself_included m i is_set = is_set

pub itself_extended : (owners : List ℕ) → ExtendsSymbols owners owners
itself_extended owners = ([], sym (append-nil owners))

pub extended_further : (xs ys zs : List ℕ) → ExtendsSymbols xs ys → ExtendsSymbols ys zs
    → ExtendsSymbols xs zs
extended_further xs ys zs first second = grind (arith, common_steps, append_assoc)

pub formula_masked_by_more : (vs : List Bool) (owners owners' : List ℕ) (m n : ℕ) (f : Formula)
    → ExtendsSymbols owners owners' → Includes n m → AreMasked vs owners m f
    → AreMasked vs owners' n f
formula_masked_by_more vs owners owners' m n f extends includes are_masked =
    All-weaker (IsMasked vs owners m) (IsMasked vs owners' n)
    (λ s. masked_by_more vs owners owners' m n s extends includes) f are_masked

pub all_masked_by_more : (vs : List Bool) (owners owners' : List ℕ) (ms : List ℕ)
    (fs : List Formula) → ExtendsSymbols owners owners' → AreAllMasked vs owners ms fs
    → AreAllMasked vs owners' ms fs
all_masked_by_more vs owners owners' ms fs extends all_masked i i_lt =
    grind (arith, common_steps, formula_masked_by_more, itself_included)

-- ---- the bits of a loop

-- each bit of the mask that is set is still to come, or has the property
abbrev pub SoFar : (ℕ → Type 0) → ℕ → ℕ → Type 0
SoFar P mask rest = (i : ℕ) → i ≤ OTHERS → bit_at mask i ≡ 1 → (bit_at rest i ≡ 1) ⊎ P i

pub all_to_come : (P : ℕ → Type 0) (mask : ℕ) → SoFar P mask mask
all_to_come P mask i i_le is_set = inl is_set

pub one_less : (P : ℕ → Type 0) (mask rest index : ℕ) → index ≤ OTHERS → P index → SoFar P mask rest
    → SoFar P mask (bit_and rest (bit_not w64 (1 * 2 ^ index % 2 ^ 64)))
one_less P mask rest index index_le has_property so_far i i_le is_set =
    elim (so_far i i_le is_set) [
      | inr p ↦ inr p
      | inl to_come ↦
          elim (cases_eq i index) [
            | inl same ↦ inr (subst P (sym same) has_property)
            | inr other ↦
                inl (bit_at_clear_other w64 rest index (omega (arith, index_le)) i
                (omega (arith, i_le)) other ∙ to_come)
          ]
    ]

pub none_to_come : (P : ℕ → Type 0) (mask rest : ℕ) → rest ≡ 0 → SoFar P mask rest
    → (i : ℕ) → i ≤ OTHERS → bit_at mask i ≡ 1 → P i
none_to_come P mask rest is_zero so_far i i_le is_set = grind (arith, common_steps, bit_at-zero)

-- ---- the mask of a symbol

pub own_bit : (vs : List Bool) (owners : List ℕ) (i s : ℕ) → i ≤ OTHERS
    → (i < OTHERS → i < length owners) → (i < OTHERS → get_or owners i 0 ≡ s)
    → IsMasked vs owners (1 * 2 ^ i % 2 ^ 64) s
own_bit vs owners i s i_le lt_length is_owner is_variable =
    elim (cases_lt i OTHERS) [
      | inl own ↦ inr (record {
        index = i;
        index_lt_others = own;
        index_lt_length = lt_length own;
        is_owner = is_owner own;
        is_set = is_set;
      })
      | inr other ↦
          let i_is : i ≡ OTHERS = omega (arith, i_le, other) in
          inl (subst (λ k. bit_at (1 * 2 ^ i % 2 ^ 64) k ≡ 1) i_is is_set)
    ]
  where
    is_set : bit_at (1 * 2 ^ i % 2 ^ 64) i ≡ 1
    is_set =
        omega (
          arith,
          bit_at_set_same w64 0 i (omega (arith, i_le)),
          bit_at_or 0 (1 * 2 ^ i % 2 ^ 64) i,
          bit_at-zero i,
        )

pub constant_masked : (vs : List Bool) (owners : List ℕ) (m s : ℕ) → get_or vs s false ≡ false
    → IsMasked vs owners m s
constant_masked vs owners m s is_constant is_variable = grind (arith, common_steps, true≢false)

pub mask_more : (vs : List Bool) (owners owners' : List ℕ) (m n : ℕ) (f : List ℕ) (i s : ℕ)
    → ExtendsSymbols owners owners' → i < length f → s ≡ get_or f i s
    → AreMasked vs owners m (take i f)
    → IsMasked vs owners' n s → AreMasked vs owners' (bit_or m n) (take (i + 1) f)
mask_more vs owners owners' m n f i s extends i_lt s_is so_far is_masked =
    let both = bit_or m n in
    let taken_masked : AreMasked vs owners' both (take i f) =
    formula_masked_by_more vs owners owners' m both (take i f) extends (includes_first m n)
    so_far in
    let next_masked : IsMasked vs owners' both s =
    masked_by_more vs owners' owners' n both s (itself_extended owners') (includes_second m n)
    is_masked in
    subst (AreMasked vs owners' both) (sym (take_more f i s i_lt))
    (All-push (IsMasked vs owners' both) (take i f) (get_or f i s) taken_masked
    (subst (IsMasked vs owners' both) s_is next_masked))

pub flags_push : (db : List Statement) (vs : List Bool) (n : ℕ) (b : Bool) → length vs ≡ n
    → ((s : ℕ) → s < n → get_or vs s false ≡ is_variable_number db s) → b ≡ is_variable_number db n
    → (s : ℕ) → s < n + 1 → get_or (vs ++ b ∷ []) s false ≡ is_variable_number db s
flags_push db vs n b count_is so_far b_is s s_lt =
    grind (arith, common_steps, cases_lt, get_or_append_left, get_or_push)

pub all_flags : (db : List Statement) (vs : List Bool) (n : ℕ) → length vs ≡ n
    → n ≡ length (symbol_names db)
    → ((s : ℕ) → s < n → get_or vs s false ≡ is_variable_number db s) → AreVariablesOf db vs
all_flags db vs n count_is n_is so_far = grind (arith, common_steps)

pub list_all_next : {X : Type 0} (q : X → Bool) (xs : List X) (i : ℕ) (d : X) → i < length xs
    → list_all q (take i xs) ≡ true → q (get_or xs i d) ≡ true → list_all q (take (i + 1) xs) ≡ true
list_all_next q xs i d i_lt so_far holds = grind (arith, common_steps, list_all_more)

-- ---- the parts so far

pub includes_more : (es : List Entry) (parts : List RulePart) (i m n : ℕ) (p : RulePart)
    → i < length parts → p ≡ get_or parts i p → Includes n m → IncludesPart es n p
    → All (IncludesPart es m) (take i parts) → All (IncludesPart es n) (take (i + 1) parts)
includes_more es parts i m n p i_lt p_is includes includes_part so_far =
    subst (All (IncludesPart es n)) (sym (take_more parts i p i_lt))
    (All-push (IncludesPart es n) (take i parts) (get_or parts i p)
    (All-weaker (IncludesPart es m) (IncludesPart es n) weaker (take i parts) so_far)
    (subst (IncludesPart es n) p_is includes_part))
  where
    weaker : (q : RulePart) → IncludesPart es m q → IncludesPart es n q
    weaker (Constant s) included = tt
    weaker (Variable j) included = λ k is_set. includes k (included k is_set)

pub includes_variable : (es : List Entry) (parts : List RulePart) (i m : ℕ) (p : RulePart)
    → i < length parts → p ≡ get_or parts i p → (j : ℕ) → p ≡ Variable j → (e : Entry)
    → e ≡ get_or es j no_entry → All (IncludesPart es m) (take i parts)
    → All (IncludesPart es (bit_or m e.mask)) (take (i + 1) parts)
includes_variable es parts i m p i_lt p_is j is_variable e e_is so_far =
    includes_more es parts i m (bit_or m e.mask) p i_lt p_is (includes_first m e.mask)
    (subst (IncludesPart es (bit_or m e.mask)) (sym is_variable)
    (subst (λ x. Includes (bit_or m e.mask) x.mask) e_is (includes_second m e.mask))) so_far

-- ---- other entries

module _ (vs : List Bool) (owners : List ℕ) where
  pub masked_take : (n : ℕ) (ms : List ℕ) (fs : List Formula) → AreAllMasked vs owners ms fs
      → AreAllMasked vs owners (take n ms) (take n fs)
  masked_take n ms fs all_masked i i_lt =
      let taken = length-take n fs in
      let i_lt_n : i < n = omega (arith, i_lt, taken) in
      rw (get_or-take n fs i [] i_lt_n, get_or-take n ms i 0 i_lt_n)
      (all_masked i (omega (arith, i_lt, taken)))

  pub masked_drop : (n : ℕ) (ms : List ℕ) (fs : List Formula) → AreAllMasked vs owners ms fs
      → AreAllMasked vs owners (drop n ms) (drop n fs)
  masked_drop n ms fs all_masked i i_lt =
      rw (get_or-drop n fs i [], get_or-drop n ms i 0)
      (all_masked (n + i) (omega (arith, i_lt, length-drop n fs)))

  pub masked_push : (ms : List ℕ) (fs : List Formula) (m : ℕ) (f : Formula)
      → length ms ≡ length fs → AreAllMasked vs owners ms fs → AreMasked vs owners m f
      → AreAllMasked vs owners (ms ++ m ∷ []) (fs ++ f ∷ [])
  masked_push ms fs m f counts_equal all_masked is_masked i i_lt =
      elim (cases_lt i (length fs)) [
        | inl before ↦
            rw (
              get_or_append_left fs (f ∷ []) [] i before,
              get_or_append_left ms (m ∷ []) 0 i (omega (arith, before, counts_equal)),
            )
            (all_masked i before)
        | inr behind ↦
            let i_is : length fs ≡ i = omega (arith, behind, i_lt, length-append fs (f ∷ [])) in
            rw (get_or_push fs f [] i i_is, get_or_push ms m 0 i (counts_equal ∙ i_is)) is_masked
      ]

  -- entries were replaced
  pub masked_after : {T E : Type 0} (r : Result T E) (ms ns : List ℕ) (fs gs : List Formula)
      (below m : ℕ) (f : Formula) → length ms ≡ length fs → AreAllMasked vs owners ms fs
      → AreMasked vs owners m f → OnOk r (gs ≡ take below fs ++ f ∷ [])
      → OnErr r (gs ≡ take below fs) → OnOk r (ns ≡ take below ms ++ m ∷ [])
      → OnErr r (ns ≡ take below ms) → AreAllMasked vs owners ns gs
  masked_after (Ok x) ms ns fs gs below m f counts_equal all_masked is_masked gs_are gs_if_err
      ns_are ns_if_err =
      rw (gs_are, ns_are) (masked_push (take below ms) (take below fs) m f
      (omega (arith, counts_equal, length-take below ms, length-take below fs))
      (masked_take below ms fs all_masked) is_masked)
  masked_after (Err e) ms ns fs gs below m f counts_equal all_masked is_masked gs_if_ok gs_are
      ns_if_ok ns_are =
      rw (gs_are, ns_are) (masked_take below ms fs all_masked)

pub masks_push : (es : List Entry) (e : Entry)
    → entry_masks (es ++ e ∷ []) ≡ entry_masks es ++ e.mask ∷ []
masks_push es e = map_push (λ (e : Entry). e.mask) es e

pub masks_take : (n : ℕ) (es : List Entry) → entry_masks (take n es) ≡ take n (entry_masks es)
masks_take n es = sym (take-map (λ (e : Entry). e.mask) n es)

pub masks_count : (nodes : List (List ℕ)) (es : List Entry)
    → length (entry_masks es) ≡ length (entry_formulas nodes es)
masks_count nodes es = length-map es (λ e. e.mask) ∙ sym (length-map es (entry_formula nodes))

mask_is_at : (es : List Entry) (j : ℕ) → j < length es
    → get_or (entry_masks es) j 0 ≡ (get_or es j no_entry).mask
mask_is_at es j j_lt = get_or-map (λ (e : Entry). e.mask) es j no_entry 0 j_lt

-- ---- the formula that a step pushes

module _ (vs : List Bool) (owners : List ℕ) where
  -- what replaces a variable by an entry
  pub body_masked : (nodes : List (List ℕ)) (es : List Entry) (j : ℕ)
      → AreAllMasked vs owners (entry_masks es) (entry_formulas nodes es) → j < length es
      → AreMasked vs owners (get_or es j no_entry).mask (body_string_at nodes es j)
  body_masked nodes es j all_masked j_lt =
      let e = get_or es j no_entry in
      All_behind (IsMasked vs owners e.mask) (string_of nodes e.typecode) (string_of nodes e.body)
      (subst (AreMasked vs owners e.mask) (sym (entry_formula_is_at nodes es j j_lt))
      (subst (λ n. AreMasked vs owners n (get_or (entry_formulas nodes es) j []))
      (mask_is_at es j j_lt)
      (all_masked j (omega (arith, j_lt, length-map es (entry_formula nodes))))))

  pub filled_masked : (nodes : List (List ℕ)) (es : List Entry) (parts : List RulePart) (m : ℕ)
      → AreAllMasked vs owners (entry_masks es) (entry_formulas nodes es)
      → All (IsNoVariable vs) parts → All (IsVariableBelow (length es)) parts
      → All (IncludesPart es m) parts → AreMasked vs owners m (filled_parts nodes es parts)
  filled_masked nodes es parts m all_masked no_variables variables_below includes =
      All_flat_map (IsMasked vs owners m) (filled_part nodes es) parts
      (λ i d i_lt. part_masked (get_or parts i d)
      (no_variables i d i_lt) (variables_below i d i_lt) (includes i d i_lt))
    where
      part_masked : (p : RulePart) → IsNoVariable vs p → IsVariableBelow (length es) p
          → IncludesPart es m p → AreMasked vs owners m (filled_part nodes es p)
      part_masked (Constant s) no_variable is_below part_included =
          All-from_recursion (IsMasked vs owners m) (s ∷ [])
          (constant_masked vs owners m s no_variable, tt)
      part_masked (Variable j) no_variable is_below part_included =
          formula_masked_by_more vs owners owners (get_or es j no_entry).mask m
          (body_string_at nodes es j) (itself_extended owners) part_included
          (body_masked nodes es j all_masked is_below)

-- an entry more that has the formula and the mask of one of others
pub pushed_as_before : (nodes : List (List ℕ)) (from es : List Entry) (i : ℕ) (m e : Entry)
    (vs : List Bool) (owners : List ℕ) → i < length from → m ≡ get_or from i no_entry
    → entry_formula nodes e ≡ entry_formula nodes m → e.mask ≡ m.mask
    → AreAllMasked vs owners (entry_masks from) (entry_formulas nodes from)
    → AreAllMasked vs owners (entry_masks es) (entry_formulas nodes es)
    → AreAllMasked vs owners (entry_masks (es ++ e ∷ [])) (entry_formulas nodes (es ++ e ∷ []))
pushed_as_before nodes from es i m e vs owners i_lt m_is formula_stays mask_stays from_masked
    es_masked =
    rw (masks_push es e, map_push (entry_formula nodes) es e)
    (masked_push vs owners (entry_masks es) (entry_formulas nodes es) e.mask (entry_formula nodes e)
    (masks_count nodes es) es_masked
    (rw (
      mask_stays,
      formula_stays,
      m_is,
      sym (mask_is_at from i i_lt),
      entry_formula_is_at nodes from i i_lt,
    )
    (from_masked i (omega (arith, length-map from (entry_formula nodes), i_lt)))))

-- entries that were replaced, in terms of what replaced them
pub replaced_stay_masked : {T E : Type 0} (r : Result T E) (nodes nodes' : List (List ℕ))
    (es es' : List Entry) (below m : ℕ) (parts : List RulePart) (f : Formula)
    → ((vs : List Bool) (owners : List ℕ) → All (IsNoVariable vs) parts
    → AreAllMasked vs owners (entry_masks es) (entry_formulas nodes es) → AreMasked vs owners m f)
    → OnOk r (entry_formulas nodes' es' ≡ take below (entry_formulas nodes es) ++ f ∷ [])
    → OnErr r (entry_formulas nodes' es' ≡ take below (entry_formulas nodes es))
    → OnOk r (entry_masks es' ≡ take below (entry_masks es) ++ m ∷ [])
    → OnErr r (entry_masks es' ≡ take below (entry_masks es)) → StayMasked parts nodes es nodes' es'
replaced_stay_masked r nodes nodes' es es' below m parts f f_masked formulas_are formulas_stay
    masks_are masks_stay = record {
      stay = λ vs owners no_variables all_masked.
          masked_after vs owners r (entry_masks es) (entry_masks es') (entry_formulas nodes es)
          (entry_formulas nodes' es') below m f (masks_count nodes es) all_masked
          (f_masked vs owners no_variables all_masked) formulas_are formulas_stay masks_are
          masks_stay;
    }

-- the premises of a step, by the values that the code has
pub premises_masked : (vs : List Bool) (owners : List ℕ) (nodes nodes' : List (List ℕ))
    (es es' : List Entry) (below : ℕ) → nodes' ≡ nodes → es' ≡ es
    → AreAllMasked vs owners (entry_masks es) (entry_formulas nodes es)
    → AreAllMasked vs owners (entry_masks (slice_range es' below (length es')))
    (entry_formulas nodes' (slice_range es' below (length es')))
premises_masked vs owners nodes nodes' es es' below nodes_equal es_equal all_masked =
    rw (
      nodes_equal,
      premises_are es es' below es_equal,
      sym (drop-map (λ (e : Entry). e.mask) below es),
      sym (drop-map (entry_formula nodes) below es),
    )
    (masked_drop vs owners below (entry_masks es) (entry_formulas nodes es) all_masked)

-- a typecode and filled parts were pushed
pub parts_stay_masked : {T E : Type 0} (r : Result T E) (nodes nodes' : List (List ℕ))
    (es stack es' : List Entry) (below t : ℕ) (parts : List RulePart) (list : List ℕ)
    (filled : Filled)
    (b : ℕ) (bodies : List ℕ) → stack ≡ es → b ≡ t → bodies ≡ take filled.count list
    → IsFilled nodes (slice_range stack below (length stack)) parts list filled
    → All (IsVariableBelow (length (drop below es))) parts → OnOk r (entry_formulas nodes' es'
    ≡ take below (entry_formulas nodes es) ++ (b ∷ joined_string_of nodes bodies) ∷ [])
    → OnErr r (entry_formulas nodes' es' ≡ take below (entry_formulas nodes es))
    → OnOk r (entry_masks es' ≡ take below (entry_masks es) ++ filled.mask ∷ [])
    → OnErr r (entry_masks es' ≡ take below (entry_masks es))
    → StayMasked (Constant t ∷ parts) nodes es nodes' es'
parts_stay_masked r nodes nodes' es stack es' below t parts list filled b bodies stack_is b_is
    bodies_are is_filled variables_below formulas_are formulas_stay masks_are masks_stay =
    replaced_stay_masked r nodes nodes' es es' below filled.mask (Constant t ∷ parts)
    (b ∷ joined_string_of nodes bodies) f_masked formulas_are formulas_stay masks_are masks_stay
  where
    premises : List Entry
    premises = slice_range stack below (length stack)

    f_masked : (vs : List Bool) (owners : List ℕ) → All (IsNoVariable vs) (Constant t ∷ parts)
        → AreAllMasked vs owners (entry_masks es) (entry_formulas nodes es)
        → AreMasked vs owners filled.mask (b ∷ joined_string_of nodes bodies)
    f_masked vs owners no_variables all_masked =
        rw (b_is, ap (joined_string_of nodes) bodies_are ∙ is_filled.string_is)
        (All-cons (IsMasked vs owners filled.mask) t (filled_parts nodes premises parts)
        (constant_masked vs owners filled.mask t
        (All-head (IsNoVariable vs) (Constant t) parts no_variables))
        (filled_masked vs owners nodes premises parts filled.mask
        (premises_masked vs owners nodes nodes es stack below refl stack_is all_masked)
        (All-tail (IsNoVariable vs) (Constant t) parts no_variables)
        (variables_are_below_premises es stack below parts stack_is variables_below)
        is_filled.includes_masks))

-- the formula of a compiled rule names constants and its own variables
pub rule_has_no_variables : (db : List Statement) (vs : List Bool) (c : CompiledRule)
    → AreVariablesOf db vs → IsCompiled db c → All (IsNoVariable vs) c.formula
rule_has_no_variables db vs c are_variables rule =
    let is_constant_below = IsConstantBelow (length (symbol_names db)) in
    subst (All (IsNoVariable vs)) (sym rule.formula_is)
    (All-from_recursion (IsNoVariable vs) (parts_of db hs f)
    (each f (recursion_from_All is_constant_below (parts_of db hs f)
    (subst (All is_constant_below) rule.formula_is rule.constants_in_range))))
  where
    hs : List Formula
    hs = (frame_at db c.assertion).hypotheses

    f : Formula
    f = (frame_at db c.assertion).formula

    by_test : (s : ℕ) (b : Bool) → is_variable_number db s ≡ b
        → IsConstantBelow (length (symbol_names db))
        (cond b (Variable (floating_index db hs s)) (Constant s))
        → IsNoVariable vs (cond b (Variable (floating_index db hs s)) (Constant s))
    by_test s true is_variable is_below = tt
    by_test s false is_constant is_below =
        are_variables.are_variables s (omega (arith, are_variables.count_is, is_below))
        ∙ is_constant

    each : (f : Formula)
        → AllByRecursion (IsConstantBelow (length (symbol_names db))) (parts_of db hs f)
        → AllByRecursion (IsNoVariable vs) (parts_of db hs f)
    each [] all_below = tt
    each (s ∷ f) all_below =
        (by_test s (is_variable_number db s) refl all_below.0, each f all_below.1)

-- ---- masks that are apart

module _ (db : List Statement) (t : ℕ) (vs : List Bool) (owners : List ℕ)
    (are_variables : AreVariablesOf db vs) where
  abbrev w : ℕ
  w = length (symbol_names db)

  -- a masked symbol has a bit of its own, or it is a constant
  own_or_constant : (m s : ℕ) → IsMasked vs owners m s → s < w → (bit_at m OTHERS ≡ 1 → ⊥)
      → HasOwnBit owners m s ⊎ (is_variable_number db s ≡ false)
  own_or_constant m s is_masked s_lt no_other =
      elim (cases_Bool (get_or vs s false)) [
        | inl is_variable ↦
            elim (is_masked is_variable) [
              | inl is_other ↦ absurd (no_other is_other)
              | inr own ↦ inl own
            ]
        | inr is_constant ↦
            inr (sym (are_variables.are_variables s (omega (arith, are_variables.count_is, s_lt)))
            ∙ is_constant)
      ]

  apart_from_formula : (s m : ℕ) (v : List ℕ) → IsDisjointFromMask db t owners s m
      → AreMasked vs owners m v → All (λ r. r < w) v → is_disjoint_from (context_at db t) s v ≡ true
  apart_from_formula s m v is_apart v_masked v_below =
      list_all-from_AllPass (are_disjoint (context_at db t) s) v
      (λ k d k_lt. elim (own_or_constant m (get_or v k d) (v_masked k d k_lt) (v_below k d k_lt)
      (λ other. omega (arith, (is_apart OTHERS (omega arith) other).0))) [
        | inl own ↦
            ap (are_disjoint (context_at db t) s) (sym own.is_owner)
            ∙ (is_apart own.index (omega (arith, own.index_lt_others)) own.is_set).1
        | inr is_constant ↦ is_disjoint_from_constant db t s (get_or v k d) is_constant
      ])

  pub disjoint_if_apart : (m n : ℕ) (u v : List ℕ) → AreDisjointMasks db t owners m n
      → AreMasked vs owners m u → All (λ r. r < w) u → AreMasked vs owners n v → All (λ r. r < w) v
      → are_all_disjoint (context_at db t) u v ≡ true
  disjoint_if_apart m n u v are_apart u_masked u_below v_masked v_below =
      list_all-from_AllPass (λ s. is_disjoint_from (context_at db t) s v) u
      (λ k d k_lt. elim (own_or_constant m (get_or u k d) (u_masked k d k_lt) (u_below k d k_lt)
      (λ other. omega (arith, (are_apart OTHERS (omega arith) other).0))) [
        | inl own ↦
            apart_from_formula (get_or u k d) n v (subst (λ o. IsDisjointFromMask db t owners o n)
            own.is_owner (are_apart own.index (omega (arith, own.index_lt_others)) own.is_set).1)
            v_masked v_below
        | inr is_constant ↦ constant_is_disjoint_from db t (get_or u k d) is_constant v
      ])

-- ---- the masks of a machine

pub no_entries_masked : (nodes : List (List ℕ)) (stack marked : List Entry) (o : Owned)
    → stack ≡ [] → marked ≡ [] → o.symbols ≡ [] → HasMasks nodes stack marked o
no_entries_masked nodes stack marked o stack_is marked_is no_owners = search (rules, arith, All-nil)

module _ {nodes : List (List ℕ)} {stack marked : List Entry} {o : Owned}
    (has_masks : HasMasks nodes stack marked o) where
  pub masks_with_stack : (nodes' : List (List ℕ)) (stack' : List Entry)
      → entry_formulas nodes' marked ≡ entry_formulas nodes marked
      → AreAllMasked o.variable_flags o.symbols (entry_masks stack') (entry_formulas nodes' stack')
      → HasMasks nodes' stack' marked o
  masks_with_stack nodes' stack' marked_stay stack_masked = record {
    stack_masked = stack_masked;
    marked_masked = rw marked_stay has_masks.marked_masked;
    owners_in_range = has_masks.owners_in_range;
  }

  pub masks_with_owners : (o' : Owned) → o'.variable_flags ≡ o.variable_flags
      → ExtendsSymbols o.symbols o'.symbols
      → (All (λ s. s < length o.variable_flags) o.symbols
      → All (λ s. s < length o.variable_flags) o'.symbols)
      → HasMasks nodes stack marked o'
  masks_with_owners o' variables_stay extends stay_in_range = record {
    stack_masked =
        rw variables_stay (all_masked_by_more o.variable_flags o.symbols o'.symbols
        (entry_masks stack) (entry_formulas nodes stack) extends has_masks.stack_masked);
    marked_masked =
        rw variables_stay (all_masked_by_more o.variable_flags o.symbols o'.symbols
        (entry_masks marked) (entry_formulas nodes marked) extends has_masks.marked_masked);
    owners_in_range = rw variables_stay (stay_in_range has_masks.owners_in_range);
  }

  -- an entry more that has the formula and the mask of a marked one
  pub masks_with_repeated : (i : ℕ) (m e : Entry) → i < length marked
      → m ≡ get_or marked i no_entry → entry_formula nodes e ≡ entry_formula nodes m
      → e.mask ≡ m.mask → HasMasks nodes (stack ++ e ∷ []) marked o
  masks_with_repeated i m e i_lt m_is formula_stays mask_stays =
      masks_with_stack nodes (stack ++ e ∷ []) refl
      (pushed_as_before nodes marked stack i m e o.variable_flags o.symbols i_lt m_is formula_stays
      mask_stays has_masks.marked_masked has_masks.stack_masked)

  -- a marked entry more that has the formula and the mask of one of the stack
  pub masks_with_marked : (i : ℕ) (m e : Entry) → i < length stack
      → m ≡ get_or stack i no_entry → entry_formula nodes e ≡ entry_formula nodes m
      → e.mask ≡ m.mask → HasMasks nodes stack (marked ++ e ∷ []) o
  masks_with_marked i m e i_lt m_is formula_stays mask_stays = record {
    stack_masked = has_masks.stack_masked;
    marked_masked =
        pushed_as_before nodes stack marked i m e o.variable_flags o.symbols i_lt m_is formula_stays
        mask_stays has_masks.stack_masked has_masks.marked_masked;
    owners_in_range = has_masks.owners_in_range;
  }
