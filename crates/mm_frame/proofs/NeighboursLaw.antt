-- Assertions of one scope and with the same further variables have the same frame.
use Rattle.std.proofs.Common.{◌≡◌, ◌≢◌, ℕ, zero, suc, ◌+◌, ◌-◌, ◌<◌, ◌≤◌, Bool, true, false, ◌&&◌}
use Rattle.std.proofs.Common.{◌||◌, not, cond, List, [], ◌∷◌, length, get_or, nat_eq, nat_lt, refl}
use Rattle.std.proofs.Common.{sym, ap, ap₂, ◌∙◌, subst, arith, true≢false, Option, Some, None}
use Rattle.std.proofs.Common.{slice_get, if◌then◌else◌, inl, inr}
use Rattle.std.proofs.lemmas.Bool.{lt-ltb, le-ltb, ne_eqb, cases_lt, cases_eq, cases_order}
use Rattle.std.proofs.lemmas.Grind.{common_steps}
use Rattle.std.proofs.Math.Bool.{or-false}
use Rattle.std.proofs.lemmas.List.FromFn.{get_or-map-range_with_len}
use Rattle.std.specs.List.{list_any, range_with_len, filter}
use Rattle.mm_spec.specs.Statement.{Statement}
use Rattle.mm_spec.specs.Scope.{statement_at, active, active_at, is_block_open}
use Rattle.mm_spec.specs.Scope.{is_still_active, is_some_still_active}
use Rattle.mm_spec.specs.Derivation.{is_member, Pair}
use Rattle.mm_spec.specs.Citation.{is_assertion}
use Rattle.mm_spec.specs.Frame.{is_variable_number, is_essential, is_floating, formula_at}
use Rattle.mm_spec.specs.Frame.{is_disjoint_statement, active_of, mandatory_variables}
use Rattle.mm_spec.specs.Frame.{mandatory_hypotheses, mandatory_pairs, pairs_below, symbol_names}
use Rattle.mm_spec.proofs.MemberLaw.{same_members_same_any, IsLocalTest}
use Rattle.mm_outline.specs.Blocks.{never}
use Rattle.mm_database.specs.Frames.{Mandatory, mandatory, mandatory_at, frame_or_none}
use Rattle.mm_database.specs.Frames.{frames_between}
use Rattle.mm_frame.specs.Hypotheses.{IsFresh}
use Rattle.mm_frame.specs.Latest.{is_frame_part, is_staying, IsLatest}
use Rattle.mm_frame.specs.Neighbours.{IsSameScope, is_further, IsReady, IsPreviousKnown}
use Rattle.mm_frame.specs.Neighbours.{AreEssentialLists, index_from}
use Rattle.mm_frame.specs.declared.frames.Scratch.{Scratch}
use Rattle.mm_frame.proofs.HypothesesLaw.{found_are_mandatory_variables}
use Rattle.mm_frame.proofs.LatestLaw.{staying_at_nested}

-- ---- lists that are filtered alike

-- equal tests pass the same
filters_agree : {X : Type 0} (p q : X → Bool) (xs : List X) → ((x : X) → p x ≡ q x)
    → filter p xs ≡ filter q xs
filters_agree p q xs h1 = grind (arith, common_steps)

-- a filter of a list with one number more
filter_of_next : (q : ℕ → Bool) (passes : Bool) (a : ℕ) (xs : List ℕ)
    → filter q (cond passes (a ∷ xs) xs)
    ≡ cond (passes && q a) (a ∷ filter q xs) (filter q xs)
filter_of_next q true a xs = refl
filter_of_next q false a xs = refl

-- if what passes both tests passes `q` and the other, the filters agree
filters_agree_with : (q f g : ℕ → Bool) (a n : ℕ)
    → ((j : ℕ) → j < a + n → (f j && q j) ≡ (g j && q j))
    → filter q (filter f (range_with_len a n)) ≡ filter q (filter g (range_with_len a n))
filters_agree_with q f g a zero tests_agree = refl
filters_agree_with q f g a (suc n) tests_agree =
    filter_of_next q (f a) a (filter f (range_with_len (a + 1) n))
    ∙ ap₂ (λ c xs. cond c (a ∷ xs) xs) (tests_agree a (omega arith))
    (filters_agree_with q f g (a + 1) n (λ j j_lt. tests_agree j (omega (arith, j_lt))))
    ∙ sym (filter_of_next q (g a) a (filter g (range_with_len (a + 1) n)))

-- a range that goes on with numbers that don't pass
filter_of_longer : (f : ℕ → Bool) (a n more : ℕ) → n ≤ more
    → ((j : ℕ) → a + n ≤ j → f j ≡ false)
    → filter f (range_with_len a more) ≡ filter f (range_with_len a n)
filter_of_longer f a zero zero n_le_more fails = refl
filter_of_longer f a zero (suc more) n_le_more fails =
    ap (λ c. cond c (a ∷ filter f (range_with_len (a + 1) more))
    (filter f (range_with_len (a + 1) more))) (fails a (omega arith))
    ∙ filter_of_longer f (a + 1) zero more (omega arith)
    (λ j a_le_j. fails j (omega (arith, a_le_j)))
filter_of_longer f a (suc n) zero n_le_more fails = absurd (omega (arith, n_le_more))
filter_of_longer f a (suc n) (suc more) n_le_more fails =
    ap (λ xs. cond (f a) (a ∷ xs) xs)
    (filter_of_longer f (a + 1) n more (omega (arith, n_le_more))
    (λ j a_le_j. fails j (omega (arith, a_le_j))))

-- ---- statements of which frames are made

-- such a statement is active to the end of its block
part_local : IsLocalTest is_frame_part
part_local s b h1 = grind (arith, common_steps, true≢false)

-- another one is none of a `$e`, `$f` and `$d`
other_is_no_part : (s : Statement) → is_frame_part s ≡ false
    → (is_essential s ≡ false) × (is_floating s ≡ false) × (is_disjoint_statement s ≡ false)
other_is_no_part s h1 = grind (arith, common_steps, true≢false)

module _ (db : List Statement) where
  other_tests : (j : ℕ) → list_any is_frame_part (statement_at db j) ≡ false
      → (list_any is_essential (statement_at db j) ≡ false)
      × (list_any is_floating (statement_at db j) ≡ false)
      × (list_any is_disjoint_statement (statement_at db j) ≡ false)
  other_tests j is_other = by_statement (slice_get db j) is_other
    where
      by_statement : (o : Option Statement)
          → list_any is_frame_part (elim o [ None ↦ [] | Some s ↦ s ∷ [] ]) ≡ false
          → (list_any is_essential (elim o [ None ↦ [] | Some s ↦ s ∷ [] ]) ≡ false)
          × (list_any is_floating (elim o [ None ↦ [] | Some s ↦ s ∷ [] ]) ≡ false)
          × (list_any is_disjoint_statement (elim o [ None ↦ [] | Some s ↦ s ∷ [] ]) ≡ false)
      by_statement None fails = (refl, refl, refl)
      by_statement (Some s) fails =
          let tests = other_is_no_part s (sym (or-false (is_frame_part s)) ∙ fails) in (
            or-false (is_essential s) ∙ tests.0,
            or-false (is_floating s) ∙ tests.1,
            or-false (is_disjoint_statement s) ∙ tests.2,
          )

  -- such a statement is active where its block is open
  part_active : (j k : ℕ) → j < k → list_any is_frame_part (statement_at db j) ≡ true
      → active_at db j k ≡ is_block_open db j k
  part_active j k j_lt_k is_part = by_statement (slice_get db j) is_part
    where
      by_statement : (o : Option Statement)
          → list_any is_frame_part (elim o [ None ↦ [] | Some s ↦ s ∷ [] ]) ≡ true
          → (nat_lt j k && is_some_still_active o (is_block_open db j k)) ≡ is_block_open db j k
      by_statement None passes = absurd (true≢false (sym passes))
      by_statement (Some s) passes =
          ap (λ c. c && is_still_active s (is_block_open db j k)) (lt-ltb j k j_lt_k)
          ∙ part_local s (is_block_open db j k) (sym (or-false (is_frame_part s)) ∙ passes)

  module _ (p k last : ℕ) (p_lt_k : p < k) (latest_at_p : IsLatest is_frame_part db p last)
      (latest_at_k : IsLatest is_frame_part db k last) where
    -- with the same last one, each earlier one stays until k if it stays until p
    staying_agree : (j : ℕ) → j < p
        → is_staying is_frame_part db j k ≡ is_staying is_frame_part db j p
    staying_agree j j_lt_p = elim (cases_eq last never) [
      | inl is_never ↦
          latest_at_k.later_are_not_staying j (omega (arith, j_lt_p, p_lt_k)) (inr is_never)
          ∙ sym (latest_at_p.later_are_not_staying j j_lt_p (inr is_never))
      | inr is_some ↦
          let at_p = latest_at_p.last_is_staying is_some in
          let at_k = latest_at_k.last_is_staying is_some in
          let last_lt_p = at_p.0 in
          elim (cases_order j last) [
            | inl j_is_last ↦ rw j_is_last (at_k.1 ∙ sym at_p.1)
            | inr (inl j_lt_last) ↦
                staying_at_nested is_frame_part db j last k j_lt_last
                (omega (arith, last_lt_p, p_lt_k)) at_k.1
                ∙ sym (staying_at_nested is_frame_part db j last p j_lt_last
                (omega (arith, last_lt_p)) at_p.1)
            | inr (inr last_lt_j) ↦
                latest_at_k.later_are_not_staying j (omega (arith, j_lt_p, p_lt_k)) (inl last_lt_j)
                ∙ sym (latest_at_p.later_are_not_staying j j_lt_p (inl last_lt_j))
          ]
    ]

    -- and none between them stays
    none_since : (j : ℕ) → p ≤ j → j < k → is_staying is_frame_part db j k ≡ false
    none_since j p_le_j j_lt_k = elim (cases_eq last never) [
      | inl is_never ↦ latest_at_k.later_are_not_staying j j_lt_k (inr is_never)
      | inr is_some ↦
          let last_lt_p = (latest_at_p.last_is_staying is_some).0 in
          latest_at_k.later_are_not_staying j j_lt_k (inl (omega (arith, last_lt_p, p_le_j)))
    ]

    parts_agree : (j : ℕ) → j < k → list_any is_frame_part (statement_at db j) ≡ true
        → active_at db j k ≡ active_at db j p
    parts_agree j j_lt_k is_part = elim (cases_lt j p) [
      | inl j_lt_p ↦
          part_active j k j_lt_k is_part
          ∙ sym (ap (λ c. c && is_block_open db j k) is_part)
          ∙ staying_agree j j_lt_p
          ∙ ap (λ c. c && is_block_open db j p) is_part
          ∙ sym (part_active j p j_lt_p is_part)
      | inr p_le_j ↦
          part_active j k j_lt_k is_part
          ∙ sym (ap (λ c. c && is_block_open db j k) is_part)
          ∙ none_since j p_le_j j_lt_k
          ∙ sym (ap (λ c. c && is_some_still_active (slice_get db j) (is_block_open db j p))
          (le-ltb j p p_le_j))
    ]

    -- so the two have the same scope
    pub same_scope_of_latest : IsSameScope db p k
    same_scope_of_latest = λ q fails.
        filters_agree_with q (λ j. active_at db j k) (λ j. active_at db j p) 0 k
        (λ j j_lt_k. by_test q fails j j_lt_k (list_any is_frame_part (statement_at db j)) refl)
        ∙ ap (filter q) (filter_of_longer (λ j. active_at db j p) 0 p k (omega (arith, p_lt_k))
        (λ j p_le_j. ap (λ c. c
        && is_some_still_active (slice_get db j) (is_block_open db j p))
        (le-ltb j p (omega (arith, p_le_j)))))
      where
        by_test : (q : ℕ → Bool)
            → ((j : ℕ) → list_any is_frame_part (statement_at db j) ≡ false → q j ≡ false)
            → (j : ℕ) → j < 0 + k → (passes : Bool)
            → list_any is_frame_part (statement_at db j) ≡ passes
            → (active_at db j k && q j) ≡ (active_at db j p && q j)
        by_test q fails j j_lt_k true is_part =
            ap (λ c. c && q j) (parts_agree j (omega (arith, j_lt_k)) is_part)
        by_test q fails j j_lt_k false is_other =
            let q_fails = fails j is_other in
            grind (arith, q_fails)

  -- ---- the same frame

  module _ (p k : ℕ) (same_scope : IsSameScope db p k) where
    -- the active `$e` are the same
    pub same_essentials : active_of is_essential db k ≡ active_of is_essential db p
    same_essentials =
        same_scope (λ j. list_any is_essential (statement_at db j))
        (λ j is_other. (other_tests j is_other).0)

    same_disjoints : active_of is_disjoint_statement db k ≡ active_of is_disjoint_statement db p
    same_disjoints =
        same_scope (λ j. list_any is_disjoint_statement (statement_at db j))
        (λ j is_other. (other_tests j is_other).2)

    module _ (vs : List ℕ) (variables_are : (x : ℕ)
        → is_member vs x ≡ (is_variable_number db x
        && list_any (λ j. is_member (formula_at db j) x) (active_of is_essential db p)))
        (further_agree : (x : ℕ) → is_further db k vs x ≡ is_further db p vs x) where
      mandatory_by_parts : (m x : ℕ) → active_of is_essential db m ≡ active_of is_essential db p
          → is_member (mandatory_variables db m) x ≡ (is_further db m vs x || is_member vs x)
      mandatory_by_parts m x essentials_are =
          sym (found_are_mandatory_variables db m (active_of is_essential db m) (λ i. refl) x)
          ∙ ap (λ es. is_variable_number db x
          && (is_member (formula_at db m) x || list_any (λ j. is_member (formula_at db j) x) es))
          essentials_are
          ∙ grind (arith, variables_are x)

      same_mandatory : (x : ℕ)
          → is_member (mandatory_variables db k) x ≡ is_member (mandatory_variables db p) x
      same_mandatory x =
          mandatory_by_parts k x same_essentials
          ∙ ap (λ c. c || is_member vs x) (further_agree x)
          ∙ sym (mandatory_by_parts p x refl)

      same_hypotheses : mandatory_hypotheses db k ≡ mandatory_hypotheses db p
      same_hypotheses =
          same_scope _ (λ j is_other. rw ((other_tests j is_other).0, (other_tests j is_other).1)
          refl)
          ∙ filters_agree _ _ (active db p)
          (λ j. ap (λ c. list_any is_essential (statement_at db j)
          || (list_any is_floating (statement_at db j) && c))
          (any_agree (formula_at db j)))
        where
          any_agree : (xs : List ℕ) → list_any (is_member (mandatory_variables db k)) xs
              ≡ list_any (is_member (mandatory_variables db p)) xs
          any_agree [] = refl
          any_agree (x ∷ xs) = ap₂ (λ a b. a || b) (same_mandatory x) (any_agree xs)

      same_pairs : mandatory_pairs db k ≡ mandatory_pairs db p
      same_pairs =
          filters_agree _ _ (pairs_below (length (symbol_names db)))
          (λ (q : Pair). ap₂ (λ a b. a && b)
          (ap₂ (λ a b. nat_lt q.low q.high && a && b) (same_mandatory q.low)
          (same_mandatory q.high))
          (ap (λ js. not (nat_eq q.low q.high)
          && list_any (λ j. is_member (formula_at db j) q.low && is_member (formula_at db j) q.high)
          js) same_disjoints))

      -- so is the frame
      pub same_frame : mandatory_at db k ≡ mandatory_at db p
      same_frame = ap₂ mandatory same_hypotheses same_pairs

  -- ---- the frame of an earlier assertion

  -- it is the one among those from `from` on
  pub frame_at_previous : (from k p : ℕ) → from ≤ p → p < k
      → list_any is_assertion (statement_at db p) ≡ true
      → get_or (frames_between db from k) (p - from) None ≡ Some (mandatory_at db p)
  frame_at_previous from k p from_le_p p_lt_k is_one =
      get_or-map-range_with_len (frame_or_none db) from (k - from) (p - from) p None
      (omega (arith, from_le_p, p_lt_k)) (omega (arith, from_le_p))
      ∙ ap (λ b. if b then Some (mandatory_at db p) else None) is_one

-- ---- what is kept from one assertion to the next

-- what is fresh stays fresh
pub fresh_later : (n k : ℕ) (stamps : List ℕ) → IsFresh n k stamps → IsFresh n (k + 1) stamps
fresh_later n k stamps fresh = grind (arith, common_steps)

module _ {A : Type 0} (db : List Statement) (from k : ℕ) (s : Scratch A) where
  module _ (same_scope : IsSameScope db s.previous k) (known : IsPreviousKnown db s) where
    -- the `$e` of an assertion are those of the one before it in the same scope
    pub essential_lists_stay : s.previous < k → AreEssentialLists db k s.essential_lists
    essential_lists_stay previous_lt_k =
        let lists = known.essential_lists in record {
          are_stamps = lists.are_stamps;
          stamp_le = let stamp_le = lists.stamp_le in omega (arith, stamp_le, previous_lt_k);
          essentials_are = λ i. lists.essentials_are i
              ∙ ap (λ es. is_member es i) (sym (same_essentials db s.previous k same_scope));
          variables_are = lists.variables_are;
        }

    -- with the same further variables it has the same frame
    pub taken_over : (fs : List ℕ) → fs ≡ s.previous_further.items
        → ((x : ℕ) → is_member fs x ≡ is_further db k s.essential_lists.variables.items x)
        → mandatory_at db k ≡ mandatory_at db s.previous
    taken_over fs fs_are fs_are_further =
        same_frame db s.previous k same_scope s.essential_lists.variables.items
        (λ x. known.essential_lists.variables_are x
        ∙ ap (λ z. is_variable_number db x && z)
        (same_members_same_any (λ j. is_member (formula_at db j) x)
        s.essential_lists.essentials.items
        (active_of is_essential db s.previous) known.essential_lists.essentials_are))
        (λ x. sym (fs_are_further x) ∙ ap (λ xs. is_member xs x) fs_are ∙ known.further_are x)

  -- the assertion before has a frame
  pub previous_has_frame : IsReady db from k s → (fs : List (Option Mandatory))
      → fs ≡ frames_between db from k → s.previous ≢ never
      → get_or fs (index_from from s.previous) None ≡ Some (mandatory_at db s.previous)
  previous_has_frame ready fs fs_are is_some =
      let previous = ready.previous_is_assertion is_some in
      ap₂ (λ (gs : List (Option Mandatory)) (c : Bool).
      get_or gs (if c then never else s.previous - from) None) fs_are
      (ne_eqb s.previous never is_some)
      ∙ frame_at_previous db from k s.previous previous.0 previous.1 previous.2

  -- after an assertion
  pub ready_after_assertion : (t : Scratch A) → t.previous ≡ k → from ≤ k
      → list_any is_assertion (statement_at db k) ≡ true → AreEssentialLists db k t.essential_lists
      → IsFresh (length (symbol_names db)) (k + 1) t.lists.stamps.items
      → ((x : ℕ)
      → is_member t.previous_further.items x ≡ is_further db k t.essential_lists.variables.items x)
      → IsReady db from (k + 1) t
  ready_after_assertion t previous_is from_le_k is_one lists frame_stamps_are_fresh
      further_are =
      record {
        essential_stamps_are_fresh = record {
          count = lists.are_stamps.count;
          stamps_le_stamp = λ x x_lt_n. let le_stamp = lists.are_stamps.stamps_le_stamp x x_lt_n in
              let stamp_le = lists.stamp_le in omega (arith, le_stamp, stamp_le);
        };
        frame_stamps_are_fresh = frame_stamps_are_fresh;
        previous_is_assertion = λ is_some. (
          omega (arith, previous_is, from_le_k),
          omega (arith, previous_is),
          ap (λ j. list_any is_assertion (statement_at db j)) previous_is ∙ is_one,
        );
        previous_is_known = λ is_some. record {
          essential_lists =
              subst (λ p. AreEssentialLists db p t.essential_lists) (sym previous_is) lists;
          further_are = λ x. further_are x
              ∙ ap (λ p. is_further db p t.essential_lists.variables.items x) (sym previous_is);
        };
      }
