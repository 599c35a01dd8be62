-- Frames by the indices where they are kept.
use Rattle.std.proofs.lemmas.Grind.{common_steps}
use Rattle.std.proofs.Common.{◌≡◌, ℕ, zero, suc, ◌<◌, ◌≤◌, ◌+◌, ◌-◌, ◌^◌, ◌⊎◌, inl, inr, List, []}
use Rattle.std.proofs.Common.{◌∷◌, ◌++◌, length, map, take, get_or, slice_index, Option, Some, None}
use Rattle.std.proofs.Common.{refl, sym, ap, ap₂, ◌∙◌, arith, true, true≢false, IsSome, is_some}
use Rattle.std.proofs.Common.{slice_get}
use Rattle.std.proofs.lemmas.Bool.{cases_lt, eq-eqb, ne_eqb}
use Rattle.std.proofs.lemmas.List.{map_push, length_push, length-map, get_or_push, map-append}
use Rattle.std.proofs.lemmas.List.{get_or_append_left, get_or-map, get_or_past, length-append}
use Rattle.std.proofs.lemmas.List.{get_or_default}
use Rattle.std.proofs.lemmas.List.{get_or-append_right, append_assoc, take_more, take_all}
use Rattle.std.proofs.lemmas.List.FromFn.{get_or-map-range_with_len}
use Rattle.std.proofs.lemmas.Option.{slice_get-get_or, slice_get_past}
use Rattle.std.specs.Option.{option_map}
use Rattle.std.specs.List.{list_any}
use Rattle.mm_spec.specs.Statement.{Statement}
use Rattle.mm_spec.specs.Scope.{statement_at}
use Rattle.mm_spec.specs.Citation.{is_assertion}
use Rattle.mm_outline.specs.Blocks.{never}
use Rattle.mm_outline.proofs.StatementsLaw.{passing_lt_length}
use Rattle.mm_database.specs.Frames.{Mandatory, mandatory_at, mandatory_in}
use Rattle.mm_database.specs.Frames.{frames_before, frames_at, AreFrameIndices, shifted_index}
use Rattle.mm_database.specs.declared.frames.Frame.{Frame}

-- the frame of an assertion among all frames
pub frame_of_assertion : (db : List Statement) (k : ℕ) → list_any is_assertion (statement_at db k)
    ≡ true
    → get_or (frames_before db (length db)) k None ≡ Some (mandatory_at db k)
frame_of_assertion db k k_is_assertion =
    grind (arith, common_steps, get_or-map-range_with_len, passing_lt_length)

-- what a list has at an index is there with others behind it
slice_get_before : {X : Type 0} (xs ys : List X) (p : ℕ) → p < length xs
    → slice_get (xs ++ ys) p ≡ slice_get xs p
slice_get_before [] ys p p_lt_length = absurd (omega arith)
slice_get_before (x ∷ xs) ys zero p_lt_length = refl
slice_get_before (x ∷ xs) ys (suc p) p_lt_length = slice_get_before xs ys p (omega arith)

-- what the second list has at an index is as much later in both
slice_get_after : {X : Type 0} (xs ys : List X) (k p : ℕ) → k ≡ p + length xs
    → slice_get (xs ++ ys) k ≡ slice_get ys p
slice_get_after [] ys k p k_is_later = ap (slice_get ys) (k_is_later ∙ omega arith)
slice_get_after (x ∷ xs) ys zero p k_is_later = absurd (omega arith)
slice_get_after (x ∷ xs) ys (suc k) p k_is_later = slice_get_after xs ys k p (omega arith)

-- ---- two lists of frames, one behind the other

module _ {A : Type 0} (fs gs : List (Frame A)) where
  -- an index of the first list has the same frame in both
  frame_at_before : (p : ℕ) → length fs + length gs ≤ never → (p < length fs) ⊎ (p ≡ never)
      → option_map mandatory_in (slice_get (fs ++ gs) p) ≡ option_map mandatory_in (slice_get fs p)
  frame_at_before p frames_le_never known =
      grind (arith, common_steps, slice_get_before, slice_get_past, length-append)

  -- the indices of the first list have the same frames in both
  frames_at_before : (ps : List ℕ) → length fs + length gs ≤ never
      → ((i : ℕ) → i < length ps → (slice_index ps i < length fs) ⊎ (slice_index ps i ≡ never))
      → frames_at (fs ++ gs) ps ≡ frames_at fs ps
  frames_at_before [] frames_le_never index_known_or_never = refl
  frames_at_before (p ∷ ps) frames_le_never index_known_or_never =
      ap₂ (λ o l. o ∷ l)
      (frame_at_before p frames_le_never (index_known_or_never 0 (omega arith)))
      (frames_at_before ps frames_le_never
      (λ i i_lt_length. index_known_or_never (suc i) (omega (arith, i_lt_length))))

  -- an index of the second list, once it is shifted, has the same frame in both
  frame_at_after : (q : ℕ) → length fs + length gs ≤ never → (q < length gs) ⊎ (q ≡ never)
      → option_map mandatory_in (slice_get (fs ++ gs) (shifted_index (length fs) q))
      ≡ option_map mandatory_in (slice_get gs q)
  frame_at_after q frames_le_never known =
      grind (arith, common_steps, slice_get_after, slice_get_past, length-append, eq-eqb, ne_eqb)

  -- the indices of the second list, once they are shifted, have the same frames in both
  frames_at_after : (qs : List ℕ) → length fs + length gs ≤ never
      → ((i : ℕ) → i < length qs → (slice_index qs i < length gs) ⊎ (slice_index qs i ≡ never))
      → frames_at (fs ++ gs) (map (shifted_index (length fs)) qs) ≡ frames_at gs qs
  frames_at_after [] frames_le_never index_known_or_never = refl
  frames_at_after (q ∷ qs) frames_le_never index_known_or_never =
      ap₂ (λ o l. o ∷ l)
      (frame_at_after q frames_le_never (index_known_or_never 0 (omega arith)))
      (frames_at_after qs frames_le_never
      (λ i i_lt_length. index_known_or_never (suc i) (omega (arith, i_lt_length))))

  -- the frames of two lists by the indices of both
  pub frames_at_joined : (ps qs : List ℕ) → length fs + length gs ≤ never
      → AreFrameIndices (length fs) ps → AreFrameIndices (length gs) qs
      → frames_at (fs ++ gs) (ps ++ map (shifted_index (length fs)) qs)
      ≡ frames_at fs ps ++ frames_at gs qs
  frames_at_joined ps qs frames_le_never first second =
      map-append (λ p. option_map mandatory_in (slice_get (fs ++ gs) p)) ps
      (map (shifted_index (length fs)) qs)
      ∙ ap₂ (λ l r. l ++ r) (frames_at_before ps frames_le_never first.index_known_or_never)
      (frames_at_after qs frames_le_never second.index_known_or_never)

-- ---- one list of frames

module _ {A : Type 0} (fs : List (Frame A)) where
  -- the frames of the statements with the frame of one assertion more
  pub frames_at_push_frame : (f : Frame A) (ps : List ℕ) → AreFrameIndices (length fs) ps
      → length fs < never
      → frames_at (fs ++ f ∷ []) (ps ++ length fs ∷ [])
      ≡ frames_at fs ps ++ Some (mandatory_in f) ∷ []
  frames_at_push_frame f ps are_indices frames_lt_never =
      map_push (λ p. option_map mandatory_in (slice_get (fs ++ f ∷ []) p)) ps (length fs)
      ∙ ap₂ (λ l o. l ++ o ∷ [])
      (frames_at_before fs (f ∷ []) ps (omega arith) are_indices.index_known_or_never)
      (ap (option_map mandatory_in) (slice_get_after fs (f ∷ []) (length fs) 0 (omega arith)))

  -- each statement has an index
  pub as_many_indices : (ps : List ℕ) → length (frames_at fs ps) ≡ length ps
  as_many_indices ps = length-map ps (λ p. option_map mandatory_in (slice_get fs p))

  -- a statement without a frame more
  pub frames_at_push_none : (ps : List ℕ) → length fs ≤ never
      → frames_at fs (ps ++ never ∷ []) ≡ frames_at fs ps ++ None ∷ []
  frames_at_push_none ps frames_le_never =
      map_push (λ p. option_map mandatory_in (slice_get fs p)) ps never
      ∙ ap (λ o. frames_at fs ps ++ option_map mandatory_in o ∷ [])
      (slice_get_past fs never frames_le_never)

  -- where a frame is, there is its index
  pub frame_index_lt_length : (ps : List ℕ) (k : ℕ) → IsSome (get_or (frames_at fs ps) k None)
      → k < length ps
  frame_index_lt_length ps k k_has_frame = elim (cases_lt k (length ps)) [
    | inl k_lt ↦ k_lt
    | inr length_le ↦ absurd (true≢false (sym k_has_frame ∙ ap is_some
        (get_or_past (frames_at fs ps) k None (rw as_many_indices length_le))))
  ]

  -- the indices with that of an earlier frame more
  pub indices_with_shared : (ps : List ℕ) (k p : ℕ) → AreFrameIndices (length fs) ps
      → IsSome (get_or (frames_at fs ps) k None) → p ≡ get_or ps k p
      → AreFrameIndices (length fs) (ps ++ p ∷ [])
  indices_with_shared ps k p are_indices k_has_frame p_is_index =
      let k_lt = frame_index_lt_length ps k k_has_frame in
      let known = are_indices.index_known_or_never in
      record {
        count_le_length = omega (arith, are_indices.count_le_length, length_push ps p);
        count_le_never = are_indices.count_le_never;
        index_known_or_never = λ i i_lt_length. elim (cases_lt i (length ps)) [
          | inl i_lt ↦ rw (get_or_append_left ps (p ∷ []) 0 i i_lt) (known i i_lt)
          | inr length_le ↦ rw (
            get_or_push ps p 0 i (omega (arith, length_push ps p)),
            p_is_index,
            get_or_default ps k p 0 k_lt,
          ) (known k k_lt)
        ];
      }

  -- if statement k has a frame, its index is that of one of the frames
  pub frame_at_index : (ps : List ℕ) (k p : ℕ) → IsSome (get_or (frames_at fs ps) k None)
      → p ≡ slice_index ps k → (p < length fs) × ((d : Frame A)
      → get_or (frames_at fs ps) k None ≡ Some (mandatory_in (get_or fs p d)))
  frame_at_index ps k p k_has_frame p_is_index =
      let frame_is : get_or (frames_at fs ps) k None ≡ option_map mandatory_in (slice_get fs p) =
      rw p_is_index (get_or-map (λ q. option_map mandatory_in (slice_get fs q)) ps k 0 None
      (frame_index_lt_length ps k k_has_frame)) in
      elim (cases_lt p (length fs)) [
        | inl p_lt ↦ (
          p_lt,
          λ d. frame_is
              ∙ ap (option_map mandatory_in) (slice_get-get_or fs p d p_lt),
        )
        | inr length_le ↦ absurd (true≢false (sym k_has_frame ∙ ap is_some (frame_is
            ∙ ap (option_map mandatory_in) (slice_get_past fs p length_le))))
      ]

  -- two statements with one index have one frame
  pub frame_of_same_index : (ps : List ℕ) (i j p q : ℕ)
      → IsSome (get_or (frames_at fs ps) i None) → IsSome (get_or (frames_at fs ps) j None)
      → p ≡ get_or ps i p → q ≡ get_or ps j q → p ≡ q
      → get_or (frames_at fs ps) i None ≡ get_or (frames_at fs ps) j None
  frame_of_same_index ps i j p q i_has_frame j_has_frame p_is_index q_is_index same =
      let i_lt = frame_index_lt_length ps i i_has_frame in
      let j_lt = frame_index_lt_length ps j j_has_frame in
      let frame_by = λ (r : ℕ). option_map mandatory_in (slice_get fs r) in
      get_or-map frame_by ps i p None i_lt ∙ ap frame_by (sym p_is_index ∙ same ∙ q_is_index)
      ∙ sym (get_or-map frame_by ps j q None j_lt)

-- a shifted index is that of one of the frames of both lists, or `never`
shifted_index_known : (m n q : ℕ) → (q < n) ⊎ (q ≡ never)
    → (shifted_index m q < m + n) ⊎ (shifted_index m q ≡ never)
shifted_index_known m n q known = grind (arith, common_steps, true≢false, eq-eqb)

-- the indices of both lists are indices of the joined list
pub joined_indices : (m n : ℕ) (ps qs : List ℕ) → m + n ≤ never → AreFrameIndices m ps
    → AreFrameIndices n qs → AreFrameIndices (m + n) (ps ++ map (shifted_index m) qs)
joined_indices m n ps qs count_le_never first second =
    let shifted = map (shifted_index m) qs in
    record {
      count_le_length = omega (
        arith,
        length-append ps shifted,
        length-map qs (shifted_index m),
        first.count_le_length,
        second.count_le_length,
      );
      count_le_never = count_le_never;
      index_known_or_never = λ i i_lt_length. elim (cases_lt i (length ps)) [
        | inl i_lt ↦ rw (get_or_append_left ps shifted 0 i i_lt) (elim (first.index_known_or_never i
            i_lt) [ inl index_lt ↦ inl (omega arith) | inr is_never ↦ inr is_never ])
        | inr length_le ↦
            (let later_lt : i - length ps < length qs =
            omega (arith, length-append ps shifted, length-map qs (shifted_index m)) in
            rw (
              get_or-append_right ps shifted (length ps) i 0 refl length_le,
              get_or-map (shifted_index m) qs (i - length ps) 0 0 later_lt,
            )
            (shifted_index_known m n _ (second.index_known_or_never (i - length ps) later_lt)))
      ];
    }

-- the next index of the second list is shifted and put behind the others
pub shifted_with_next_index : (m : ℕ) (ps qs old new : List ℕ) (i q s : ℕ) → i < length qs
    → q ≡ get_or qs i 0 → old ≡ ps ++ map (shifted_index m) (take i qs) → s ≡ shifted_index m q
    → new ≡ old ++ s ∷ [] → new ≡ ps ++ map (shifted_index m) (take (i + 1) qs)
shifted_with_next_index m ps qs old new i q s i_lt_length q_is_element old_is s_is new_is =
    grind (arith, common_steps, append_assoc, take_more, map_push)

-- after the last index all of the second list are shifted and behind the others
pub all_are_shifted : (m s : ℕ) (ps qs elements indices : List ℕ) (i : ℕ)
    → indices ≡ ps ++ map (shifted_index s) (take i elements) → length elements ≤ i
    → elements ≡ qs → s ≡ m → indices ≡ ps ++ map (shifted_index m) qs
all_are_shifted m s ps qs elements indices i indices_are_shifted length_le_i elements_are s_is_m =
    grind (arith, common_steps, take_all)

-- two lists with the frames of few statements have few frames
pub few_frames_of_few_statements : {A : Type 0} (fs gs : List (Frame A)) (ps qs : List ℕ)
    (first second : List (Option Mandatory)) → frames_at fs ps ≡ first → frames_at gs qs ≡ second
    → AreFrameIndices (length fs) ps → AreFrameIndices (length gs) qs
    → length first + length second < 2 ^ 31 → length fs + length gs ≤ never
few_frames_of_few_statements fs gs ps qs first second first_are second_are first_indices
    second_indices few_statements =
    grind (arith, common_steps)
