-- The ends of blocks say where statements are active.
use Rattle.std.proofs.Common.{◌≡◌, ◌≢◌, ℕ, suc, ◌+◌, ◌-◌, ◌≤◌, ◌<◌, true, false, ◌&&◌, cond, List}
use Rattle.std.proofs.Common.{[], ◌∷◌, ◌++◌, length, take, get_or, set, count_by, nat_le, ◌⊎◌, inl}
use Rattle.std.proofs.Common.{inr, refl, sym, ap, ◌∙◌, subst, arith, take_all, le_refl}
use Rattle.std.proofs.Common.{length-append, add-one}
use Rattle.std.proofs.lemmas.Bool.Decides.{nat_tests}
use Rattle.std.proofs.lemmas.Bool.{cases_lt, cases_eq}
use Rattle.std.proofs.lemmas.List.{get_or_append_left, get_or-set_same, get_or-set_other}
use Rattle.std.proofs.lemmas.List.{length-set, get_or-take, length-take-le}
use Rattle.std.proofs.Math.Seq.{get_or-append_seam}
use Rattle.mm_spec.specs.Statement.{Statement, is_opening, is_closing}
use Rattle.mm_spec.specs.Scope.{depth, is_block_open}
use Rattle.mm_spec.proofs.ActivityLaw.{is_block_open_one_later}
use Rattle.mm_spec.proofs.LocalLaw.{depth_front, is_block_open_front}
use Rattle.mm_spec.proofs.ShapeLaw.{count_of_list_and_last}
use Rattle.mm_outline.specs.Blocks.{BlockLists, block_lists, never, innermost, end_of, IsBlocks}

-- ---- what stays the same after one statement more

module _ (db : List Statement) (s : Statement) where
  abbrev more : List Statement
  more = db ++ s ∷ []

  length_more : length more ≡ length db + 1
  length_more = length-append db (s ∷ [])

  pub depth_at_end : depth db (length db) ≡ count_by is_opening db - count_by is_closing db
  depth_at_end = rw (take_all (length db) db (le_refl (length db))) refl

  pub depth_after_one_more : depth more (length db + 1)
      ≡ (count_by is_opening db + cond (is_opening s) 1 0) -
      (count_by is_closing db + cond (is_closing s) 1 0)
  depth_after_one_more =
      rw (← length_more, take_all (length more) more (le_refl (length more)))
      (rw (count_of_list_and_last is_opening db s, count_of_list_and_last is_closing db s) refl)

  -- the block of statement j is open after the new statement exactly if it is open before it, and
  -- the depth after it is no less than that at j
  pub open_after_one_more : (j : ℕ) → j < length db
      → is_block_open more j (length db + 1)
      ≡ (is_block_open db j (length db) && nat_le (depth db j) (depth more (length db + 1)))
  open_after_one_more j j_lt_length =
      rw (
        add-one (length db),
        is_block_open_one_later more j (length db) (omega arith),
        is_block_open_front db (s ∷ []) j (length db) j_lt_length (le_refl (length db)),
        depth_front db (s ∷ []) j (omega arith),
      ) refl

  pub new_block_is_open : is_block_open more (length db) (length db + 1)
      ≡ nat_le (depth db (length db)) (depth more (length db + 1))
  new_block_is_open =
      let suc_is : suc (length db) ≡ length db + 1 = omega arith in
      let no_difference : length db - length db ≡ 0 = omega arith in
      (rw (suc_is, no_difference) at
      (is_block_open_one_later more (length db) (length db) (le_refl (length db))))
      ∙ ap (λ d. nat_le d (depth more (length db + 1)))
      (depth_front db (s ∷ []) (length db) (le_refl (length db)))

module _ (db : List Statement) (s : Statement) (b : BlockLists) (is_blocks : IsBlocks db b)
    (length_lt_never : length db < never) where
  abbrev of_more : List ℕ
  of_more = b.block_of ++ innermost b.open_blocks ∷ []

  old_block_of_is_kept : (j : ℕ) → j < length db → get_or of_more j 0 ≡ get_or b.block_of j 0
  old_block_of_is_kept j j_lt_length =
      get_or_append_left b.block_of (innermost b.open_blocks ∷ []) 0 j
      (let counts_equal = is_blocks.count in omega (arith, counts_equal, j_lt_length))

  new_block_of_is_innermost : get_or of_more (length db) 0 ≡ innermost b.open_blocks
  new_block_of_is_innermost =
      subst (λ n. get_or of_more n 0 ≡ innermost b.open_blocks) is_blocks.count
      (get_or-append_seam b.block_of (innermost b.open_blocks) [] 0)

  -- where a statement is: an old one or the new one
  holds_of_old_and_new : {P : ℕ → Type 0} (j : ℕ) → j < length (more db s)
      → ((i : ℕ) → i < length db → P i)
      → P (length db) → P j
  holds_of_old_and_new {P = P} j j_lt_longer holds_before holds_of_new =
      elim (cases_lt j (length db)) [
        | inl j_lt_old_length ↦ holds_before j j_lt_old_length
        | inr old_length_le_j ↦
            let length_is_j : length db ≡ j = omega (arith, length_more db s) in
            subst P length_is_j holds_of_new
      ]

  innermost_has_end : innermost b.open_blocks < length b.ends
  innermost_has_end =
      let stack_size_is = is_blocks.stack_size_is in
      is_blocks.open_blocks_have_ends (length b.open_blocks - 1) (omega (arith, stack_size_is))

  innermost_is_unended : get_or b.ends (innermost b.open_blocks) 0 ≡ never
  innermost_is_unended =
      let stack_size_is = is_blocks.stack_size_is in
      is_blocks.open_blocks_are_unended (length b.open_blocks - 1) (omega (arith, stack_size_is))

  innermost_is_at_depth : innermost b.open_blocks ≡ get_or b.open_blocks (depth db (length db)) 0
  innermost_is_at_depth =
      let stack_size_is = is_blocks.stack_size_is in
      let top_is : length b.open_blocks - 1 ≡ depth db (length db) = omega (arith, stack_size_is) in
      ap (λ n. get_or b.open_blocks n 0) top_is

  -- what becomes of a statement's block
  module _ (ends opens : List ℕ) where
    abbrev IsOpen : ℕ → ℕ → Type 0
    IsOpen block level =
        (get_or ends block 0 ≡ never) × (level ≤ depth (more db s) (length db + 1))
        × (get_or opens level 0 ≡ block)

    abbrev IsClosed : ℕ → ℕ → Type 0
    IsClosed block level =
        (get_or ends block 0 ≡ length db) × (depth (more db s) (length db + 1) < level)

    abbrev Becomes : ℕ → Type 0
    Becomes j =
        ((end_of b j ≡ never)
        × (IsOpen (get_or b.block_of j 0) (depth db j)
        ⊎ IsClosed (get_or b.block_of j 0) (depth db j)))
        ⊎ ((end_of b j < length db) × (get_or ends (get_or b.block_of j 0) 0 ≡ end_of b j))

    record Grows : Type 0 where
      closings_le_openings : count_by is_closing (more db s) ≤ count_by is_opening (more db s)
      stack_size_is : length opens ≡ depth (more db s) (length db + 1) + 1
      ends_only_grow : length b.ends ≤ length ends
      ends_le_next : length ends ≤ length db + 2
      open_blocks_have_ends : (l : ℕ) → l < length opens → get_or opens l 0 < length ends
      open_blocks_are_unended : (l : ℕ) → l < length opens
          → get_or ends (get_or opens l 0) 0 ≡ never
      open_blocks_rise : (l m : ℕ) → l < m → m < length opens → get_or opens l 0 < get_or opens m 0
      old_blocks_become : (j : ℕ) → j < length db → Becomes j
      new_block_becomes : IsOpen (innermost b.open_blocks) (depth db (length db))
          ⊎ IsClosed (innermost b.open_blocks) (depth db (length db))

    grows_keeps_blocks : Grows → IsBlocks (more db s) (block_lists of_more ends opens)
    grows_keeps_blocks grows = record {
      count =
          let counts_equal = is_blocks.count in
          let length_is = length_more db s in
          let block_count = length-append b.block_of (innermost b.open_blocks ∷ []) in
          omega (arith, counts_equal);
      ends_le_statements =
          let grown_bound = grows.ends_le_next in omega (arith, grown_bound, length_more db s);
      closings_le_openings = grows.closings_le_openings;
      stack_size_is = rw (length_more db s) grows.stack_size_is;
      blocks_have_ends =
          λ j j_lt_longer. holds_of_old_and_new {P = λ j. get_or of_more j 0 < length ends} j
          j_lt_longer
          (λ j j_lt_length. rw (old_block_of_is_kept j j_lt_length)
          (let has_end = is_blocks.blocks_have_ends j j_lt_length in
          let grown_bound = grows.ends_only_grow in omega (arith, has_end, grown_bound)))
          (rw new_block_of_is_innermost (let has_end = innermost_has_end in
          let grown_bound = grows.ends_only_grow in
          omega (arith, has_end, grown_bound)));
      open_blocks_have_ends = grows.open_blocks_have_ends;
      open_blocks_are_unended = grows.open_blocks_are_unended;
      open_blocks_rise = grows.open_blocks_rise;
      unended_is_on_stack =
          λ j j_lt_longer is_unended. holds_of_old_and_new
          {P = λ j. get_or ends (get_or of_more j 0) 0 ≡ never
          → (depth (more db s) j ≤ depth (more db s) (length (more db s)))
          × (get_or opens (depth (more db s) j) 0 ≡ get_or of_more j 0)} j j_lt_longer
          old_is_on_stack
          new_is_on_stack is_unended;
      open_up_to_end = open_up_to_its_end;
      ends_are_bounded =
          λ j j_lt_longer. holds_of_old_and_new
          {P = λ j. (get_or ends (get_or of_more j 0) 0 ≡ never)
          ⊎ (get_or ends (get_or of_more j 0) 0 < length (more db s))} j j_lt_longer
          old_end_is_bounded
          (grind (arith, length_more db s, new_block_of_is_innermost, grows.new_block_becomes));
    }
      where
        length_is : length (more db s) ≡ length db + 1
        length_is = length_more db s

        new_is_on_stack : get_or ends (get_or of_more (length db) 0) 0 ≡ never
            → (depth (more db s) (length db) ≤ depth (more db s) (length (more db s)))
            × (get_or opens (depth (more db s) (length db)) 0 ≡ get_or of_more (length db) 0)
        new_is_on_stack is_unended =
            let depth_is = depth_front db (s ∷ []) (length db) (le_refl (length db)) in
            grind (arith, length_is, new_block_of_is_innermost, grows.new_block_becomes)

        old_is_on_stack : (j : ℕ) → j < length db → get_or ends (get_or of_more j 0) 0 ≡ never
            → (depth (more db s) j ≤ depth (more db s) (length (more db s)))
            × (get_or opens (depth (more db s) j) 0 ≡ get_or of_more j 0)
        old_is_on_stack j j_lt_length is_unended =
            let kept = old_block_of_is_kept j j_lt_length in
            let unended = rw kept at is_unended in
            rw (length_is, depth_front db (s ∷ []) j (omega arith), kept)
            (elim (grows.old_blocks_become j j_lt_length) [
              | inl (was_unended, inl is_open) ↦ (is_open.1, is_open.2)
              | inl (was_unended, inr is_closed) ↦ absurd (omega arith)
              | inr ended ↦ absurd (omega arith)
            ])

        old_end_is_bounded : (j : ℕ) → j < length db
            → (get_or ends (get_or of_more j 0) 0 ≡ never)
            ⊎ (get_or ends (get_or of_more j 0) 0 < length (more db s))
        old_end_is_bounded j j_lt_length =
            let kept = old_block_of_is_kept j j_lt_length in
            grind (arith, length_is, grows.old_blocks_become j j_lt_length)

        open_at_last : (j : ℕ) → j < length (more db s)
            → is_block_open (more db s) j (length db + 1)
            ≡ nat_le (length db + 1) (get_or ends (get_or of_more j 0) 0)
        open_at_last j j_lt_longer =
            holds_of_old_and_new {P = λ j. is_block_open (more db s) j (length db + 1)
            ≡ nat_le (length db + 1) (get_or ends (get_or of_more j 0) 0)} j j_lt_longer
            (λ j j_lt_length.
            let open_before = is_blocks.open_up_to_end j (length db) j_lt_length (le_refl _) in
            let open_after = open_after_one_more db s j j_lt_length in
            let kept = old_block_of_is_kept j j_lt_length in
            grind (arith, nat_tests, grows.old_blocks_become j j_lt_length))
            (let open_after = new_block_is_open db s in
            grind (arith, nat_tests, new_block_of_is_innermost, grows.new_block_becomes))

        open_up_to_its_end : (j k : ℕ) → j < k → k ≤ length (more db s)
            → is_block_open (more db s) j k ≡ nat_le k (get_or ends (get_or of_more j 0) 0)
        open_up_to_its_end j k j_lt_k k_le_length = elim (cases_lt (length db) k) [
          | inl old_length_lt_k ↦
              let k_is_end : length db + 1 ≡ k = omega (arith, length_is) in
              subst (λ k. is_block_open (more db s) j k
              ≡ nat_le k (get_or ends (get_or of_more j 0) 0)) k_is_end
              (open_at_last j (omega arith))
          | inr k_le_length_before ↦
              let j_lt_length : j < length db = omega arith in
              let open_in_front = is_block_open_front db (s ∷ []) j k j_lt_k k_le_length_before in
              let open_before = is_blocks.open_up_to_end j k j_lt_k k_le_length_before in
              let kept = old_block_of_is_kept j j_lt_length in
              grind (arith, nat_tests, grows.old_blocks_become j j_lt_length)
        ]

  -- the count of blocks after the statement
  pub depth_after_other : is_opening s ≡ false → is_closing s ≡ false
      → depth (more db s) (length db + 1) ≡ depth db (length db)
  depth_after_other is_no_opening is_no_closing =
      grind (arith, depth_after_one_more db s, depth_at_end db s)

  pub depth_after_opening : is_opening s ≡ true → is_closing s ≡ false
      → depth (more db s) (length db + 1) ≡ depth db (length db) + 1
  depth_after_opening is_opening_s is_no_closing =
      grind (arith, depth_after_one_more db s, depth_at_end db s, is_blocks.closings_le_openings)

  pub depth_after_closing : is_opening s ≡ false → is_closing s ≡ true
      → depth (more db s) (length db + 1) ≡ depth db (length db) - 1
  depth_after_closing is_no_opening is_closing_s =
      grind (arith, depth_after_one_more db s, depth_at_end db s, is_blocks.closings_le_openings)

  closings_stay_below : (is_closing s ≡ true → 0 < depth db (length db))
      → count_by is_closing (more db s) ≤ count_by is_opening (more db s)
  closings_stay_below some_block_is_open =
      let openings = count_of_list_and_last is_opening db s in
      let closings = count_of_list_and_last is_closing db s in
      grind (arith, depth_at_end db s, is_blocks.closings_le_openings)

  pub blocks_after_other : is_opening s ≡ false → is_closing s ≡ false
      → IsBlocks (db ++ s ∷ []) (block_lists
      (b.block_of ++ innermost b.open_blocks ∷ []) b.ends b.open_blocks)
  blocks_after_other is_no_opening is_no_closing =
      let depth_is = depth_after_other is_no_opening is_no_closing in
      grows_keeps_blocks b.ends b.open_blocks (record {
        closings_le_openings = closings_stay_below (λ is_closing_s. absurd (cc));
        stack_size_is = is_blocks.stack_size_is ∙ ap (λ n. n + 1) (sym depth_is);
        ends_only_grow = le_refl (length b.ends);
        ends_le_next = let ends_le_old = is_blocks.ends_le_statements in omega arith;
        open_blocks_have_ends = is_blocks.open_blocks_have_ends;
        open_blocks_are_unended = is_blocks.open_blocks_are_unended;
        open_blocks_rise = is_blocks.open_blocks_rise;
        old_blocks_become = λ j j_lt_length. elim (is_blocks.ends_are_bounded j j_lt_length) [
          | inl is_unended ↦
              let on_stack = is_blocks.unended_is_on_stack j j_lt_length is_unended in
              let below = on_stack.0 in
              inl (is_unended, inl (is_unended, omega arith, on_stack.1))
          | inr has_ended ↦ inr (has_ended, refl)
        ];
        new_block_becomes = inl (innermost_is_unended, omega arith, sym innermost_is_at_depth);
      })

  pub blocks_after_opening : is_opening s ≡ true → is_closing s ≡ false
      → IsBlocks (db ++ s ∷ [])
      (block_lists (b.block_of ++ innermost b.open_blocks ∷ []) (b.ends ++ never ∷ [])
      (b.open_blocks ++ length b.ends ∷ []))
  blocks_after_opening is_opening_s is_no_closing =
      let depth_is = depth_after_opening is_opening_s is_no_closing in
      let ends : List ℕ = b.ends ++ never ∷ [] in
      let opens : List ℕ = b.open_blocks ++ length b.ends ∷ [] in
      let end_count : length ends ≡ length b.ends + 1 = length-append b.ends (never ∷ []) in
      let open_count : length opens ≡ length b.open_blocks + 1 =
      length-append b.open_blocks (length b.ends ∷ []) in
      let old_end = get_or_append_left b.ends (never ∷ []) 0 in
      let old_open = get_or_append_left b.open_blocks (length b.ends ∷ []) 0 in
      let new_end = get_or-append_seam b.ends never [] 0 in
      let new_open = get_or-append_seam b.open_blocks (length b.ends) [] 0 in
      let stack_size_is = is_blocks.stack_size_is in
      let have_ends = is_blocks.open_blocks_have_ends in
      let old_or_new = λ (l : ℕ). cases_lt l (length b.open_blocks) in
      grows_keeps_blocks ends opens (record {
        closings_le_openings = closings_stay_below (λ is_closing_s. absurd (cc));
        stack_size_is = omega arith;
        ends_only_grow = omega arith;
        ends_le_next = let ends_le_old = is_blocks.ends_le_statements in omega arith;
        open_blocks_have_ends =
            λ l l_lt_longer. grind (arith, old_or_new l, old_open l, new_open, have_ends l);
        open_blocks_are_unended = λ l l_lt_longer.
            let old_end_there = old_end (get_or b.open_blocks l 0) in
            let unended = is_blocks.open_blocks_are_unended l in
            grind (arith, old_or_new l, old_open l, new_open, have_ends l, new_end);
        open_blocks_rise = λ l m l_lt_m m_lt_length.
            let old_rise = is_blocks.open_blocks_rise l m in
            grind (arith, old_or_new m, old_open l, old_open m, new_open, have_ends l);
        old_blocks_become = λ j j_lt_length.
            let end_is = old_end _ (is_blocks.blocks_have_ends j j_lt_length) in
            elim (is_blocks.ends_are_bounded j j_lt_length) [
              | inl is_unended ↦
                  let on_stack = is_blocks.unended_is_on_stack j j_lt_length is_unended in
                  let below = on_stack.0 in
                  let open_is = old_open (depth db j) (omega arith) ∙ on_stack.1 in
                  inl (is_unended, inl (end_is ∙ is_unended, omega arith, open_is))
              | inr has_ended ↦ inr (has_ended, end_is)
            ];
        new_block_becomes =
            let end_is = old_end (innermost b.open_blocks) innermost_has_end in
            let open_is = old_open (depth db (length db)) (omega arith) in
            inl (end_is ∙ innermost_is_unended, omega arith, open_is ∙ sym innermost_is_at_depth);
      })

  pub blocks_after_closing : is_opening s ≡ false → is_closing s ≡ true → 0 < depth db (length db)
      → IsBlocks (db ++ s ∷ [])
      (block_lists (b.block_of ++ innermost b.open_blocks ∷ [])
      (set b.ends (innermost b.open_blocks) (length b.block_of))
      (take (length b.open_blocks - 1) b.open_blocks))
  blocks_after_closing is_no_opening is_closing_s some_block_is_open =
      let depth_is = depth_after_closing is_no_opening is_closing_s in
      let stack_size_is = is_blocks.stack_size_is in
      let last : ℕ = length b.open_blocks - 1 in
      let block = innermost b.open_blocks in
      let ends : List ℕ = set b.ends block (length b.block_of) in
      let opens : List ℕ = take last b.open_blocks in
      let end_count : length ends ≡ length b.ends = length-set b.ends block (length b.block_of) in
      let open_count : length opens ≡ last = length-take-le last b.open_blocks (omega arith) in
      let kept = get_or-take last b.open_blocks in
      let other_end = λ (k : ℕ). get_or-set_other b.ends block k (length b.block_of) 0 in
      let new_end =
      get_or-set_same b.ends block (length b.block_of) 0 innermost_has_end ∙ is_blocks.count in
      let rise = is_blocks.open_blocks_rise in
      let below_last = λ (l : ℕ) (lt : l < last). rise l last lt (omega arith) in
      grows_keeps_blocks ends opens (record {
        closings_le_openings = closings_stay_below (λ is_closing_s. some_block_is_open);
        stack_size_is = omega arith;
        ends_only_grow = omega arith;
        ends_le_next = let ends_le_old = is_blocks.ends_le_statements in omega arith;
        open_blocks_have_ends =
            λ l l_lt_shorter. grind (arith, kept l 0, is_blocks.open_blocks_have_ends l);
        open_blocks_are_unended = λ l l_lt_shorter.
            let unended = is_blocks.open_blocks_are_unended l in
            grind (arith, kept l 0, below_last l, other_end (get_or b.open_blocks l 0));
        open_blocks_rise =
            λ l m l_lt_m m_lt_shorter. grind (arith, kept l 0, kept m 0, rise l m);
        old_blocks_become = λ j j_lt_length. elim (is_blocks.ends_are_bounded j j_lt_length) [
          | inl is_unended ↦
              let on_stack = is_blocks.unended_is_on_stack j j_lt_length is_unended in
              let below = on_stack.0 in
              elim (cases_eq (get_or b.block_of j 0) block) [
                | inl is_innermost ↦
                    let end_is = ap (λ k. get_or ends k 0) is_innermost ∙ new_end in
                    let rise_to_last = below_last (depth db j) in
                    inl (is_unended, inr (end_is, grind (arith, on_stack.1)))
                | inr not_innermost ↦
                    let differs : depth db j ≢ depth db (length db) = λ same. not_innermost
                    (cc (on_stack.1, same, innermost_is_at_depth)) in
                    let open_is = kept (depth db j) 0 (omega arith) ∙ on_stack.1 in
                    let end_is = other_end (get_or b.block_of j 0) not_innermost ∙ is_unended in
                    inl (is_unended, inl (end_is, omega arith, open_is))
              ]
          | inr ended ↦
              let other : get_or b.block_of j 0 ≢ block = λ is_innermost.
              let unended = ap (λ k. get_or b.ends k 0) is_innermost ∙ innermost_is_unended in
              omega arith in
              inr (ended, other_end (get_or b.block_of j 0) other)
        ];
        new_block_becomes = inr (new_end, omega arith);
      })
