-- Statements that are found one behind the other, and what is found in a stretch of the tokens.
use Rattle.std.proofs.Common.{◌≡◌, ◌<◌, ◌≤◌, ℕ, ◌+◌, ◌-◌, zero, suc, List, [], ◌∷◌, ◌++◌, length}
use Rattle.std.proofs.Common.{arith, refl, subst, drop}
use Rattle.std.specs.List.{AllPairs}
use Rattle.std.proofs.lemmas.List.{length-take}
use Rattle.mm_spec.specs.declared.Word.{Word}
use Rattle.mm_outline.specs.Parts.{depth_after, one_less, start_of, nth_word}
use Rattle.mm_outline.specs.Tokens.{AreTokens}
use Rattle.mm_outline.specs.NextStatement.{IsNextStatement}
use Rattle.mm_outline.specs.declared.parts.Kind.{Kind}
use Rattle.mm_outline.specs.declared.parts.Kind.TheVariants.{Open, Close}
use Rattle.mm_outline.specs.declared.parts.Outline.{Outline}
use Rattle.mm_outline.specs.declared.parts.NextStatement.TheVariants.{Whole}
use Rattle.mm_scope.specs.Outlines.{AreOutlinesBetween, AreOutlinesFrom, IsRest}
use Rattle.mm_scope.specs.Stretches.{blocks_with, blocks_with_closing}
use Rattle.mm_scope.specs.declared.outlines.Rest.{Rest}
use Rattle.mm_scope.specs.declared.stretches.StretchBlocks.{StretchBlocks}
use Rattle.mm_scope.proofs.DepthLaw.{IsInItsBlock, found_at_other_depth}
use Rattle.mm_scope.proofs.ReadLaw.{depth_after_le}

one_less_of : (n m : ℕ) → n ≡ suc m → one_less n ≡ m
one_less_of n m is = rw is refl

-- If `count` blocks more than a stretch closes are open before it, `more` of them are left over by
-- it with its next statement.
record IsMore (b : StretchBlocks) (k : Kind) (more count : ℕ) : Type 0 where
  closed_is : b.closed + count ≡ (blocks_with b k).closed + more
  is_in_block : IsInItsBlock k (b.opened + count)
  depth_is : depth_after k (b.opened + count) ≡ (blocks_with b k).opened + more

closing_more : (closed opened more : ℕ)
    → (count : ℕ) × IsMore (record { closed = closed; opened = opened }) Close more count
closing_more closed zero more = (
  suc more,
  record {
    closed_is = omega arith;
    is_in_block = omega arith;
    depth_is = one_less_of (0 + suc more) (0 + more) (omega arith);
  },
)
closing_more closed (suc opened) more = (
  more,
  record {
    closed_is = refl;
    is_in_block = omega arith;
    depth_is = one_less_of (suc opened + more) (opened + more) (omega arith);
  },
)

more_before : (k : Kind) (b : StretchBlocks) (more : ℕ) → (count : ℕ) × IsMore b k more count
more_before Open b more =
    (more, record { closed_is = refl; is_in_block = tt; depth_is = omega arith })
more_before Close b more = closing_more b.closed b.opened more
more_before _ b more = (more, record { closed_is = refl; is_in_block = tt; depth_is = refl })

closing_le : (closed opened : ℕ)
    → let c = blocks_with_closing closed opened in c.closed + c.opened ≤ closed + opened + 1
closing_le closed zero = omega arith
closing_le closed (suc opened) = omega arith

-- a statement closes or opens at most one block
pub blocks_with_le : (b : StretchBlocks) (k : Kind)
    → let c = blocks_with b k in c.closed + c.opened ≤ b.closed + b.opened + 1
blocks_with_le b Open = omega arith
blocks_with_le b Close = closing_le b.closed b.opened
blocks_with_le b _ = omega arith

module _ (text : List ℕ) (ws : List Word) where
  -- statements up to a token, and those from there on
  pub found_behind : (d from : ℕ) (os : List Outline) (e to : ℕ)
      → AreOutlinesBetween text ws d from os e to → (later : List Outline) (f behind : ℕ)
      → AreOutlinesBetween text ws e to later f behind
      → AreOutlinesBetween text ws d from (os ++ later) f behind
  found_behind d from [] e to found later f behind later_found =
      rw (found.0, found.1) later_found
  found_behind d from (o ∷ os) e to found later f behind later_found = (
    found.0,
    found_behind (depth_after o.kind d) (o.end + 1) os e to found.1 later f behind
        later_found,
  )

  pub found_to_rest : (d from : ℕ) (os : List Outline) (e to : ℕ)
      → AreOutlinesBetween text ws d from os e to → (rest : Rest) → IsRest text ws e to rest
      → AreOutlinesFrom text ws d from os rest
  found_to_rest d from [] e to found rest is_rest = rw (found.0, found.1) is_rest
  found_to_rest d from (o ∷ os) e to found rest is_rest =
      (found.0, found_to_rest (depth_after o.kind d) (o.end + 1) os e to found.1 rest is_rest)

  -- one statement more
  pub found_next : (d from : ℕ) (os : List Outline) (e to : ℕ)
      → AreOutlinesBetween text ws d from os e to → (o : Outline)
      → IsNextStatement text ws e to (Whole o)
      → AreOutlinesBetween text ws d from (os ++ o ∷ []) (depth_after o.kind e) (o.end + 1)
  found_next d from os e to found o is_next =
      found_behind d from os e to found (o ∷ []) (depth_after o.kind e) (o.end + 1)
      (is_next, (refl, refl))

  -- no more blocks are open than there are tokens before
  pub depth_le_index : (d from : ℕ) (os : List Outline) (e to : ℕ)
      → AreOutlinesBetween text ws d from os e to → d ≤ from → e ≤ to
  depth_le_index d from [] e to found d_le_from = rw (← found.0, ← found.1) d_le_from
  depth_le_index d from (o ∷ os) e to found d_le_from =
      depth_le_index (depth_after o.kind d) (o.end + 1) os e to found.1
      (depth_after_le o.kind d from o.end d_le_from found.0.1.from_le_end)

  -- these statements are found in a stretch up to a token, and this they do to blocks
  pub record IsStretchTo (b : StretchBlocks) (from : ℕ) (os : List Outline) (to : ℕ) : Type 0 where
    pub blocks_le_to : b.closed + b.opened ≤ to
    pub to_le_count : to ≤ length ws
    pub are_found : (more : ℕ)
        → AreOutlinesBetween text ws (b.closed + more) from os (b.opened + more) to

  -- the tokens begin one behind the other
  module _ (are_tokens : AreTokens text ws) (tokens_rise : AllPairs (λ v w. v.end ≤ w.start) ws)
    where
      starts_rise : (i j : ℕ) → i < j → j < length ws → start_of text ws i < start_of text ws j
      starts_rise i j i_lt_j j_lt_length =
          let nothing : Word = record { start = 0; end = 0 } in
          let v = nth_word ws i in
          let is_token = are_tokens i nothing (omega arith) in
          let ends_before = tokens_rise i j nothing i_lt_j j_lt_length in
          let nonempty = is_token.2.0 in
          let length_is = length-take (v.end - v.start) (drop v.start text) in
          omega (arith, is_token.0, ends_before, nonempty, length_is)

      -- a statement more, found as if one block more were open than are opened in the stretch
      pub stretch_with_next : (b : StretchBlocks) (from : ℕ) (os : List Outline) (to : ℕ)
          → IsStretchTo b from os to
          → (o : Outline) → IsNextStatement text ws (b.opened + 1) to (Whole o)
          → IsStretchTo (blocks_with b o.kind) from (os ++ o ∷ []) (o.end + 1)
      stretch_with_next b from os to so_far o is_next = record {
        blocks_le_to =
            let le_to = so_far.blocks_le_to in
            let with_le = blocks_with_le b o.kind in
            let whole = is_next.1 in
            let from_le_end = whole.from_le_end in
            omega (arith, le_to, with_le, from_le_end);
        to_le_count =
            let whole = is_next.1 in
            let end_lt_count = whole.end_lt_count in
            omega (arith, end_lt_count);
        are_found = λ more.
            let before = more_before o.kind b more in
            let count = before.0 in
            let is_next_there =
            found_at_other_depth text ws starts_rise (b.opened + 1) to o is_next (b.opened + count)
            before.1.is_in_block in
            let c = blocks_with b o.kind in
            subst (λ d. AreOutlinesBetween text ws d from (os ++ o ∷ []) (c.opened + more)
            (o.end + 1)) before.1.closed_is
            (subst (λ e. AreOutlinesBetween text ws (b.closed + count) from (os ++ o ∷ []) e
            (o.end + 1)) before.1.depth_is
            (found_next (b.closed + count) from os (b.opened + count) to (so_far.are_found count) o
            is_next_there));
      }

  -- a stretch that begins where the statements before it end, and closes no more blocks than are
  -- open there
  module _ (os : List Outline) (d to : ℕ) (found : AreOutlinesBetween text ws 0 0 os d to)
      (b : StretchBlocks) (from : ℕ) (later : List Outline) (behind : ℕ)
      (later_found : (more : ℕ)
      → AreOutlinesBetween text ws (b.closed + more) from later (b.opened + more) behind)
      (from_is : from ≡ to) (closed_le_d : b.closed ≤ d)
    where
      pub found_with_stretch : AreOutlinesBetween text ws 0 0 (os ++ later)
          (d - b.closed + b.opened) behind
      found_with_stretch =
          let more = d - b.closed in
          let e = d - b.closed + b.opened in
          let depth_is : b.closed + more ≡ d = omega arith in
          let depth_behind_is : b.opened + more ≡ e = omega arith in
          found_behind 0 0 os d to found later e behind
          (subst (λ i. AreOutlinesBetween text ws d i later e behind) from_is
          (subst (λ f. AreOutlinesBetween text ws d from later f behind) depth_behind_is
          (subst (λ n. AreOutlinesBetween text ws n from later (b.opened + more) behind) depth_is
          (later_found more))))

      pub depth_with_stretch_le : d - b.closed + b.opened ≤ behind
      depth_with_stretch_le =
          depth_le_index 0 0 (os ++ later) (d - b.closed + b.opened) behind found_with_stretch
          (omega arith)
