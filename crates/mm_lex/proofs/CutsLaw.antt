-- Pieces between cuts, and batches of pieces that are joined in order.
use Rattle.std.proofs.Common.{◌≡◌, ℕ, zero, suc, ◌+◌, ◌/◌, ◌<◌, ◌≤◌, List, length, get_or, Result}
use Rattle.std.proofs.Common.{Ok, sym, ap, subst, ◌∙◌, arith, rules}
use Rattle.std.specs.Prelude.{IfOk}
use Rattle.std.specs.List.{remove}
use Rattle.std.specs.declared.alloc.AllocError.{AllocError}
use Rattle.std.proofs.Math.Nat.{zero-mul}
use Rattle.std.proofs.lemmas.Grind.{get_or_default_zero, common_steps}
use Rattle.std.proofs.lemmas.List.{get_or_past}
use Rattle.std.proofs.lemmas.List.Edits.{length-remove, get_or-remove_above}
use Rattle.mm_lex.specs.Pieces.{IsSummary, Stretch}
use Rattle.mm_lex.specs.Cuts.{cut_place, batch_start, IsBatch}
use Rattle.mm_lex.specs.Places.{cut_text, IsCutText}

module _ (text places : List ℕ) (cuts : IsCutText (cut_text places (length text))) where
  pub cut_place_le_length : (i : ℕ) → cut_place text places i ≤ length text
  cut_place_le_length zero = omega arith
  cut_place_le_length (suc i) = search (rules, arith, get_or_default_zero, get_or_past)

  pub cut_place_le_next : (i : ℕ) → cut_place text places i ≤ cut_place text places (i + 1)
  cut_place_le_next zero = omega arith
  cut_place_le_next (suc i) =
      search (rules, arith, get_or_default_zero, get_or_past, cut_place_le_length)

-- ---- batches

module _ (n batch_count : ℕ) (batches_is_positive : 0 < batch_count)
    (batches_le_n : batch_count ≤ n) where
  pub first_batch_starts_at_zero : batch_start n batch_count 0 ≡ 0
  first_batch_starts_at_zero = omega (arith, zero-mul (n / batch_count))

-- the first batches make up whole, and these are the rest
pub record IsJoinedSoFar (text places : List ℕ) (n batch_count : ℕ) (whole : Stretch)
    (unjoined : List (Result Stretch AllocError)) : Type 0 where
  pub joined_batches : ℕ
  pub joined_and_unjoined_are_batches : joined_batches + length unjoined ≡ batch_count
  pub whole_is_batch : IsBatch text places 0 (batch_start n batch_count joined_batches) whole
  pub unjoined_are_batches : (k : ℕ) (x : Result Stretch AllocError) → k < length unjoined
      → IfOk (get_or unjoined k x)
      (IsBatch text places (batch_start n batch_count (joined_batches + k))
      (batch_start n batch_count (joined_batches + k + 1)))

module _ (text places : List ℕ) (n batch_count : ℕ) where
  pub first_batch_is_joined : (ps qs : List (Result Stretch AllocError)) (piece : Stretch) → 0 <
      batch_count
      → batch_count ≤ n → length ps ≡ batch_count →
      ((i : ℕ) (d : Result Stretch AllocError) → i < batch_count
      → IfOk (get_or ps i d)
      (IsBatch text places (batch_start n batch_count i) (batch_start n batch_count (i + 1))))
      →
      Ok piece ≡ get_or ps 0 (Ok piece) → qs ≡ remove ps 0
      → IsJoinedSoFar text places n batch_count piece qs
  first_batch_is_joined ps qs piece batches_is_positive batches_le_n count_is_batches each_is_batch
      first_is_piece rest_is =
      let first_is_batch : IsBatch text places (batch_start n batch_count 0)
      (batch_start n batch_count 1)
      piece =
      subst (λ (r : Result Stretch AllocError). IfOk r
      (IsBatch text places (batch_start n batch_count 0) (batch_start n batch_count 1))) (sym
      first_is_piece)
      (each_is_batch 0 (Ok piece) batches_is_positive) in
      let batch_from_start : IsBatch text places 0 (batch_start n batch_count 1) piece =
      subst (λ (i : ℕ). IsBatch text places i (batch_start n batch_count 1) piece)
      (first_batch_starts_at_zero n batch_count batches_is_positive batches_le_n) first_is_batch in
      let length_is : length qs + 1 ≡ length ps =
      ap (λ (xs : List (Result Stretch AllocError)). length xs + 1) rest_is
      ∙ length-remove ps 0 (omega (arith, batches_is_positive, count_is_batches)) in
      record {
        joined_batches = 1;
        joined_and_unjoined_are_batches = omega (arith, length_is, count_is_batches);
        whole_is_batch = batch_from_start;
        unjoined_are_batches = λ k x k_is_left.
            let indices_equal : k + 1 ≡ 1 + k = omega arith in
            let element_is : get_or qs k x ≡ get_or ps (k + 1) x =
            ap (λ (xs : List (Result Stretch AllocError)). get_or xs k x) rest_is
            ∙ get_or-remove_above ps 0 x k (omega arith)
            (omega (arith, batches_is_positive, count_is_batches)) in
            rw element_is
            (subst (λ (i : ℕ). IfOk (get_or ps (k + 1) x)
            (IsBatch text places (batch_start n batch_count i) (batch_start n batch_count (i + 1))))
            indices_equal
            (each_is_batch (k + 1) x (omega (arith, length_is, count_is_batches))));
      }

  pub next_batch_is_joined : (ps qs : List (Result Stretch AllocError)) (whole piece joined :
      Stretch)
      → IsJoinedSoFar text places n batch_count whole ps → 0 < length ps
      → Ok piece ≡ get_or ps 0 (Ok piece)
      → qs ≡ remove ps 0 →
      joined.from ≡ whole.from → joined.to ≡ piece.to → IsSummary text joined
      → IsJoinedSoFar text places n batch_count joined qs
  next_batch_is_joined ps qs whole piece joined joined_so_far some_left first_is_piece rest_is
      from_is_kept to_is_moved is_summary =
      let plus_zero_is : joined_so_far.joined_batches + 0 ≡ joined_so_far.joined_batches = omega
      arith in
      let next_is_batch : IsBatch text places
      (batch_start n batch_count (joined_so_far.joined_batches +
      0))
      (batch_start n batch_count (joined_so_far.joined_batches + 0 + 1)) piece =
      subst (λ (r : Result Stretch AllocError). IfOk r
      (IsBatch text places (batch_start n batch_count (joined_so_far.joined_batches + 0))
      (batch_start n batch_count (joined_so_far.joined_batches + 0 + 1)))) (sym first_is_piece)
      (joined_so_far.unjoined_are_batches 0 (Ok piece) some_left) in
      let length_is : length qs + 1 ≡ length ps =
      ap (λ (xs : List (Result Stretch AllocError)). length xs + 1) rest_is
      ∙ length-remove ps 0 some_left in
      record {
        joined_batches = joined_so_far.joined_batches + 1;
        joined_and_unjoined_are_batches =
            omega (arith, length_is, joined_so_far.joined_and_unjoined_are_batches);
        whole_is_batch = record {
          from_is_place = from_is_kept ∙ joined_so_far.whole_is_batch.from_is_place;
          to_is_place =
              to_is_moved ∙ next_is_batch.to_is_place
              ∙ ap (λ (i : ℕ). cut_place text places (batch_start n batch_count (i + 1)))
              plus_zero_is;
          has_summary = is_summary;
        };
        unjoined_are_batches = λ k x k_is_left.
            let indices_equal : joined_so_far.joined_batches + (k + 1)
            ≡ joined_so_far.joined_batches + 1 + k = omega arith in
            let element_is : get_or qs k x ≡ get_or ps (k + 1) x =
            ap (λ (xs : List (Result Stretch AllocError)). get_or xs k x) rest_is
            ∙ get_or-remove_above ps 0 x k (omega arith) some_left in
            rw element_is
            (subst (λ (i : ℕ). IfOk (get_or ps (k + 1) x)
            (IsBatch text places (batch_start n batch_count i) (batch_start n batch_count (i + 1))))
            indices_equal
            (joined_so_far.unjoined_are_batches (k + 1) x (omega (arith, length_is))));
      }

  -- the next piece begins where those before it end
  pub next_batch_is_neighbour : (ps : List (Result Stretch AllocError)) (whole piece : Stretch)
      → IsJoinedSoFar text places n batch_count whole ps → 0 < length ps
      → Ok piece ≡ get_or ps 0 (Ok piece) →
      (whole.to ≡ piece.from) × IsSummary text piece
  next_batch_is_neighbour ps whole piece joined_so_far some_left first_is_piece = grind arith

  pub joined_batch_is_whole_text : (ps : List (Result Stretch AllocError)) (whole : Stretch)
      → 0 < batch_count
      → batch_count ≤ n
      → n ≡ length places + 1 → IsJoinedSoFar text places n batch_count whole ps → length ps ≡ 0
      → whole.to ≡ length text
  joined_batch_is_whole_text ps whole batches_is_positive batches_le_n piece_count_is joined_so_far
      none_left = grind (arith, common_steps)
