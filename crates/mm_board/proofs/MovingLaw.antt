-- A step on a word, which changes the view of one seat, keeps the rule.
use Rattle.std.proofs.Common.{◌≡◌, ℕ, ◌+◌, ◌<◌, ◌≤◌, ◌⊎◌, inl, inr, min, true, List, length, set}
use Rattle.std.proofs.Common.{sym, ◌∙◌, subst, arith}
use Rattle.std.proofs.lemmas.Bool.{cases_lt}
use mathlib.Core.Option.{some}
use lib.ListN.{get_elem?}
use Rattle.atomic_table.proofs.Lists.{at_set}
use Rattle.mm_board.specs.declared.views.View.{View}
use Rattle.mm_board.specs.Records.{times_in, times_recorded, record_length}
use Rattle.mm_board.specs.Rule.{total, times_reported, times_skipped, once_below, over_share}
use Rattle.mm_board.specs.Rule.{IsCountOrReported, IsLeastReported, SeatRule, BoardRule}
use Rattle.mm_board.proofs.SumsLaw.{total_after_set, one_at_most_total}

-- The claim word, the floor word and the settled word go from `claim`, `floor`, `settled` to
-- `claim'`, `floor'`, `settled'`, and the view of one seat from v to w
pub record MovesWords (n claim floor settled claim' floor' settled' : ℕ) (v w : View) : Type 0 where
  pub count_kept : w.count ≡ v.count
  pub share_kept : w.share ≡ v.share
  pub record_follows_claim_word : (x : ℕ)
      → once_below x (min claim n) + times_recorded x w ≡ once_below x (min claim' n) +
      times_recorded x v
  pub record_length_follows_claim_word : min claim n + record_length w ≡ min claim' n +
      record_length v
  pub claim_word_rises : claim ≤ claim'
  pub floor_word_falls : floor' ≤ floor
  pub reports_are_kept : (x : ℕ) → times_in x v.reported ≤ times_in x w.reported
  pub new_reports_ge_floor : (x : ℕ) → times_in x v.reported < times_in x w.reported → floor' ≤ x
  pub floor_kept_or_reported : (floor' ≡ floor) ⊎ (0 < times_in floor' w.reported)
  pub settled_word_follows_view : settled + length w.settled ≡ settled' + length v.settled
  pub new_skips_gt_floor : (x : ℕ) → times_in x v.skipped < times_in x w.skipped → floor' < x
  pub floor_le_seen : floor' ≤ w.seen
  pub seen_kept_or_floor : (w.seen ≡ v.seen) ⊎ (w.seen ≡ floor')
  pub over_kept_or_past_count : w.over ≡ true → (v.over ≡ true) ⊎ (n < claim')
  pub claim_word_stays_bounded : (t : ℕ) → claim ≤ n + t → claim' + over_share v ≤ n + t +
      over_share w

module _ (n claim floor settled claim' floor' settled' : ℕ) (v w : View) (views : List View) (id :
    ℕ)
    (rule : BoardRule n claim floor settled views) (has_view : get_elem? views id ≡ some v)
    (share_is_positive : 0 < v.share)
    (moves : MovesWords n claim floor settled claim' floor' settled' v w) where
  abbrev after : List View
  after = set views id w

  reports_after_set : (x : ℕ) → times_reported after x + times_in x v.reported
      ≡ times_reported views x + times_in x w.reported
  reports_after_set x = total_after_set (λ u. times_in x u.reported) views id v w has_view

  skips_after_set : (x : ℕ)
      → times_skipped after x + times_in x v.skipped ≡ times_skipped views x + times_in x w.skipped
  skips_after_set x = total_after_set (λ u. times_in x u.skipped) views id v w has_view

  reported_at_most_total : (x : ℕ) → times_in x v.reported ≤ times_reported views x
  reported_at_most_total x = one_at_most_total (λ u. times_in x u.reported) views id v has_view

  reports_do_not_fall : (x : ℕ) → times_reported views x ≤ times_reported after x
  reports_do_not_fall x = omega (arith, reports_after_set x, moves.reports_are_kept x)

  stays_count_or_reported : (x : ℕ) → IsCountOrReported n views x → IsCountOrReported n after x
  stays_count_or_reported x (inl x_is_n) = inl x_is_n
  stays_count_or_reported x (inr is_reported) = inr (omega (arith, reports_do_not_fall x))

  new_floor_is_count_or_reported : IsCountOrReported n after floor'
  new_floor_is_count_or_reported = elim moves.floor_kept_or_reported [
    | inl floor_is_kept ↦
        rw floor_is_kept (stays_count_or_reported floor
        rule.floor_is_least_reported.is_count_or_reported)
    | inr is_reported ↦ inr (omega (arith, reports_after_set floor', reported_at_most_total floor'))
  ]

  floor_is_least_reported : IsLeastReported n after floor'
  floor_is_least_reported = record {
    le_count = omega (arith, moves.floor_word_falls, rule.floor_is_least_reported.le_count);
    le_each_reported =
        λ y is_reported. elim (cases_lt (times_in y v.reported) (times_in y w.reported)) [
          | inl reported_more ↦ moves.new_reports_ge_floor y reported_more
          | inr not_reported_more ↦
              let total_moves = reports_after_set y in
              let old_floor_le_y = rule.floor_is_least_reported.le_each_reported y (omega arith) in
              omega (arith, moves.floor_word_falls)
        ];
    is_count_or_reported = new_floor_is_count_or_reported;
  }

  skipped_gt_floor : (x : ℕ) → 0 < times_skipped after x → floor' < x
  skipped_gt_floor x is_skipped =
      elim (cases_lt (times_in x v.skipped) (times_in x w.skipped)) [
        | inl skipped_more ↦ moves.new_skips_gt_floor x skipped_more
        | inr not_skipped_more ↦
            let total_moves = skips_after_set x in
            omega (arith, rule.skipped_gt_floor x (omega arith), moves.floor_word_falls)
      ]

  rule_of_moved_seat : SeatRule n after claim' floor' w
  rule_of_moved_seat =
      let seat_rule = rule.seats_obey_rule id v has_view in
      record {
        count_is_n = λ _. moves.count_kept ∙ seat_rule.count_is_n share_is_positive;
        floor_le_seen = λ _. moves.floor_le_seen;
        seen_is_count_or_reported = λ _. elim moves.seen_kept_or_floor [
          | inl seen_is ↦
              subst (IsCountOrReported n after) (sym seen_is) (stays_count_or_reported v.seen
              (seat_rule.seen_is_count_or_reported share_is_positive))
          | inr seen_is ↦
              subst (IsCountOrReported n after) (sym seen_is) new_floor_is_count_or_reported
        ];
        over_only_past_count = λ is_over. elim (moves.over_kept_or_past_count is_over) [
          | inl was_over ↦
              omega (arith, seat_rule.over_only_past_count was_over, moves.claim_word_rises)
          | inr n_lt_claim_word ↦ n_lt_claim_word
        ];
        spent_has_empty_record = λ share_is_zero. absurd (omega (arith, moves.share_kept));
      }

  rule_of_other_seat : (u : View) → SeatRule n views claim floor u → SeatRule n after claim' floor'
      u
  rule_of_other_seat u seat_rule = record {
    count_is_n = seat_rule.count_is_n;
    floor_le_seen =
        λ has_share. omega (arith, seat_rule.floor_le_seen has_share, moves.floor_word_falls);
    seen_is_count_or_reported = λ has_share. stays_count_or_reported u.seen
        (seat_rule.seen_is_count_or_reported has_share);
    over_only_past_count = λ is_over.
        omega (arith, seat_rule.over_only_past_count is_over, moves.claim_word_rises);
    spent_has_empty_record = seat_rule.spent_has_empty_record;
  }

  total_moves : (f : View → ℕ) → total f after + f v ≡ total f views + f w
  total_moves f = total_after_set f views id v w has_view

  pub moves_keep_rule : BoardRule n claim' floor' settled' (set views id w)
  moves_keep_rule = record {
    each_recorded_once = λ x. omega (
      arith,
      total_moves (times_recorded x),
      rule.each_recorded_once x,
      moves.record_follows_claim_word x,
    );
    record_lengths_are_claimed = omega (
      arith,
      total_moves record_length,
      rule.record_lengths_are_claimed,
      moves.record_length_follows_claim_word,
    );
    floor_is_least_reported = floor_is_least_reported;
    settled_word_is_count = omega (
      arith,
      total_moves (λ u. length u.settled),
      rule.settled_word_is_count,
      moves.settled_word_follows_view,
    );
    skipped_gt_floor = skipped_gt_floor;
    seats_obey_rule =
        λ seat u has_view_after. elim (at_set views id seat w u has_view_after) [
          | inl is_moved_seat ↦
              subst (SeatRule n after claim' floor') is_moved_seat.1 rule_of_moved_seat
          | inr is_other_seat ↦ rule_of_other_seat u (rule.seats_obey_rule seat u is_other_seat.1)
        ];
    shares_are_most_seats =
        omega (arith, total_moves (λ u. u.share), rule.shares_are_most_seats, moves.share_kept);
    claim_word_is_bounded = omega (
      arith,
      total_moves over_share,
      moves.claim_word_stays_bounded (total over_share views) rule.claim_word_is_bounded,
    );
  }
