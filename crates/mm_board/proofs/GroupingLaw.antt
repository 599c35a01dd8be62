-- A split and a join keep the rule: the words stay, and so do the totals over all seats.
use Rattle.std.proofs.Common.{length-append, append_assoc, get_or, length, arith, false, [], rules}
use Rattle.std.proofs.Common.{subst, Bool, List, None, refl, true, ◌++◌, ◌||◌, inl, ap, inr, min}
use Rattle.std.proofs.Common.{set, sym, ◌+◌, ◌-◌, ◌<◌, ◌∙◌, ◌∷◌, ◌≡◌, ◌≤◌, ℕ}
use Rattle.std.proofs.lemmas.Grind.{common_steps}
use Rattle.std.proofs.lemmas.Bool.{cases_lt}
use mathlib.Core.Option.{some}
use lib.ListN.{get_elem?}
use Rattle.atomic_table.specs.Table.{State, Splits, Joins}
use Rattle.atomic_table.proofs.Lists.{at_set, at_snoc}
use Rattle.mm_board.specs.declared.views.View.{View}
use Rattle.mm_board.specs.Records.{times_in, times_recorded, record_length, HasEmptyRecord}
use Rattle.mm_board.specs.Rule.{total, times_reported, times_skipped, settled_count, over_share}
use Rattle.mm_board.specs.Rule.{IsCountOrReported, SeatRule, BoardRule}
use Rattle.mm_board.specs.Events.{after_split, new_seat_view, SplitKeepsRule, after_join}
use Rattle.mm_board.specs.Events.{spent_view}
use Rattle.mm_board.specs.Table.{MeetsRule}
use Rattle.mm_board.proofs.SumsLaw.{total_after_set, total_of_appended, times_in_append}

-- The views become others, over which each total is the same
record Regroups (n claim floor : ℕ) (views views_after : List View) : Type 0 where
  times_recorded_kept : (x : ℕ)
      → total (times_recorded x) views_after ≡ total (times_recorded x) views
  record_lengths_kept : total record_length views_after ≡ total record_length views
  times_reported_kept : (x : ℕ) → times_reported views_after x ≡ times_reported views x
  settled_count_kept : settled_count views_after ≡ settled_count views
  times_skipped_kept : (x : ℕ) → times_skipped views_after x ≡ times_skipped views x
  shares_kept : total (λ v. v.share) views_after ≡ total (λ v. v.share) views
  over_shares_do_not_fall : total over_share views ≤ total over_share views_after
  seats_obey_rule : (seat : ℕ) (v : View) → get_elem? views_after seat ≡ some v
      → SeatRule n views claim floor v

module _ (n claim floor settled : ℕ) (views after : List View) (rule : BoardRule n claim floor
    settled views)
    (regroups : Regroups n claim floor views after) where
  stays_count_or_reported : (x : ℕ) → IsCountOrReported n views x → IsCountOrReported n after x
  stays_count_or_reported x (inl x_is_n) = inl x_is_n
  stays_count_or_reported x (inr is_reported) =
      inr (rw (regroups.times_reported_kept x) is_reported)

  rule_regrouped : BoardRule n claim floor settled after
  rule_regrouped = record {
    each_recorded_once = λ x. regroups.times_recorded_kept x ∙ rule.each_recorded_once x;
    record_lengths_are_claimed = regroups.record_lengths_kept ∙ rule.record_lengths_are_claimed;
    floor_is_least_reported =
        record {
          le_count = rule.floor_is_least_reported.le_count;
          le_each_reported = λ y is_reported. rule.floor_is_least_reported.le_each_reported y
              (omega (arith, regroups.times_reported_kept y));
          is_count_or_reported =
              stays_count_or_reported floor rule.floor_is_least_reported.is_count_or_reported;
        };
    settled_word_is_count = rule.settled_word_is_count ∙ sym regroups.settled_count_kept;
    skipped_gt_floor =
        λ x is_skipped. rule.skipped_gt_floor x (omega (arith, regroups.times_skipped_kept x));
    seats_obey_rule =
        λ seat v has_view. let seat_rule = regroups.seats_obey_rule seat v has_view in
        record {
          count_is_n = seat_rule.count_is_n;
          floor_le_seen = seat_rule.floor_le_seen;
          seen_is_count_or_reported = λ has_share. stays_count_or_reported v.seen
              (seat_rule.seen_is_count_or_reported has_share);
          over_only_past_count = seat_rule.over_only_past_count;
          spent_has_empty_record = seat_rule.spent_has_empty_record;
        };
    shares_are_most_seats = regroups.shares_kept ∙ rule.shares_are_most_seats;
    claim_word_is_bounded =
        omega (arith, regroups.over_shares_do_not_fall, rule.claim_word_is_bounded);
  }

-- a total after a split
total_after_split : (g : View → ℕ) (views : List View) (id : ℕ) (v : View)
    → get_elem? views id ≡ some v → g (after_split v) + g (new_seat_view v) ≡ g v
    → total g (set views id (after_split v) ++ new_seat_view v ∷ []) ≡ total g views
total_after_split g views id v has_view parts_add_up =
    grind (arith, common_steps, total_after_set, total_of_appended, set)

pub split_allowed : (n id : ℕ) (v : View) → 1 < v.share
    → Splits (MeetsRule n) id v (after_split v) (new_seat_view v)
split_allowed n id v shares_to_give s meets_rule has_view = (
  meets_rule.0,
  rule_regrouped n _ _ _ s.views _ meets_rule.1 record {
    times_recorded_kept = λ x. split (times_recorded x) (grind (arith, common_steps));
    record_lengths_kept = split record_length (grind (arith, common_steps));
    times_reported_kept = λ x. split (λ u. times_in x u.reported) (omega arith);
    settled_count_kept = split (λ u. length u.settled) (omega arith);
    times_skipped_kept = λ x. split (λ u. times_in x u.skipped) (omega arith);
    shares_kept = split (λ u. u.share) (omega arith);
    over_shares_do_not_fall = omega (arith, split over_share (grind (arith, common_steps)));
    seats_obey_rule =
        λ seat u has_view_after.
        elim (at_snoc (set s.views id (after_split v)) (new_seat_view v) u seat has_view_after) [
          | inl was_there ↦ elim (at_set s.views id seat (after_split v) u was_there) [
            | inl is_split_seat ↦
                subst (SeatRule n s.views (get_or s.words 0 0) (get_or s.words 1 0))
                is_split_seat.1 (rule_of_half (after_split v) (λ z. absurd (omega arith)) refl refl
                refl)
            | inr is_other_seat ↦ meets_rule.1.seats_obey_rule seat u is_other_seat.1
          ]
          | inr is_new_view ↦
              subst (SeatRule n s.views (get_or s.words 0 0) (get_or s.words 1 0)) is_new_view
              (rule_of_half (new_seat_view v) (λ z. absurd (omega arith)) refl refl refl)
        ];
  },
)
  where
    old_seat_rule : SeatRule n s.views (get_or s.words 0 0) (get_or s.words 1 0) v
    old_seat_rule = meets_rule.1.seats_obey_rule id v has_view

    rule_of_half : (u : View) → (u.share ≡ 0 → HasEmptyRecord u) → u.count ≡ v.count
        → u.seen ≡ v.seen → u.over ≡ v.over
        → SeatRule n s.views (get_or s.words 0 0) (get_or s.words 1 0) u
    rule_of_half u if_spent count_is seen_is over_is =
        let has_share : 0 < v.share = omega arith in
        record {
          count_is_n = λ _. count_is ∙ old_seat_rule.count_is_n has_share;
          floor_le_seen = λ _. omega (arith, old_seat_rule.floor_le_seen has_share, seen_is);
          seen_is_count_or_reported =
              λ _. rw seen_is (old_seat_rule.seen_is_count_or_reported has_share);
          over_only_past_count = λ is_over. old_seat_rule.over_only_past_count
              (sym over_is ∙ is_over);
          spent_has_empty_record = if_spent;
        }

    split : (g : View → ℕ) → g (after_split v) + g (new_seat_view v) ≡ g v
        → total g (set s.views id (after_split v) ++ new_seat_view v ∷ []) ≡ total g s.views
    split g parts_add_up = total_after_split g s.views id v has_view parts_add_up

-- a total after a join
total_after_join : (g : View → ℕ) (views : List View) (id : ℕ) (v : View) (other_id : ℕ) (w : View)
    → get_elem? views id ≡ some v → get_elem? (set views id (after_join v w)) other_id ≡ some w
    → total g (set (set views id (after_join v w)) other_id spent_view) + g v + g w
    ≡ total g views + g (after_join v w) + g spent_view
total_after_join g views id v other_id w has_view other_has_view =
    grind (arith, common_steps, total_after_set, set)

get_at_middle : (before after : List View) (v : View)
    → get_elem? (before ++ v ∷ after) (length before) ≡ some v
get_at_middle [] after v = refl
get_at_middle (u ∷ before) after v = get_at_middle before after v

set_at_middle : (before after : List View) (v w : View)
    → set (before ++ v ∷ after) (length before) w ≡ before ++ w ∷ after
set_at_middle [] after v w = refl
set_at_middle (u ∷ before) after v w = ap (λ l. u ∷ l) (set_at_middle before after v w)

-- a split changes two views, and nothing else has to change
pub split_keeps : (n : ℕ) (v : View) → 1 < v.share
    → SplitKeepsRule n v (after_split v) (new_seat_view v)
split_keeps n v shares_to_give claim floor settled before after rule_before =
    let s : State (Unit {0}) View =
    record { words = claim ∷ floor ∷ settled ∷ []; homes = []; views = before ++ v ∷ after } in
    let views_equal =
    ap (λ l. l ++ new_seat_view v ∷ []) (set_at_middle before after v (after_split v))
    ∙ append_assoc before (after_split v ∷ after) (new_seat_view v ∷ []) in
    subst (BoardRule n claim floor settled) views_equal (split_allowed n (length before) v
    shares_to_give s (refl, rule_before) (get_at_middle before after v)).1

pub join_allowed : (n id : ℕ) (v : View) (other_id : ℕ) (w : View) → w.open_number ≡ None
    → 0 < v.share → 0 < w.share → Joins (MeetsRule n) id v other_id w (after_join v w) spent_view
join_allowed n id v other_id w nothing_open first_share_positive second_share_positive s meets_rule
    has_view
    ids_differ other_has_view = (
      meets_rule.0,
      rule_regrouped n _ _ _ s.views _ meets_rule.1 record {
        times_recorded_kept =
            λ x. grind (arith, common_steps, times_in_append, joined (times_recorded x));
        record_lengths_kept = grind (arith, common_steps, length-append, joined record_length);
        times_reported_kept = λ x.
            omega (
              arith,
              joined (λ u. times_in x u.reported),
              times_in_append x v.reported
                  w.reported,
            );
        settled_count_kept =
            omega (arith, joined (λ u. length u.settled), length-append v.settled w.settled);
        times_skipped_kept = λ x.
            omega (
              arith,
              joined (λ u. times_in x u.skipped),
              times_in_append x v.skipped
                  w.skipped,
            );
        shares_kept = omega (arith, joined (λ u. u.share));
        over_shares_do_not_fall = grind (arith, common_steps, joined over_share);
        seats_obey_rule =
            λ seat u has_view_after.
            elim (at_set (set s.views id (after_join v w)) other_id seat spent_view u
            has_view_after) [
              | inl is_spent_seat ↦
                  subst (SeatRule n s.views (get_or s.words 0 0) (get_or s.words 1 0))
                  is_spent_seat.1 rule_of_spent_seat
              | inr not_spent_seat ↦
                  elim (at_set s.views id seat (after_join v w) u not_spent_seat.1) [
                    | inl is_joined_seat ↦
                        subst (SeatRule n s.views (get_or s.words 0 0) (get_or s.words 1 0))
                        is_joined_seat.1 rule_of_joined_seat
                    | inr is_other_seat ↦ meets_rule.1.seats_obey_rule seat u is_other_seat.1
                  ]
            ];
      },
    )
  where
    joined : (g : View → ℕ)
        → total g (set (set s.views id (after_join v w)) other_id spent_view) + g v + g w
        ≡ total g s.views + g (after_join v w) + g spent_view
    joined g = total_after_join g s.views id v other_id w has_view other_has_view

    first_seat_rule : SeatRule n s.views (get_or s.words 0 0) (get_or s.words 1 0) v
    first_seat_rule = meets_rule.1.seats_obey_rule id v has_view

    second_seat_rule : SeatRule n s.views (get_or s.words 0 0) (get_or s.words 1 0) w
    second_seat_rule = meets_rule.1.seats_obey_rule other_id w
        (elim (at_set s.views id other_id (after_join v w) w other_has_view) [
          | inl is_that_seat ↦ absurd (ids_differ is_that_seat.0)
          | inr is_that_seat ↦ is_that_seat.1
        ])

    rule_of_spent_seat : SeatRule n s.views (get_or s.words 0 0) (get_or s.words 1 0) spent_view
    rule_of_spent_seat = record {
      count_is_n = λ has_share. absurd (omega arith);
      floor_le_seen = λ has_share. absurd (omega arith);
      seen_is_count_or_reported = λ has_share. absurd (omega arith);
      over_only_past_count = λ is_over. absurd (cc);
      spent_has_empty_record = λ share_is_zero. search rules;
    }

    either_over : (first_flag second_flag : Bool) → v.over ≡ first_flag
        → w.over ≡ second_flag → (first_flag || second_flag) ≡ true → n < get_or s.words 0 0
    either_over true second_flag first_over second_over either_is_over =
        first_seat_rule.over_only_past_count first_over
    either_over false true first_over second_over either_is_over =
        second_seat_rule.over_only_past_count second_over
    either_over false false first_over second_over either_is_over = absurd (cc)

    rule_of_joined_seat : SeatRule n s.views (get_or s.words 0 0) (get_or s.words 1 0)
        (after_join v w)
    rule_of_joined_seat = record {
      count_is_n = λ _. first_seat_rule.count_is_n first_share_positive;
      floor_le_seen = λ _. omega (
        arith,
        first_seat_rule.floor_le_seen first_share_positive,
        second_seat_rule.floor_le_seen second_share_positive,
      );
      seen_is_count_or_reported = λ _. elim (cases_lt v.seen w.seen) [
        | inl first_saw_less ↦
            let lesser_is : min v.seen w.seen ≡ v.seen = omega arith in
            rw lesser_is (first_seat_rule.seen_is_count_or_reported first_share_positive)
        | inr second_saw_less ↦
            let lesser_is : min v.seen w.seen ≡ w.seen = omega arith in
            rw lesser_is (second_seat_rule.seen_is_count_or_reported second_share_positive)
      ];
      over_only_past_count = either_over v.over w.over refl refl;
      spent_has_empty_record = λ share_is_zero. absurd (omega arith);
    }
