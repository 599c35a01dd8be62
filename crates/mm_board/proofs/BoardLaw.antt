-- What the rule says of one seat.
use Rattle.std.proofs.lemmas.Grind.{common_steps}
use Rattle.std.proofs.Common.{◌≡◌, ℕ, zero, suc, ◌+◌, ◌<◌, ◌≤◌, inl, inr, min, true, Option, None}
use Rattle.std.proofs.Common.{List, [], ◌∷◌, length, get_or, sym, refl, ap, ◌∙◌, subst, arith}
use Rattle.std.proofs.lemmas.Bool.{cases_lt}
use mathlib.Core.Option.{some, some-injective, some-ne-none}
use lib.ListN.{get_elem?}
use Rattle.mm_board.specs.declared.views.View.{View}
use Rattle.mm_board.specs.Records.{record_length, times_in, times_open, times_recorded}
use Rattle.mm_board.specs.Records.{HasEmptyRecord}
use Rattle.mm_board.specs.Rule.{once_below, over_share, SeatRule, total, times_reported}
use Rattle.mm_board.specs.Rule.{IsCountOrReported, IsLeastReported, IsSeatView, BoardRule}
use Rattle.mm_board.specs.Events.{IsClaimWord, IsFloorWord, open_after_look, skipped_by_look}
use Rattle.mm_board.specs.Events.{after_look, open_list, after_report, after_settle, after_join}
use Rattle.mm_board.proofs.SumsLaw.{one_at_most_total, below_by_once, once_below_at_most_one}
use Rattle.mm_board.proofs.SumsLaw.{once_below_is_one, total_of_only_seat, times_in_append}
use Rattle.mm_board.proofs.SumsLaw.{settled_at_most_recorded}

module _ (n claim floor settled : ℕ) (views : List View) (v : View) (rule : BoardRule n claim floor
    settled views)
    (seat_view : IsSeatView views v) where
  at_most_total : (f : View → ℕ) → f v ≤ total f views
  at_most_total f = one_at_most_total f views seat_view.0 v seat_view.1

  pub recorded_lt_claim_word : (x : ℕ) → 0 < times_recorded x v → x < min claim n
  recorded_lt_claim_word x is_recorded =
      let total_is_once = rule.each_recorded_once x in
      below_by_once x (min claim n) (omega (arith, at_most_total (times_recorded x)))

  pub recorded_at_most_once : (x : ℕ) → times_recorded x v ≤ 1
  recorded_at_most_once x = omega (
    arith,
    at_most_total (times_recorded x),
    rule.each_recorded_once x,
    once_below_at_most_one x (min claim n),
  )

  pub share_at_most_all : v.share ≤ 64
  share_at_most_all = omega (arith, at_most_total (λ u. u.share), rule.shares_are_most_seats)

  pub floor_at_most_reported : (x : ℕ) → 0 < times_in x v.reported → floor ≤ x
  floor_at_most_reported x is_reported = rule.floor_is_least_reported.le_each_reported x
      (omega (arith, at_most_total (λ u. times_in x u.reported)))

  pub floor_at_most_seen : 0 < v.share → floor ≤ v.seen
  floor_at_most_seen = (rule.seats_obey_rule seat_view.0 v seat_view.1).floor_le_seen

  pub settled_at_most_count : settled ≤ n
  settled_at_most_count = omega (
    arith,
    settled_at_most_recorded views,
    rule.record_lengths_are_claimed,
    rule.settled_word_is_count,
  )

  -- a seat of all shares: its record is that of all seats
  total_is_own : (g : View → ℕ) → ((u : View) → HasEmptyRecord u → g u ≡ 0) → v.share ≡ 64
      → total g views ≡ g v
  total_is_own g empty_gives_zero has_all_shares =
      total_of_only_seat g views seat_view.0 v seat_view.1
      (rule.shares_are_most_seats ∙ sym has_all_shares)
      (λ j u at z. empty_gives_zero u ((rule.seats_obey_rule j u at).spent_has_empty_record z))

  -- the rule of all seats is then the rule of that one seat
  pub rule_of_whole_seat : v.share ≡ 64 → BoardRule n claim floor settled (v ∷ [])
  rule_of_whole_seat has_all_shares = record {
    each_recorded_once = λ x. omega (
      arith,
      rule.each_recorded_once x,
      total_is_own (times_recorded x) (λ u empty.
          rw (empty.nothing_open, empty.none_settled, empty.none_reported, empty.none_skipped)
          refl) has_all_shares,
    );
    record_lengths_are_claimed = omega (
      arith,
      rule.record_lengths_are_claimed,
      total_is_own record_length (λ u empty.
          rw (empty.nothing_open, empty.none_settled, empty.none_reported, empty.none_skipped)
          refl) has_all_shares,
    );
    floor_is_least_reported =
        record {
          le_count = rule.floor_is_least_reported.le_count;
          le_each_reported = λ y is_reported. rule.floor_is_least_reported.le_each_reported y
              (omega (arith, same_times_reported y));
          is_count_or_reported =
              stays_count_or_reported floor rule.floor_is_least_reported.is_count_or_reported;
        };
    settled_word_is_count = omega (
      arith,
      rule.settled_word_is_count,
      total_is_own (λ u. length u.settled) (λ u empty. ap length empty.none_settled)
          has_all_shares,
    );
    skipped_gt_floor = λ x is_skipped. rule.skipped_gt_floor x (omega (
      arith,
      total_is_own (λ u. times_in x u.skipped) (λ u empty. ap (times_in x) empty.none_skipped)
          has_all_shares,
    ));
    seats_obey_rule = rules_of_only_seat;
    shares_are_most_seats = omega arith;
    claim_word_is_bounded = omega (
      arith,
      rule.claim_word_is_bounded,
      total_of_only_seat over_share views seat_view.0 v seat_view.1
          (rule.shares_are_most_seats ∙ sym has_all_shares)
          (λ j u there share_is_zero. grind (arith, common_steps)),
    );
  }
    where
      same_times_reported : (x : ℕ) → times_reported views x ≡ times_reported (v ∷ []) x
      same_times_reported x = omega (
        arith,
        total_is_own (λ u. times_in x u.reported)
            (λ u empty. ap (times_in x) empty.none_reported) has_all_shares,
      )

      stays_count_or_reported : (x : ℕ) → IsCountOrReported n views x
          → IsCountOrReported n (v ∷ []) x
      stays_count_or_reported x (inl x_is_n) = inl x_is_n
      stays_count_or_reported x (inr is_reported) = inr (omega (arith, same_times_reported x))

      rules_of_only_seat : (seat : ℕ) (u : View) → get_elem? (v ∷ []) seat ≡ some u
          → SeatRule n (v ∷ []) claim floor u
      rules_of_only_seat zero u has_view =
          let seat_rule = rule.seats_obey_rule seat_view.0 v seat_view.1 in
          subst (SeatRule n (v ∷ []) claim floor) (some-injective v u has_view) (record {
            count_is_n = seat_rule.count_is_n;
            floor_le_seen = seat_rule.floor_le_seen;
            seen_is_count_or_reported = λ has_share. stays_count_or_reported v.seen
                (seat_rule.seen_is_count_or_reported has_share);
            over_only_past_count = seat_rule.over_only_past_count;
            spent_has_empty_record = seat_rule.spent_has_empty_record;
          })
      rules_of_only_seat (suc seat) u has_view = absurd (some-ne-none u (sym has_view))

  pub floor_of_whole_seat : v.share ≡ 64 → IsLeastReported n (v ∷ []) floor
  floor_of_whole_seat has_all_shares = (rule_of_whole_seat has_all_shares).floor_is_least_reported

  pub settled_of_whole_seat : v.share ≡ 64 → settled ≡ length v.settled
  settled_of_whole_seat has_all_shares =
      omega (arith, (rule_of_whole_seat has_all_shares).settled_word_is_count)

  pub whole_seat_has_settled_all : v.share ≡ 64 → v.over ≡ true → v.open_number ≡ None → (x : ℕ)
      → x < floor → times_in x v.settled ≡ 1
  whole_seat_has_settled_all has_all_shares is_over nothing_open x x_lt_floor =
      let claim_word_gt_n =
      (rule.seats_obey_rule seat_view.0 v seat_view.1).over_only_past_count is_over in
      let floor_le_n = rule.floor_is_least_reported.le_count in
      let once_is_one = once_below_is_one x (min claim n) (omega arith) in
      let recorded_once : times_recorded x v + 0 ≡ once_below x (min claim n) =
      (rule_of_whole_seat has_all_shares).each_recorded_once x in
      let none_open_there : times_open x v.open_number ≡ 0 = ap (times_open x) nothing_open in
      let not_reported : times_in x v.reported ≤ 0 =
      elim (cases_lt 0 (times_in x v.reported)) [
        | inl is_reported ↦ absurd (omega (arith, floor_at_most_reported x is_reported))
        | inr none ↦ none
      ] in
      let not_skipped : times_in x v.skipped ≤ 0 =
      elim (cases_lt 0 (times_in x v.skipped)) [
        | inl is_skipped ↦ absurd (omega (
          arith,
          rule.skipped_gt_floor x
              (omega (arith, at_most_total (λ u. times_in x u.skipped))),
        ))
        | inr none ↦ none
      ] in
      omega arith

pub joined_records_are_disjoint : (v w : View) (x : ℕ) → w.open_number ≡ None
    → times_recorded x (after_join v w) ≤ 1 → times_recorded x v + times_recorded x w ≤ 1
joined_records_are_disjoint v w x nothing_open joined_at_most_once =
    grind (arith, common_steps, times_in_append)

pub recorded_below_claim : (v : View) (claim x : ℕ) → IsClaimWord v claim → 0 < times_recorded x v →
    x < claim
recorded_below_claim v claim x is_claim_word is_recorded =
    omega (arith, recorded_lt_claim_word _ _ _ _ _ v is_claim_word.3 is_claim_word.4 x is_recorded)

pub claim_record_once : (v : View) (claim x : ℕ) → IsClaimWord v claim → times_recorded x v ≤ 1
claim_record_once v claim x is_claim_word =
    recorded_at_most_once _ _ _ _ _ v is_claim_word.3 is_claim_word.4 x

pub claiming_share_at_most_all : (v : View) (claim : ℕ) → IsClaimWord v claim → v.share ≤ 64
claiming_share_at_most_all v claim is_claim_word =
    share_at_most_all _ _ _ _ _ v is_claim_word.3 is_claim_word.4

pub floor_under_seen : (v : View) (floor : ℕ) → IsFloorWord v floor → 0 < v.share → floor ≤ v.seen
floor_under_seen v floor is_floor_word share_is_positive =
    floor_at_most_seen _ _ _ _ _ v is_floor_word.3 is_floor_word.4 share_is_positive

pub floor_under_count : (v : View) (floor : ℕ) → IsFloorWord v floor → floor ≤ v.count
floor_under_count v floor is_floor_word = is_floor_word.3.floor_is_least_reported.le_count

pub floor_under_reported : (v : View) (floor x : ℕ) → IsFloorWord v floor → 0
    < times_in x v.reported → floor ≤ x
floor_under_reported v floor x is_floor_word is_reported =
    floor_at_most_reported _ _ _ _ _ v is_floor_word.3 is_floor_word.4 x is_reported

pub default_at_index : (l : List ℕ) (i : ℕ) (a : ℕ) → get_elem? l i ≡ some a → get_or l i 0 ≡ a
default_at_index [] i a got_a = absurd (some-ne-none a (sym got_a))
default_at_index (x ∷ xs) zero a got_a = some-injective x a got_a
default_at_index (x ∷ xs) (suc i) a got_a = default_at_index xs i a got_a

times_in_open_list : (x : ℕ) (o : Option ℕ) → times_in x (open_list o) ≡ times_open x o
times_in_open_list x o = grind (arith, common_steps)

times_after_look : (x f : ℕ) (o : Option ℕ)
    → times_open x (open_after_look o f) + times_in x (skipped_by_look o f) ≡ times_open x o
times_after_look x f o = grind (arith, common_steps)

pub look_keeps_record : (v : View) (f x : ℕ) → times_recorded x (after_look v f)
    ≡ times_recorded x v
look_keeps_record v f x = grind (arith, common_steps, times_in_append, times_after_look)

pub settle_keeps_record : (v : View) (d x : ℕ) → times_recorded x (after_settle v d)
    ≡ times_recorded x v
settle_keeps_record v d x = grind (arith, common_steps, times_in_append, times_in_open_list)

pub report_keeps_record : (v : View) (f x : ℕ) → times_recorded x (after_report v f)
    ≡ times_recorded x v
report_keeps_record v f x = grind (arith, common_steps, times_in_append, times_in_open_list)
