-- Each step on a word keeps the rule, and tells its caller what it found.
use Rattle.std.proofs.Common.{◌≡◌, ℕ, ◌+◌, ◌<◌, ◌≤◌, inl, inr, min, true, false, None, Some, List}
use Rattle.std.proofs.Common.{[], ◌∷◌, ◌++◌, length-append, length-set, get_or, set, refl, ◌∙◌}
use Rattle.std.proofs.Common.{arith, get_or-set_same, rules}
use Rattle.std.proofs.lemmas.List.{get_or-set_other}
use Rattle.std.proofs.lemmas.Grind.{common_steps}
use Rattle.std.proofs.lemmas.Bool.Decides.{nat_tests}
use Rattle.std.proofs.lemmas.Bool.{cases_lt}
use mathlib.Core.Option.{some}
use lib.ListN.{get_elem?}
use Rattle.atomic_table.specs.Table.{State, keeps, stepped}
use Rattle.mm_board.specs.declared.views.View.{View}
use Rattle.mm_board.specs.Rule.{BoardRule}
use Rattle.mm_board.specs.Events.{IsClaimWord, IsFloorWord, IsSettledWord}
use Rattle.mm_board.specs.Table.{MeetsRule}
use Rattle.mm_board.proofs.SumsLaw.{once_below_moves_by_one, times_in_append}
use Rattle.mm_board.proofs.MovingLaw.{MovesWords, moves_keep_rule}

-- the three steps that change a word, and the rule of the new words
module _ (n : ℕ) (s : State (Unit {0}) View) (meets_rule : MeetsRule n s) (id : ℕ) (v w : View)
    (has_view : get_elem? s.views id ≡ some v) (share_is_positive : 0 < v.share) where
  step_keeps_rule : (i claim floor settled z : ℕ) (carried : List (ℕ × Unit {0}))
      → get_or (set s.words i z) 0 0 ≡ claim → get_or (set s.words i z) 1 0 ≡ floor
      → get_or (set s.words i z) 2 0 ≡ settled
      → MovesWords n (get_or s.words 0 0) (get_or s.words 1 0) (get_or s.words 2 0) claim floor
      settled v w → MeetsRule n (stepped s i z id carried w keeps)
  step_keeps_rule i claim floor settled z carried claim_is floor_is settled_is moves = (
    length-set s.words i z ∙ meets_rule.0,
    rw (claim_is, floor_is, settled_is) (moves_keep_rule n _ _ _ _ _ _ v w s.views id meets_rule.1
        has_view share_is_positive moves),
  )

  is_set : (i z : ℕ) → i < 3 → get_or (set s.words i z) i 0 ≡ z
  is_set i z i_lt = get_or-set_same s.words i z 0 (omega (arith, meets_rule.0, i_lt))

  pub claim_word_step_keeps_rule : (z : ℕ)
      → MovesWords n (get_or s.words 0 0) (get_or s.words 1 0) (get_or s.words 2 0) z
      (get_or s.words 1 0) (get_or s.words 2 0) v w
      → (carried : List (ℕ × Unit {0})) → MeetsRule n (stepped s 0 z id carried w keeps)
  claim_word_step_keeps_rule z moves carried =
      step_keeps_rule 0 _ _ _ z carried (is_set 0 z (omega arith)) (get_or-set_other s.words 0 1 z 0
      (λ e. omega arith)) (get_or-set_other s.words 0 2 z 0 (λ e. omega arith)) moves

  pub floor_word_step_keeps_rule : (z : ℕ)
      → MovesWords n (get_or s.words 0 0) (get_or s.words 1 0) (get_or s.words 2 0)
      (get_or s.words 0 0) z (get_or s.words 2 0) v w
      → (carried : List (ℕ × Unit {0})) → MeetsRule n (stepped s 1 z id carried w keeps)
  floor_word_step_keeps_rule z moves carried =
      step_keeps_rule 1 _ _ _ z carried (get_or-set_other s.words 1 0 z 0 (λ e. omega arith))
      (is_set 1 z (omega arith)) (get_or-set_other s.words 1 2 z 0 (λ e. omega arith)) moves

  pub settled_word_step_keeps_rule : (z : ℕ)
      → MovesWords n (get_or s.words 0 0) (get_or s.words 1 0) (get_or s.words 2 0) (get_or s.words
      0 0) (get_or s.words 1 0) z v w
      → (carried : List (ℕ × Unit {0})) → MeetsRule n (stepped s 2 z id carried w keeps)
  settled_word_step_keeps_rule z moves carried =
      step_keeps_rule 2 _ _ _ z carried (get_or-set_other s.words 2 0 z 0 (λ e. omega arith))
      (get_or-set_other s.words 2 1 z 0 (λ e. omega arith)) (is_set 2 z (omega arith)) moves

  -- what the rule says of the seat that steps
  pub count_is : v.count ≡ n
  count_is = (meets_rule.1.seats_obey_rule id v has_view).count_is_n share_is_positive

  rule_of_count : BoardRule v.count (get_or s.words 0 0) (get_or s.words 1 0) (get_or s.words 2 0)
      s.views
  rule_of_count = rw count_is meets_rule.1

  pub claim_word : IsClaimWord v (get_or s.words 0 0)
  claim_word = (get_or s.words 1 0, get_or s.words 2 0, s.views, rule_of_count, (id, has_view))

  pub floor_word : IsFloorWord v (get_or s.words 1 0)
  floor_word = (get_or s.words 0 0, get_or s.words 2 0, s.views, rule_of_count, (id, has_view))

  pub settled_word : IsSettledWord v (get_or s.words 2 0)
  settled_word = (get_or s.words 0 0, get_or s.words 1 0, s.views, rule_of_count, (id, has_view))

module _ (n floor settled : ℕ) (v : View) (floor_le_seen : floor ≤ v.seen) where
  pub reads_only : (claim : ℕ) → MovesWords n claim floor settled claim floor settled v v
  reads_only claim = search (rules, arith)

  pub claims_number : (x : ℕ) → x < n → v.open_number ≡ None → v.over ≡ false
      → MovesWords n x floor settled (x + 1) floor settled v (record v { open_number = Some x })
  claims_number x x_lt_n nothing_open is_not_over = record {
    count_kept = refl;
    share_kept = refl;
    record_follows_claim_word =
        λ y. grind (arith, common_steps, once_below_moves_by_one y x n x_lt_n);
    record_length_follows_claim_word = grind (arith, common_steps);
    claim_word_rises = omega arith;
    floor_word_falls = omega arith;
    reports_are_kept = λ y. omega arith;
    new_reports_ge_floor = λ y is_more. omega arith;
    floor_kept_or_reported = inl refl;
    settled_word_follows_view = refl;
    new_skips_gt_floor = λ y is_more. omega arith;
    floor_le_seen = floor_le_seen;
    seen_kept_or_floor = inl refl;
    over_kept_or_past_count = λ is_over. inl is_over;
    claim_word_stays_bounded = λ t le_bound. grind (arith, common_steps);
  }

  pub claims_none : (x : ℕ) → n ≤ x → v.over ≡ false → 0 < v.share
      → MovesWords n x floor settled (x + 1) floor settled v (record v { over = true })
  claims_none x n_le_x is_not_over share_is_positive = record {
    count_kept = refl;
    share_kept = refl;
    record_follows_claim_word = λ y. grind (arith, common_steps);
    record_length_follows_claim_word = grind (arith, common_steps);
    claim_word_rises = omega arith;
    floor_word_falls = omega arith;
    reports_are_kept = λ y. omega arith;
    new_reports_ge_floor = λ y is_more. omega arith;
    floor_kept_or_reported = inl refl;
    settled_word_follows_view = refl;
    new_skips_gt_floor = λ y is_more. omega arith;
    floor_le_seen = floor_le_seen;
    seen_kept_or_floor = inl refl;
    over_kept_or_past_count = λ is_over. inr (omega arith);
    claim_word_stays_bounded = λ t le_bound. grind (arith, common_steps);
  }

  pub look_skips : (claim i : ℕ) → floor < i → v.open_number ≡ Some i
      → MovesWords n claim floor settled claim floor settled v
      (record v { open_number = None; skipped = v.skipped ++ i ∷ []; seen = floor })
  look_skips claim i floor_lt_i open_is = record {
    count_kept = refl;
    share_kept = refl;
    record_follows_claim_word = λ y. grind (arith, common_steps, times_in_append);
    record_length_follows_claim_word = grind (arith, common_steps, length-append);
    claim_word_rises = omega arith;
    floor_word_falls = omega arith;
    reports_are_kept = λ y. omega arith;
    new_reports_ge_floor = λ y is_more. omega arith;
    floor_kept_or_reported = inl refl;
    settled_word_follows_view = refl;
    new_skips_gt_floor = λ y is_more. grind (arith, common_steps, nat_tests, times_in_append);
    floor_le_seen = omega arith;
    seen_kept_or_floor = inr refl;
    over_kept_or_past_count = λ is_over. inl is_over;
    claim_word_stays_bounded = λ t le_bound. grind (arith, common_steps);
  }

  pub look_sees : (claim : ℕ) → MovesWords n claim floor settled claim floor settled v (record v {
    seen = floor;
  })
  look_sees claim = search (rules, arith)

  pub settles_number : (claim i : ℕ) → v.open_number ≡ Some i
      → MovesWords n claim floor settled claim floor (settled + 1) v (record v {
        open_number = None;
        settled = v.settled ++ i ∷
            [];
      })
  settles_number claim i open_is = record {
    count_kept = refl;
    share_kept = refl;
    record_follows_claim_word = λ y. grind (arith, common_steps, times_in_append);
    record_length_follows_claim_word = grind (arith, common_steps, length-append);
    claim_word_rises = omega arith;
    floor_word_falls = omega arith;
    reports_are_kept = λ y. omega arith;
    new_reports_ge_floor = λ y is_more. omega arith;
    floor_kept_or_reported = inl refl;
    settled_word_follows_view = omega (arith, length-append v.settled (i ∷ []));
    new_skips_gt_floor = λ y is_more. omega arith;
    floor_le_seen = floor_le_seen;
    seen_kept_or_floor = inl refl;
    over_kept_or_past_count = λ is_over. inl is_over;
    claim_word_stays_bounded = λ t le_bound. grind (arith, common_steps);
  }

  pub reports_number : (claim i : ℕ) → v.open_number ≡ Some i
      → MovesWords n claim floor settled claim (min floor i) settled v
      (record v { open_number = None; reported = v.reported ++ i ∷ []; seen = min floor i })
  reports_number claim i open_is = record {
    count_kept = refl;
    share_kept = refl;
    record_follows_claim_word = λ y. grind (arith, common_steps, times_in_append);
    record_length_follows_claim_word = grind (arith, common_steps, length-append);
    claim_word_rises = omega arith;
    floor_word_falls = omega arith;
    reports_are_kept = λ y. omega (arith, times_in_append y v.reported (i ∷ []));
    new_reports_ge_floor = λ y is_more. grind (arith, common_steps, nat_tests, times_in_append);
    floor_kept_or_reported = elim (cases_lt i floor) [
      | inl i_lt_floor ↦
          let lesser_is_i : min floor i ≡ i = omega arith in
          inr (rw lesser_is_i (grind (arith, nat_tests, times_in_append)))
      | inr floor_le_i ↦ inl (omega arith)
    ];
    settled_word_follows_view = refl;
    new_skips_gt_floor = λ y is_more. omega arith;
    floor_le_seen = omega arith;
    seen_kept_or_floor = inr refl;
    over_kept_or_past_count = λ is_over. inl is_over;
    claim_word_stays_bounded = λ t le_bound. grind (arith, common_steps);
  }
