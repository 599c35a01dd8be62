-- What each step on a word asks of its caller holds.
use Rattle.std.proofs.lemmas.Grind.{common_steps}
use Rattle.std.proofs.Common.{◌≡◌, ℕ, ◌+◌, ◌%◌, ◌^◌, ◌<◌, ◌≤◌, inl, inr, min, false, Option, None}
use Rattle.std.proofs.Common.{Some, [], ◌∷◌, ◌++◌, get_or, refl, arith}
use Rattle.std.proofs.lemmas.Bool.{cases_lt, lt-ltb, le-ltb}
use Rattle.std.proofs.lemmas.List.{append-nil}
use mathlib.Core.Option.{none, some}
use lib.ListN.{get_elem?}
use Rattle.atomic_table.specs.Table.{State, step, keeps, stepped, Allows}
use Rattle.mm_board.proofs.MovingLaw.{MovesWords}
use Rattle.mm_board.specs.declared.views.View.{View}
use Rattle.mm_board.specs.Events.{open_after_look, skipped_by_look, IsSettledWord, after_report}
use Rattle.mm_board.specs.Events.{after_settle, IsClaimWord, IsFloorWord, after_claim, after_look}
use Rattle.mm_board.specs.Table.{MeetsRule, TokenState, StepTells, unchanged_view}
use Rattle.mm_board.proofs.SumsLaw.{over_shares_at_most_shares, settled_at_most_recorded}
use Rattle.mm_board.proofs.StepsLaw.{claim_word_step_keeps_rule, floor_word_step_keeps_rule}
use Rattle.mm_board.proofs.StepsLaw.{settled_word_step_keeps_rule, count_is, claim_word, floor_word}
use Rattle.mm_board.proofs.StepsLaw.{settled_word, reads_only, claims_number, claims_none}
use Rattle.mm_board.proofs.StepsLaw.{look_skips, look_sees, settles_number, reports_number}

look_without_skip : (v : View) (f : ℕ) (o : Option ℕ) → v.open_number ≡ o → open_after_look o f ≡ o
    → skipped_by_look o f ≡ [] → after_look v f ≡ record v { seen = f }
look_without_skip v f o open_number_is open_number_is_kept none_is_skipped =
    grind (arith, common_steps, append-nil)

look_with_skip : (v : View) (f i : ℕ) → v.open_number ≡ Some i → f < i
    → after_look v f ≡ record v { open_number = None; skipped = v.skipped ++ i ∷ []; seen = f }
look_with_skip v f i open_number_is f_lt_i = grind (arith, common_steps, lt-ltb)

seen_is_bounded : (n id : ℕ) (v : View) (s : State (Unit {0}) View) → MeetsRule n s
    → get_elem? s.views id ≡ some v → 0 < v.share → get_or s.words 1 0 ≤ v.seen
seen_is_bounded n id v s meets_rule has_view =
    (meets_rule.1.seats_obey_rule id v has_view).floor_le_seen

pub joined_read_allowed : (n slots id : ℕ) (me : TokenState) → 0 < me.0.share
    → Allows (MeetsRule n) slots id me 0 (λ x. x)
    (StepTells IsClaimWord unchanged_view (step slots 0 0 0 none) me)
joined_read_allowed n slots id me share_is_positive s meets_rule _ has_view _ = (
  me.0,
  keeps,
  tt,
  claim_word_step_keeps_rule n s meets_rule id me.0 me.0 has_view share_is_positive _
      (reads_only n _ _ me.0 (seen_is_bounded n id me.0 s meets_rule has_view share_is_positive) _)
      me.1,
  (refl, refl, claim_word n s meets_rule id me.0 me.0 has_view share_is_positive),
)

pub claim_allowed : (n slots id : ℕ) (me : TokenState) → n ≤ 2 ^ 31 → me.0.open_number ≡ None
    → me.0.over ≡ false → 0 < me.0.share
    → Allows (MeetsRule n) slots id me 0 (λ x. (x + 1) % 2 ^ 64)
    (StepTells IsClaimWord after_claim (step slots 0 1 0 none) me)
claim_allowed n slots id me n_is_bounded nothing_open is_not_over share_is_positive s meets_rule _
    has_view
    _ =
    let x = get_or s.words 0 0 in
    let seen_bound = seen_is_bounded n id me.0 s meets_rule has_view share_is_positive in
    let count_is_n = count_is n s meets_rule id me.0 me.0 has_view share_is_positive in
    let no_wrap : (x + 1) % 2 ^ 64 ≡ x + 1 =
    omega (
      arith,
      over_shares_at_most_shares s.views,
      meets_rule.1.shares_are_most_seats,
      meets_rule.1.claim_word_is_bounded,
    ) in (
      after_claim me.0 x,
      keeps,
      tt,
      rw no_wrap (elim (cases_lt x n) [
        | inl x_lt_n ↦
            rw (lt-ltb x me.0.count (omega arith)) (claim_word_step_keeps_rule n s meets_rule id
            me.0 _ has_view share_is_positive (x + 1)
            (claims_number n _ _ me.0 seen_bound x x_lt_n nothing_open is_not_over) me.1)
        | inr n_le_x ↦
            rw (le-ltb x me.0.count (omega arith)) (claim_word_step_keeps_rule n s meets_rule id
            me.0 _ has_view share_is_positive (x + 1)
            (claims_none n _ _ me.0 seen_bound x n_le_x is_not_over share_is_positive) me.1)
      ]),
      (refl, refl, claim_word n s meets_rule id me.0 me.0 has_view share_is_positive),
    )

pub look_allowed : (n slots id : ℕ) (me : TokenState) → 0 < me.0.share
    → Allows (MeetsRule n) slots id me 1 (λ x. x)
    (StepTells IsFloorWord after_look (step slots 1 0 0 none) me)
look_allowed n slots id me share_is_positive s meets_rule _ has_view _ = (
  after_look me.0 floor,
  keeps,
  tt,
  rule_after_look me.0.open_number refl,
  (refl, refl, floor_word n s meets_rule id me.0 me.0 has_view share_is_positive),
)
  where
    floor : ℕ
    floor = get_or s.words 1 0

    floor_step : (w : View) → after_look me.0 floor ≡ w
        → MovesWords n (get_or s.words 0 0) floor (get_or s.words 2 0) (get_or s.words 0 0) floor
        (get_or s.words 2 0) me.0 w
        → MeetsRule n (stepped s 1 floor id me.1 (after_look me.0 floor) keeps)
    floor_step w view_is moves = rw view_is
        (floor_word_step_keeps_rule n s meets_rule id me.0 w has_view share_is_positive floor moves
        me.1)

    seen_bound : floor ≤ me.0.seen
    seen_bound = seen_is_bounded n id me.0 s meets_rule has_view share_is_positive

    rule_after_look : (o : Option ℕ) → me.0.open_number ≡ o
        → MeetsRule n (stepped s 1 floor id me.1 (after_look me.0 floor) keeps)
    rule_after_look None open_number_is =
        floor_step _ (look_without_skip me.0 floor None open_number_is refl refl)
        (look_sees n _ _ me.0 seen_bound _)
    rule_after_look (Some i) open_number_is = elim (cases_lt floor i) [
      | inl floor_lt_i ↦
          floor_step _ (look_with_skip me.0 floor i open_number_is floor_lt_i)
          (look_skips n _ _ me.0 seen_bound _ i floor_lt_i open_number_is)
      | inr i_le_floor ↦
          floor_step _ (look_without_skip me.0 floor (Some i) open_number_is
          (rw (le-ltb floor i i_le_floor) refl) (rw (le-ltb floor i i_le_floor) refl))
          (look_sees n _ _ me.0 seen_bound _)
    ]

pub report_allowed : (n slots id i : ℕ) (me : TokenState) → me.0.open_number ≡ Some i
    → 0 < me.0.share → Allows (MeetsRule n) slots id me 1 (λ x. min x i) (StepTells IsFloorWord
    after_report (step slots 1 i 0 none) me)
report_allowed n slots id i me open_number_is share_is_positive s meets_rule _ has_view _ = (
  after_report me.0 (get_or s.words 1 0),
  keeps,
  tt,
  rw open_number_is (floor_word_step_keeps_rule n s meets_rule id me.0 _ has_view
      share_is_positive _ (reports_number n _ _ me.0
      (seen_is_bounded n id me.0 s meets_rule has_view share_is_positive) _ i open_number_is) me.1),
  (refl, refl, floor_word n s meets_rule id me.0 me.0 has_view share_is_positive),
)

pub settle_allowed : (n slots id i : ℕ) (me : TokenState) → n ≤ 2 ^ 31
    → me.0.open_number ≡ Some i → 0 < me.0.share
    → Allows (MeetsRule n) slots id me 2 (λ x. (x + 1) % 2 ^ 64)
    (StepTells IsSettledWord after_settle (step slots 2 1 0 none) me)
settle_allowed n slots id i me n_is_bounded open_number_is share_is_positive s meets_rule _ has_view
    _ =
    let d = get_or s.words 2 0 in
    let no_wrap : (d + 1) % 2 ^ 64 ≡ d + 1 =
    omega (
      arith,
      settled_at_most_recorded s.views,
      meets_rule.1.record_lengths_are_claimed,
      meets_rule.1.settled_word_is_count,
    ) in (
      after_settle me.0 d,
      keeps,
      tt,
      rw (no_wrap, open_number_is) (settled_word_step_keeps_rule n s meets_rule id me.0 _ has_view
          share_is_positive (d + 1) (settles_number n _ d me.0
          (seen_is_bounded n id me.0 s meets_rule has_view share_is_positive) _ i open_number_is)
          me.1),
      (refl, refl, settled_word n s meets_rule id me.0 me.0 has_view share_is_positive),
    )
