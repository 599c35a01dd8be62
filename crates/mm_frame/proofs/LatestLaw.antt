-- How the last active statement of a kind is found, and the others from it.
use Rattle.std.proofs.lemmas.Grind.{common_steps}
use Rattle.std.proofs.Common.{◌≡◌, ◌≢◌, ℕ, ◌+◌, ◌<◌, ◌≤◌, Bool, true, false, ◌&&◌, ◌||◌, cond, List}
use Rattle.std.proofs.Common.{[], ◌∷◌, ◌++◌, length, nat_eq, nat_lt, sym, ap, ap₂, ◌∙◌, arith, ◌⊎◌}
use Rattle.std.proofs.Common.{inl, inr, true≢false, eqb-true, get_or, length-append}
use Rattle.std.proofs.lemmas.Bool.{cases_lt, cases_order, and_parts, or_cases, false_from_ne_true}
use Rattle.std.proofs.lemmas.List.{get_or_append_left, get_or_push}
use Rattle.std.proofs.Common.{Option, Some, None, slice_get}
use Rattle.std.proofs.lemmas.Option.{same_Some}
use Rattle.std.proofs.Math.Bool.{or-false}
use Rattle.std.specs.List.{list_any}
use Rattle.std.specs.Option.{option_map}
use Rattle.mm_database.specs.Kinds.{kind_of}
use Rattle.mm_outline.specs.declared.parts.Kind.{Kind}
use Rattle.std.proofs.lemmas.Bool.Decides.{nat_tests}
use Rattle.mm_spec.specs.Statement.{Statement}
use Rattle.mm_spec.specs.Scope.{statement_at, is_block_open}
use Rattle.mm_spec.specs.Derivation.{is_member}
use Rattle.mm_spec.specs.Frame.{active_of}
use Rattle.mm_spec.proofs.BoolLaw.{same_tests}
use Rattle.mm_spec.proofs.MemberLaw.{member_push, IsLocalTest, active_member}
use Rattle.mm_outline.specs.Blocks.{never}
use Rattle.mm_frame.specs.Latest.{is_staying, IsCandidate, IsLatest, is_part, is_part_kind}
use Rattle.mm_frame.proofs.NestedLaw.{open_at_earlier, open_at_nested}

-- how far the search still has to go
abbrev pub height : ℕ → ℕ
height last = cond (nat_eq last never) 0 (last + 1)

module _ (test : Statement → Bool) (db : List Statement) where
  -- what stays until `k` stays until an earlier statement
  pub staying_at_earlier : (i j k : ℕ) → i ≤ j → j ≤ k → is_staying test db i k ≡ true
      → is_staying test db i j ≡ true
  staying_at_earlier i j k i_le_j j_le_k i_stays_at_k =
      ap₂ (λ a b. a && b)
      (and_parts (list_any test (statement_at db i)) (is_block_open db i k) i_stays_at_k).0
      (open_at_earlier db i j k i_le_j j_le_k
      (and_parts (list_any test (statement_at db i)) (is_block_open db i k) i_stays_at_k).1)

  -- while a statement stays, an earlier one stays exactly if it stayed before that one
  pub staying_at_nested : (i j k : ℕ) → i < j → j ≤ k → is_staying test db j k ≡ true
      → is_staying test db i k ≡ is_staying test db i j
  staying_at_nested i j k i_lt_j j_le_k j_stays_at_k =
      ap (λ b. list_any test (statement_at db i) && b)
      (open_at_nested db i j k i_lt_j j_le_k
      (and_parts (list_any test (statement_at db j)) (is_block_open db j k) j_stays_at_k).1)

  -- a candidate that is not open gives way to the last one active at it
  pub candidate_at_latest : (k last earlier : ℕ) → IsCandidate test db k last → last ≢ never
      → is_block_open db last k ≡ false → IsLatest test db last earlier → IsCandidate test db k
      earlier
  candidate_at_latest k last earlier is_candidate last_ne_never last_is_closed is_latest = record {
    last_is_of_kind =
        λ earlier_ne_never. let earlier_is_found = is_latest.last_is_staying earlier_ne_never in
        let last_is_candidate = is_candidate.last_is_of_kind last_ne_never in (
          (let earlier_lt_last = earlier_is_found.0 in let last_lt_k = last_is_candidate.0 in
              omega (arith, earlier_lt_last, last_lt_k)),
          (and_parts
              (list_any test (statement_at db earlier))
              (is_block_open db earlier last) earlier_is_found.1).0,
        );
    later_are_not_staying = λ i i_lt_k later_than_next. elim (cases_order i last) [
      | inl i_is_last ↦ rw i_is_last (grind (arith, last_is_closed))
      | inr (inl i_lt_last) ↦ false_from_ne_true (is_staying test db i k) (λ i_stays. true≢false
          (sym (staying_at_earlier i last k (omega arith)
          (let last_lt_k = (is_candidate.last_is_of_kind last_ne_never).0 in omega (
            arith,
            last_lt_k,
          ))
          i_stays)
          ∙ is_latest.later_are_not_staying i i_lt_last later_than_next))
      | inr (inr last_lt_i) ↦ is_candidate.later_are_not_staying i i_lt_k (inl last_lt_i)
    ];
  }

  -- the statement itself, or the last one at it
  pub statement_is_candidate : (k : ℕ) → k < never → list_any test (statement_at db k) ≡ true
      → IsCandidate test db (k + 1) k
  statement_is_candidate k k_lt_never k_is_of_kind = record {
    last_is_of_kind = λ k_ne_never. ((omega arith), k_is_of_kind);
    later_are_not_staying =
        λ i i_lt_next later_than_k. absurd (none_is_later i i_lt_next later_than_k);
  }
    where
      none_is_later : (i : ℕ) → i < k + 1 → (k < i) ⊎ (k ≡ never) → ⊥
      none_is_later i i_lt_next (inl k_lt_i) = omega arith
      none_is_later i i_lt_next (inr k_is_never) = omega arith

  -- if a statement fails the test, the latest before it is a candidate after it
  pub latest_is_candidate_after_other : (k last : ℕ) → list_any test (statement_at db k) ≡ false
      → IsLatest test db k last → IsCandidate test db (k + 1) last
  latest_is_candidate_after_other k last k_is_other is_latest = record {
    last_is_of_kind =
        λ last_ne_never. let last_is_found_here = is_latest.last_is_staying last_ne_never in (
          (let last_lt_k = last_is_found_here.0 in omega (arith, last_lt_k)),
          (and_parts (list_any test (statement_at db last))
              (is_block_open db last k) last_is_found_here.1).0,
        );
    later_are_not_staying =
        λ i i_lt_next later_than_last. elim (cases_lt i k) [
          | inl i_lt_k ↦ false_from_ne_true (is_staying test db i (k + 1)) (λ i_stays. true≢false
              (sym (staying_at_earlier i k (k + 1) (omega arith) (omega arith) i_stays)
              ∙ is_latest.later_are_not_staying i i_lt_k later_than_last))
          | inr k_le_i ↦
              let i_is_k : i ≡ k = omega (arith, k_le_i, i_lt_next) in
              rw i_is_k (grind (arith, k_is_other))
        ];
  }

  -- ---- the walk

  -- the list has only ones that are active at k, and all of these that are after `last`
  pub record IsWalked (k : ℕ) (xs : List ℕ) (last : ℕ) : Type 0 where
    -- the latest, if there is one, stands before `k` and stays until `k`
    pub last_is_staying : last ≢ never → (last < k) × (is_staying test db last k ≡ true)
    pub members_are_staying : (i : ℕ) → is_member xs i ≡ true
        → (i < k) × (is_staying test db i k ≡ true)
    pub staying_are_members : (i : ℕ) → i < k → is_staying test db i k ≡ true
        → (is_member xs i ≡ true) ⊎ ((last ≢ never) × (i ≤ last))

  -- the walk goes on with an earlier statement
  pub walked_with_last : (k : ℕ) (xs : List ℕ) (last earlier : ℕ) → k ≤ length db
      → IsWalked k xs last → last ≢ never → IsLatest test db last earlier
      → IsWalked k (xs ++ last ∷ []) earlier
  walked_with_last k xs last earlier k_le_length is_walked last_ne_never is_latest = record {
    last_is_staying =
        λ earlier_ne_never. let earlier_is_found = is_latest.last_is_staying earlier_ne_never in
        let last_lt_k = last_stays.0 in (
          (let earlier_lt_last = earlier_is_found.0 in omega (arith, earlier_lt_last, last_lt_k)),
          staying_at_nested earlier last k earlier_is_found.0 (omega (arith, last_lt_k))
              last_stays.1
              ∙ earlier_is_found.1,
        );
    members_are_staying = λ i holds. member_is_staying i holds;
    staying_are_members =
        λ i i_lt_k holds. staying_is_member i i_lt_k holds
        (is_walked.staying_are_members i i_lt_k holds);
  }
    where
      last_stays : (last < k) × (is_staying test db last k ≡ true)
      last_stays = is_walked.last_is_staying last_ne_never

      member_is_staying : (i : ℕ) → is_member (xs ++ last ∷ []) i ≡ true
          → (i < k) × (is_staying test db i k ≡ true)
      member_is_staying i i_is_member =
          elim (or_cases (is_member xs i) (nat_eq i last) (sym (member_push xs last i)
          ∙ i_is_member)) [
            | inl in_xs ↦ is_walked.members_are_staying i in_xs
            | inr is_last ↦ rw (eqb-true i last is_last) last_stays
          ]

      staying_is_member : (i : ℕ) → i < k → is_staying test db i k ≡ true
          → (is_member xs i ≡ true) ⊎ ((last ≢ never) × (i ≤ last))
          → (is_member (xs ++ last ∷ []) i ≡ true) ⊎ ((earlier ≢ never) × (i ≤ earlier))
      staying_is_member i i_lt_k staying_at_k (inl in_xs) = inl (member_push xs last i
          ∙ ap (λ b. b || nat_eq i last) in_xs)
      staying_is_member i i_lt_k staying_at_k (inr (last_ne_never, i_le_last)) =
          elim (cases_lt i last) [
            | inr last_le_i ↦ inl (grind (arith, nat_tests, member_push xs last i))
            | inl i_lt_last ↦
                let last_lt_k = last_stays.0 in
                let stays_at_last = staying_at_earlier i last k (omega arith)
                (omega (arith, last_lt_k)) staying_at_k in
                let not_after : (earlier < i) ⊎ (earlier ≡ never) → ⊥ = λ after. true≢false
                (sym stays_at_last ∙ is_latest.later_are_not_staying i i_lt_last after) in
                elim (cases_lt earlier i) [
                  | inl earlier_lt_i ↦ absurd (not_after (inl earlier_lt_i))
                  | inr i_le_earlier ↦
                      inr (λ earlier_is_never. not_after (inr earlier_is_never), i_le_earlier)
                ]
          ]

  -- the whole walk has the active statements that pass the test
  pub walked_is_active : IsLocalTest test → (k : ℕ) (xs : List ℕ) (last : ℕ) → IsWalked k xs last
      → last ≡ never → (i : ℕ) → is_member xs i ≡ is_member (active_of test db k) i
  walked_is_active is_local k xs last is_walked last_is_never i =
      same_tests (is_member xs i) (nat_lt i k && is_staying test db i k)
      (λ in_xs. let (i_lt_k, i_stays) = is_walked.members_are_staying i in_xs in
      grind (arith, nat_tests, i_lt_k, i_stays))
      (λ is_active. let stays : is_staying test db i k ≡ true = grind (arith, is_active) in
      elim (is_walked.staying_are_members i (grind (arith, nat_tests, is_active)) stays) [
        | inl in_xs ↦ in_xs
        | inr (last_ne_never, _) ↦ absurd (last_ne_never last_is_never)
      ])
      ∙ sym (active_member test db is_local k i)

-- a list of the latest statements stays such with that at the next statement
pub each_latest_with_next : (test : Statement → Bool) (db : List Statement) (xs ys : List ℕ)
    (last k : ℕ)
    → length xs ≡ k + 1 → ys ≡ xs ++ last ∷ []
    → ((i : ℕ) → i ≤ k → IsLatest test db i (get_or xs i 0)) → IsLatest test db (k + 1) last
    → record {
      count : length ys ≡ k + 1 + 1;
      each_is_latest : (i : ℕ) → i ≤ k + 1 → IsLatest test db i (get_or ys i 0);
    }
each_latest_with_next test db xs ys last k length_is ys_are_pushed latest_before latest_at_next =
    grind (arith, common_steps, length-append, cases_lt, get_or_append_left, get_or_push)

-- whether a statement counts shows by its kind
kind_counts : (essentials_alone : Bool) (s : Statement)
    → is_part essentials_alone s ≡ is_part_kind essentials_alone (kind_of s)
kind_counts true s = grind (arith, common_steps)
kind_counts false s = grind (arith, common_steps)

pub part_at : (essentials_alone : Bool) (db : List Statement) (k : ℕ) (kind : Kind)
    → option_map kind_of (slice_get db k) ≡ Some kind
    → is_part_kind essentials_alone kind
    ≡ list_any (is_part essentials_alone) (statement_at db k)
part_at essentials_alone db k kind kind_is = at (slice_get db k) kind_is
  where
    at : (o : Option Statement) → option_map kind_of o ≡ Some kind
        → is_part_kind essentials_alone kind
        ≡ list_any (is_part essentials_alone) (elim o [ None ↦ [] | Some s ↦ s ∷ [] ])
    at None kind_is = absurd (cc)
    at (Some s) kind_is =
        sym (or-false (is_part essentials_alone s)
        ∙ kind_counts essentials_alone s
        ∙ ap (is_part_kind essentials_alone) (same_Some _ _ kind_is))
