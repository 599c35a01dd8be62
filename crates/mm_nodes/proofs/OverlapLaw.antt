-- Strings that lie over each other, and what is left to be shown of them.
use Rattle.std.proofs.lemmas.Grind.{common_steps}
use Rattle.std.proofs.Common.{◌≡◌, ℕ, ◌+◌, ◌-◌, ◌<◌, ◌≤◌, ◌⊎◌, inl, inr, List, [], ◌∷◌, ◌++◌}
use Rattle.std.proofs.Common.{length, get_or, set, slice_range, refl, sym, ap, ap₂, ◌∙◌, subst}
use Rattle.std.proofs.Common.{arith, All, length-append, append-nil, bytes_eq, true, false, Bool}
use Rattle.std.proofs.Common.{eqb, eqb-true, ◌&&◌, Result, OnOk}
use Rattle.std.proofs.lemmas.List.{append_assoc, ext_get_or, get_or_append_left, get_or-append-add}
use Rattle.std.proofs.lemmas.List.Elements.{All-nil, All-cons, All-head, All-tail, All-append}
use Rattle.std.proofs.lemmas.List.Elements.{All-push, All-set, All-weaker}
use Rattle.std.proofs.lemmas.Slice.Eq.{bytes_eq-Decides}
use Rattle.std.proofs.lemmas.Bool.{cases_lt, and_parts}
use Rattle.mm_nodes.specs.declared.heads.Head.{Head}
use Rattle.mm_nodes.specs.declared.heads.Segment.{Segment}
use Rattle.mm_nodes.specs.declared.facts.Overlap.{Overlap}
use Rattle.mm_nodes.specs.Strings.{first_node, string_of, strings_of, IsBody}
use Rattle.mm_nodes.specs.Store.{nodes_of, AreNodes, IsBodySegment, IsSegmentOf, segment_bodies}
use Rattle.mm_nodes.specs.Store.{segment_string, segment}
use Rattle.mm_nodes.specs.Overlaps.{Agree, Holds, IsOverlap, HoldBelow, Comes}
use Rattle.mm_nodes.proofs.StoreLaw.{node_at, length_nodes}
use Rattle.mm_nodes.proofs.WalkLaw.{node_is_opened, string_splits, string_is_empty, slice_is_cons}
use Rattle.mm_nodes.proofs.WalkLaw.{body_in_range, rest_is_in, symbol_string, equal_if_same}

-- ---- strings that agree

module _ (u v : List ℕ) where
  pub agree_if_equal : u ≡ v → Agree u 0 v 0
  agree_if_equal same n p_le n_lt q_le n_lt_q = ap (λ w. get_or w (n - 0) 0) same

  pub equal_if_agree : length u ≡ length v → Agree u 0 v 0 → u ≡ v
  equal_if_agree lengths_equal agree =
      ext_get_or 0 u v lengths_equal
      (λ i i_lt.
      let i_is : i - 0 ≡ i = omega arith in
      sym (ap (λ j. get_or u j 0) i_is)
      ∙ agree i (omega arith) (omega (arith, i_lt)) (omega arith)
      (omega (arith, i_lt, lengths_equal))
      ∙ ap (λ j. get_or v j 0) i_is)

  pub same_if_agree : length u ≡ length v → Agree u 0 v 0 → true ≡ bytes_eq v u
  same_if_agree lengths_equal agree =
      equal_if_same v u (sym (equal_if_agree lengths_equal agree))

  pub different_if_not_agree : (Agree u 0 v 0 → ⊥) → false ≡ bytes_eq v u
  different_if_not_agree differ = by_test (bytes_eq v u) refl
    where
      by_test : (t : Bool) → bytes_eq v u ≡ t → false ≡ t
      by_test false is = refl
      by_test true is = absurd (differ (agree_if_equal (sym ((bytes_eq-Decides v u).0 is))))

  module _ (p q : ℕ) where
    pub agree_turned : Agree u p v q → Agree v q u p
    agree_turned agree n q_le n_lt_q p_le n_lt_p = sym (agree n p_le n_lt_p q_le n_lt_q)

    -- the second ends before the first begins
    pub agree_apart : q + length v ≤ p → Agree u p v q
    agree_apart apart n p_le n_lt_p q_le n_lt_q = absurd (omega (arith, apart, p_le, n_lt_q))

    -- both begin at other indices that are as far from each other
    module _ (offset : ℕ) (q_is : p + offset ≡ q) where
      pub agree_moved : Agree u 0 v offset → Agree u p v q
      agree_moved agree n p_le n_lt_p q_le n_lt_q =
          let i_is : n - p ≡ (n - p) - 0 = omega arith in
          let j_is : (n - p) - offset ≡ n - q = omega (arith, q_is) in
          ap (λ i. get_or u i 0) i_is
          ∙ agree (n - p) (omega arith) (omega (arith, p_le, n_lt_p))
          (omega (arith, q_is, q_le)) (omega (arith, q_is, p_le, n_lt_q))
          ∙ ap (λ j. get_or v j 0) j_is

      pub agree_moved_back : Agree u p v q → Agree u 0 v offset
      agree_moved_back agree n p_le n_lt_p q_le n_lt_q =
          let i_is : n - 0 ≡ (n + p) - p = omega arith in
          let j_is : (n + p) - q ≡ n - offset = omega (arith, q_is) in
          ap (λ i. get_or u i 0) i_is
          ∙ agree (n + p) (omega arith) (omega (arith, n_lt_p))
          (omega (arith, q_is, q_le)) (omega (arith, q_is, n_lt_q))
          ∙ ap (λ j. get_or v j 0) j_is

-- one of the strings is put together from two
module _ (u w : List ℕ) (p : ℕ) (v : List ℕ) (q : ℕ) where
  index_behind : (n : ℕ) → p + length u ≤ n
      → get_or (u ++ w) (n - p) 0 ≡ get_or w (n - (p + length u)) 0
  index_behind n behind =
      let i_is : n - p ≡ length u + (n - (p + length u)) = omega (arith, behind) in
      ap (λ i. get_or (u ++ w) i 0) i_is ∙ get_or-append-add u w (n - (p + length u)) 0

  pub agree_joined : Agree u p v q → Agree w (p + length u) v q → Agree (u ++ w) p v q
  agree_joined first second n p_le n_lt q_le n_lt_q = by_case (cases_lt n (p + length u))
    where
      by_case : (n < p + length u) ⊎ (p + length u ≤ n)
          → get_or (u ++ w) (n - p) 0 ≡ get_or v (n - q) 0
      by_case (inl before) =
          get_or_append_left u w 0 (n - p) (omega (arith, before, p_le)) ∙ first n p_le before q_le
          n_lt_q
      by_case (inr behind) =
          index_behind n behind
          ∙ second n behind (omega (arith, n_lt, length-append u w)) q_le n_lt_q

  pub agree_front : Agree (u ++ w) p v q → Agree u p v q
  agree_front agree n p_le n_lt q_le n_lt_q =
      sym (get_or_append_left u w 0 (n - p) (omega (arith, n_lt, p_le)))
      ∙ agree n p_le (omega (arith, n_lt, length-append u w)) q_le n_lt_q

  pub agree_behind : Agree (u ++ w) p v q → Agree w (p + length u) v q
  agree_behind agree n p_le n_lt q_le n_lt_q =
      sym (index_behind n p_le)
      ∙ agree n (omega (arith, p_le)) (omega (arith, n_lt, length-append u w)) q_le n_lt_q

-- two overlaps that a test finds to be equal
pub same_overlap : (o p : Overlap)
    → (eqb o.first p.first && (eqb o.offset p.offset && eqb o.second p.second)) ≡ true → o ≡ p
same_overlap o p test = grind (arith, common_steps, and_parts, eqb, eqb-true)

pub holds_of_itself : (nodes : List (List ℕ)) (o : Overlap) → o.offset ≡ 0 → o.first ≡ o.second
    → Holds nodes o
holds_of_itself nodes o no_offset same = grind (arith, common_steps)

-- what an overlap says of bodies that begin at two indices
module _ (nodes : List (List ℕ)) (o : Overlap) (a b p q : ℕ) (first_is : o.first ≡ a)
    (second_is : o.second ≡ b) (q_is : p + o.offset ≡ q) where
  pub agree_if_holds : Holds nodes o → Agree (string_of nodes a) p (string_of nodes b) q
  agree_if_holds holds =
      agree_moved (string_of nodes a) (string_of nodes b) p q o.offset q_is
      (subst (λ (y : ℕ). Agree (string_of nodes a) 0 (string_of nodes y) o.offset) second_is
      (subst (λ (x : ℕ). Agree (string_of nodes x) 0 (string_of nodes o.second) o.offset) first_is
      holds))

  pub holds_if_agree : Agree (string_of nodes a) p (string_of nodes b) q → Holds nodes o
  holds_if_agree agree =
      subst (λ (x : ℕ). Agree (string_of nodes x) 0 (string_of nodes o.second) o.offset)
      (sym first_is)
      (subst (λ (y : ℕ). Agree (string_of nodes a) 0 (string_of nodes y) o.offset) (sym second_is)
      (agree_moved_back (string_of nodes a) (string_of nodes b) p q o.offset q_is agree))

-- ---- what a statement comes to

all_front : {X : Type 0} (P : X → Type 0) (xs ys : List X) → All P (xs ++ ys) → All P xs
all_front P [] ys all = All-nil P
all_front P (x ∷ xs) ys all =
    All-cons P x xs (All-head P x (xs ++ ys) all) (all_front P xs ys (All-tail P x (xs ++ ys) all))

all_behind : {X : Type 0} (P : X → Type 0) (xs ys : List X) → All P (xs ++ ys) → All P ys
all_behind P [] ys all = all
all_behind P (x ∷ xs) ys all = all_behind P xs ys (All-tail P x (xs ++ ys) all)

pub all_last : {X : Type 0} (P : X → Type 0) (ys xs : List X) (x : X) → ys ≡ xs ++ x ∷ [] → All P ys
    → P x
all_last P ys xs x ys_is all = All-head P x [] (all_behind P xs (x ∷ []) (subst (All P) ys_is all))

hold_below : (nodes : List (List ℕ)) (n : ℕ) (os : List Overlap) → All (Holds nodes) os
    → HoldBelow nodes n os
hold_below nodes n os hold = grind (arith, common_steps, All-weaker)

module _ {nodes : List (List ℕ)} {n : ℕ} where
  pub comes_to_nothing : {Statement : Type 0} {pending seen : List Overlap}
      → (HoldBelow nodes n seen → Statement)
      → Comes nodes n Statement pending pending seen seen
  comes_to_nothing {pending = pending} known = record {
    added = [];
    pending_is = sym (append-nil pending);
    are_overlaps = All-nil (IsOverlap nodes);
    are_below = All-nil (λ o. o.first + o.second < n);
    is_enough = λ added_hold seen_hold. known seen_hold;
    is_needed = λ statement. All-nil (Holds nodes);
    seen_hold = λ m seen_hold added_hold. seen_hold;
  }

  pub comes_to_itself : (o : Overlap) {pending pending' seen seen' : List Overlap} (slot : ℕ)
      → IsOverlap nodes o → o.first + o.second < n → pending' ≡ pending ++ o ∷ []
      → seen' ≡ set seen slot o → Comes nodes n (Holds nodes o) pending pending' seen seen'
  comes_to_itself o {seen = seen} slot is_overlap below pending_is seen_is = record {
    added = o ∷ [];
    pending_is = pending_is;
    are_overlaps = All-cons (IsOverlap nodes) o [] is_overlap (All-nil (IsOverlap nodes));
    are_below = All-cons (λ o. o.first + o.second < n) o [] below
        (All-nil (λ o. o.first + o.second < n));
    is_enough = λ added_hold seen_hold. All-head (Holds nodes) o [] added_hold;
    is_needed = λ holds. All-cons (Holds nodes) o [] holds (All-nil (Holds nodes));
    seen_hold = λ m seen_hold added_hold.
        subst (HoldBelow nodes m) (sym seen_is)
        (All-set (λ o. o.first + o.second < m → Holds nodes o) seen slot o
        (All-head (λ o. o.first + o.second < m → Holds nodes o) o [] added_hold) seen_hold);
  }

  module _ {First : Type 0} {pending pending' seen seen' : List Overlap}
      (first : Comes nodes n First pending pending' seen seen') {Both : Type 0} where
    pub comes_to_same : (First → Both) → (Both → First)
        → Comes nodes n Both pending pending' seen seen'
    comes_to_same is_enough is_needed = record {
      added = first.added;
      pending_is = first.pending_is;
      are_overlaps = first.are_overlaps;
      are_below = first.are_below;
      is_enough = λ added_hold seen_hold. is_enough (first.is_enough added_hold seen_hold);
      is_needed = λ both. first.is_needed (is_needed both);
      seen_hold = first.seen_hold;
    }

    pub comes_to_both : {Second : Type 0} {pending'' seen'' : List Overlap}
        → Comes nodes n Second pending' pending'' seen' seen''
        → (First → Second → Both) → (Both → First) → (Both → Second)
        → Comes nodes n Both pending pending'' seen seen''
    comes_to_both second are_enough first_needed second_needed = record {
      added = first.added ++ second.added;
      pending_is =
          second.pending_is ∙ ap (λ os. os ++ second.added) first.pending_is
          ∙ append_assoc pending first.added second.added;
      are_overlaps =
          All-append (IsOverlap nodes) first.added second.added first.are_overlaps
          second.are_overlaps;
      are_below =
          All-append (λ o. o.first + o.second < n) first.added second.added first.are_below
          second.are_below;
      is_enough = λ added_hold seen_hold.
          let first_hold = all_front (Holds nodes) first.added second.added added_hold in
          are_enough (first.is_enough first_hold seen_hold)
          (second.is_enough (all_behind (Holds nodes) first.added second.added added_hold)
          (first.seen_hold n seen_hold (hold_below nodes n first.added first_hold)));
      is_needed = λ both.
          All-append (Holds nodes) first.added second.added (first.is_needed (first_needed both))
          (second.is_needed (second_needed both));
      seen_hold = λ m seen_hold added_hold.
          second.seen_hold m
          (first.seen_hold m seen_hold
          (all_front (λ o. o.first + o.second < m → Holds nodes o) first.added second.added
          added_hold))
          (all_behind (λ o. o.first + o.second < m → Holds nodes o) first.added second.added
          added_hold);
    }

-- ---- what is left to be shown

-- A statement holds if all that is pending does, and only then. What was seen holds if what is
-- pending does; a smaller part of what was seen needs only a smaller part of what is pending.
pub record ComesToPending (nodes : List (List ℕ)) (Statement : Type 0) (pending seen : List Overlap)
    : Type 0 where
  pub are_overlaps : All (IsOverlap nodes) pending
  pub is_enough : All (Holds nodes) pending → Statement
  pub is_needed : Statement → All (Holds nodes) pending
  pub seen_hold : (n : ℕ) → HoldBelow nodes n pending → HoldBelow nodes n seen

module _ {nodes : List (List ℕ)} {Statement : Type 0} {pending pending' seen seen' : List Overlap}
  where
    pub pending_first : {n : ℕ} → pending ≡ [] → All (Holds nodes) seen
        → Comes nodes n Statement pending pending' seen seen'
        → ComesToPending nodes Statement pending' seen'
    pending_first {n = n} none hold comes =
        let pending_is : pending' ≡ comes.added = comes.pending_is ∙ ap (λ os. os ++ comes.added)
        none in
        subst (λ (os : List Overlap). ComesToPending nodes Statement os seen') (sym pending_is)
        (record {
          are_overlaps = comes.are_overlaps;
          is_enough = λ added_hold. comes.is_enough added_hold (hold_below nodes n seen hold);
          is_needed = comes.is_needed;
          seen_hold = λ m added_hold. comes.seen_hold m (hold_below nodes m seen hold) added_hold;
        })

    module _ (o : Overlap) (stands : ComesToPending nodes Statement (pending ++ o ∷ []) seen)
        (comes : Comes nodes (o.first + o.second) (Holds nodes o) pending pending' seen seen') where
      Below : ℕ → Overlap → Type 0
      Below n p = p.first + p.second < n → Holds nodes p

      -- what was put off holds, and so does what it comes to
      it_holds : HoldBelow nodes (o.first + o.second) pending → All (Holds nodes) comes.added
          → Holds nodes o
      it_holds below added_hold =
          comes.is_enough added_hold
          (stands.seen_hold (o.first + o.second)
          (All-push (λ p. p.first + p.second < o.first + o.second → Holds nodes p) pending o below
          (λ less. absurd (omega (arith, less)))))

      pub pending_next : ComesToPending nodes Statement pending' seen'
      pending_next =
          subst (λ (os : List Overlap). ComesToPending nodes Statement os seen')
          (sym comes.pending_is)
          (record {
            are_overlaps =
                All-append (IsOverlap nodes) pending comes.added
                (all_front (IsOverlap nodes) pending (o ∷ []) stands.are_overlaps)
                comes.are_overlaps;
            is_enough = λ hold.
                let before = all_front (Holds nodes) pending comes.added hold in
                stands.is_enough (All-push (Holds nodes) pending o before
                (it_holds (hold_below nodes (o.first + o.second) pending before)
                (all_behind (Holds nodes) pending comes.added hold)));
            is_needed = λ statement.
                let hold = stands.is_needed statement in
                All-append (Holds nodes) pending comes.added
                (all_front (Holds nodes) pending (o ∷ []) hold)
                (comes.is_needed (All-head (Holds nodes) o []
                (all_behind (Holds nodes) pending (o ∷ []) hold)));
            seen_hold = λ n hold. seen_below n hold (cases_lt (o.first + o.second) n);
          })
        where
          seen_below : (n : ℕ) → HoldBelow nodes n (pending ++ comes.added)
              → (o.first + o.second < n) ⊎ (n ≤ o.first + o.second) → HoldBelow nodes n seen'
          seen_below n hold (inl less) =
              let before = all_front (λ p. p.first + p.second < n → Holds nodes p) pending
              comes.added
              hold in
              let added = all_behind (λ p. p.first + p.second < n → Holds nodes p) pending
              comes.added
              hold in
              comes.seen_hold n
              (stands.seen_hold n
              (All-push (λ p. p.first + p.second < n → Holds nodes p) pending o before
              (λ o_less.
              it_holds
              (All-weaker (λ p. p.first + p.second < n → Holds nodes p)
              (λ p. p.first + p.second < o.first + o.second → Holds nodes p)
              (λ p holds p_less. holds (omega (arith, p_less, less))) pending before)
              (λ k d k_lt. added k d k_lt (let k_less = comes.are_below k d k_lt in omega (
                arith,
                k_less,
                less,
              ))))))
              added
          seen_below n hold (inr not_less) =
              comes.seen_hold n
              (stands.seen_hold n
              (All-push (λ p. p.first + p.second < n → Holds nodes p) pending o
              (all_front (λ p. p.first + p.second < n → Holds nodes p) pending comes.added hold)
              (λ o_less. absurd (omega (arith, o_less, not_less)))))
              (all_behind (λ p. p.first + p.second < n → Holds nodes p) pending comes.added hold)

-- ---- the parts of one string, over another

-- Of bodies, the strings of the first stand before index `at`, and the rest is left. That the first
-- agree with the other body comes to what was added.
pub record PartsBefore (bodies : List ℕ) (heads : List Head) (parts : Segment)
    (start other other_start : ℕ) (pending pending' seen seen' : List Overlap) (rest : Segment)
    (at : ℕ) : Type 0 where
  pub before : List ℕ
  pub string_is : before ++ segment_string bodies heads rest ≡ segment_string bodies heads parts
  pub at_is : at ≡ start + length before
  pub is_segment : IsBodySegment bodies heads rest
  pub are_below : (n : ℕ) → All (λ b. b + other < n) (segment_bodies bodies parts)
      → All (λ b. b + other < n) (segment_bodies bodies rest)
  pub comes : (n : ℕ) → All (λ b. b + other < n) (segment_bodies bodies parts)
      → Comes (nodes_of bodies heads) n
      (Agree before start (string_of (nodes_of bodies heads) other) other_start)
      pending pending' seen seen'

module _ {bodies : List ℕ} {heads : List Head} {parts : Segment} {start other other_start : ℕ} where
  pub no_parts_before : {pending seen : List Overlap} → IsBodySegment bodies heads parts
      → PartsBefore bodies heads parts start other other_start pending pending seen seen parts start
  no_parts_before is_segment = record {
    before = [];
    string_is = refl;
    at_is = omega arith;
    is_segment = is_segment;
    are_below = λ n below. below;
    comes = λ n below.
        comes_to_nothing
        (λ seen_hold m start_le m_lt q_le m_lt_q. absurd (omega (arith, start_le, m_lt)));
  }

  module _ {pending pending' seen seen' : List Overlap} {rest : Segment} {at : ℕ}
      (done : PartsBefore bodies heads parts start other other_start pending pending' seen seen'
      rest at) where
    module _ (start_lt : rest.start < rest.end) (b : ℕ) (b_is : b ≡ get_or bodies rest.start 0)
        (at' : ℕ) (at_is : at' ≡ at + length (string_of (nodes_of bodies heads) b)) where
      rest_string : segment_string bodies heads rest
          ≡ string_of (nodes_of bodies heads) b
          ++ segment_string bodies heads (segment (rest.start + 1) rest.end)
      rest_string =
          rw b_is (string_splits [] bodies heads rest start_lt done.is_segment.end_le_length)

      rest_bodies : segment_bodies bodies rest
          ≡ b ∷ segment_bodies bodies (segment (rest.start + 1) rest.end)
      rest_bodies =
          rw b_is (slice_is_cons bodies rest.start rest.end start_lt done.is_segment.end_le_length)

      module _ {pending'' seen'' : List Overlap} where
        more_parts : ((n : ℕ) → b + other < n
            → Comes (nodes_of bodies heads) n
            (Agree (string_of (nodes_of bodies heads) b) at
            (string_of (nodes_of bodies heads) other) other_start)
            pending' pending'' seen' seen'')
            → PartsBefore bodies heads parts start other other_start pending pending'' seen seen''
            (segment (rest.start + 1) rest.end) at'
        more_parts comes = record {
          before = done.before ++ string_of (nodes_of bodies heads) b;
          string_is =
              append_assoc done.before (string_of (nodes_of bodies heads) b)
              (segment_string bodies heads (segment (rest.start + 1) rest.end))
              ∙ sym (ap (λ u. done.before ++ u) rest_string) ∙ done.string_is;
          at_is =
              let before_is = done.at_is in
              omega (
                arith,
                at_is,
                before_is,
                length-append done.before (string_of (nodes_of bodies heads) b),
              );
          is_segment = rest_is_in bodies heads rest done.is_segment start_lt;
          are_below = λ n below. All-tail (λ c. c + other < n) b _
              (subst (All (λ c. c + other < n)) rest_bodies (done.are_below n below));
          comes = λ n below.
              comes_to_both (done.comes n below) (comes n (All-head (λ c. c + other < n) b _
              (subst (All (λ c. c + other < n)) rest_bodies (done.are_below n below))))
              (λ first second.
              agree_joined done.before (string_of (nodes_of bodies heads) b) start
              (string_of (nodes_of bodies heads) other) other_start first
              (subst (λ (p : ℕ). Agree (string_of (nodes_of bodies heads) b) p
              (string_of (nodes_of bodies heads) other) other_start) done.at_is second))
              (agree_front done.before (string_of (nodes_of bodies heads) b) start
              (string_of (nodes_of bodies heads) other) other_start)
              (λ both.
              subst (λ (p : ℕ). Agree (string_of (nodes_of bodies heads) b) p
              (string_of (nodes_of bodies heads) other) other_start) (sym done.at_is)
              (agree_behind done.before (string_of (nodes_of bodies heads) b) start
              (string_of (nodes_of bodies heads) other) other_start both));
        }

      -- the body is nowhere over the other
      pub part_apart : ((n : ℕ) → at ≤ n → n < at' → other_start ≤ n → ⊥)
          → PartsBefore bodies heads parts start other other_start pending pending' seen seen'
          (segment (rest.start + 1) rest.end) at'
      part_apart apart = more_parts (λ n below.
          comes_to_nothing
          (λ seen_hold m at_le m_lt q_le m_lt_q. absurd (apart m at_le (omega (arith, m_lt, at_is))
          q_le)))

      -- an overlap is put off
      pub part_over : (o : Overlap) {pending'' seen'' : List Overlap}
          → IsBody (nodes_of bodies heads) other
          → (at ≤ other_start
          → (o.first ≡ b) × (o.second ≡ other) × (at + o.offset ≡ other_start))
          → (other_start < at
          → (o.first ≡ other) × (o.second ≡ b) × (other_start + o.offset ≡ at))
          → other_start < at'
          → at < other_start + length (string_of (nodes_of bodies heads) other)
          → ((nodes : List (List ℕ)) → IsOverlap nodes o → (n : ℕ) → o.first + o.second < n
          → Comes nodes n (Holds nodes o) pending' pending'' seen' seen'')
          → PartsBefore bodies heads parts start other other_start pending pending'' seen seen''
          (segment (rest.start + 1) rest.end) at'
      part_over o {pending'' = pending''} {seen'' = seen''} other_is_body begins_first begins_second
          begins_lt at_lt comes =
          more_parts (λ n below. by_case n below (cases_lt other_start at))
        where
          b_is_body : IsBody (nodes_of bodies heads) b
          b_is_body =
              let in_range = body_in_range bodies heads rest done.is_segment start_lt in
              omega (arith, in_range, b_is, length_nodes bodies heads)

          by_case : (n : ℕ) → b + other < n → (other_start < at) ⊎ (at ≤ other_start)
              → Comes (nodes_of bodies heads) n
              (Agree (string_of (nodes_of bodies heads) b) at
              (string_of (nodes_of bodies heads) other) other_start)
              pending' pending'' seen' seen''
          by_case n below (inl second_first) =
              let (first_is, second_is, offset_is) = begins_second second_first in
              let is_overlap : IsOverlap (nodes_of bodies heads) o = record {
                first_is_body = rw first_is other_is_body;
                second_is_body = rw second_is b_is_body;
                offset_lt = rw first_is (omega (arith, offset_is, at_lt));
              } in
              comes_to_same (comes (nodes_of bodies heads) is_overlap n
              (omega (arith, below, first_is, second_is)))
              (λ holds.
              agree_turned (string_of (nodes_of bodies heads) other)
              (string_of (nodes_of bodies heads) b) other_start at
              (agree_if_holds (nodes_of bodies heads) o other b other_start at first_is second_is
              offset_is holds))
              (λ agree.
              holds_if_agree (nodes_of bodies heads) o other b other_start at first_is second_is
              offset_is
              (agree_turned (string_of (nodes_of bodies heads) b)
              (string_of (nodes_of bodies heads) other) at other_start agree))
          by_case n below (inr first_first) =
              let (first_is, second_is, offset_is) = begins_first first_first in
              let is_overlap : IsOverlap (nodes_of bodies heads) o = record {
                first_is_body = rw first_is b_is_body;
                second_is_body = rw second_is other_is_body;
                offset_lt = rw first_is (omega (arith, offset_is, begins_lt, at_is));
              } in
              comes_to_same (comes (nodes_of bodies heads) is_overlap n
              (omega (arith, below, first_is, second_is)))
              (agree_if_holds (nodes_of bodies heads) o b other at other_start first_is second_is
              offset_is)
              (holds_if_agree (nodes_of bodies heads) o b other at other_start first_is second_is
              offset_is)

    -- all bodies are read, or the rest stands behind the other
    pub all_parts : (rest.end ≤ rest.start)
        ⊎ (other_start + length (string_of (nodes_of bodies heads) other) ≤ at)
        → (n : ℕ) → All (λ b. b + other < n) (segment_bodies bodies parts)
        → Comes (nodes_of bodies heads) n
        (Agree (segment_string bodies heads parts) start
        (string_of (nodes_of bodies heads) other) other_start) pending pending' seen seen'
    all_parts ended n below =
        comes_to_same (done.comes n below)
        (λ agree.
        subst (λ (u : List ℕ). Agree u start (string_of (nodes_of bodies heads) other) other_start)
        done.string_is
        (agree_joined done.before (segment_string bodies heads rest) start
        (string_of (nodes_of bodies heads) other) other_start agree (rest_agrees ended)))
        (λ agree.
        agree_front done.before (segment_string bodies heads rest) start
        (string_of (nodes_of bodies heads) other) other_start
        (subst (λ (u : List ℕ). Agree u start (string_of (nodes_of bodies heads) other) other_start)
        (sym done.string_is) agree))
      where
        rest_agrees : (rest.end ≤ rest.start)
            ⊎ (other_start + length (string_of (nodes_of bodies heads) other) ≤ at)
            → Agree (segment_string bodies heads rest) (start + length done.before)
            (string_of (nodes_of bodies heads) other) other_start
        rest_agrees (inl end_le) =
            subst (λ (u : List ℕ). Agree u (start + length done.before)
            (string_of (nodes_of bodies heads) other) other_start)
            (sym (string_is_empty [] bodies heads rest end_le))
            (λ m start_le m_lt q_le m_lt_q. absurd (omega (arith, start_le, m_lt)))
        rest_agrees (inr behind) =
            let at_is = done.at_is in
            agree_apart (segment_string bodies heads rest)
            (string_of (nodes_of bodies heads) other) (start + length done.before) other_start
            (omega (arith, behind, at_is))

-- ---- an overlap is taken apart

pub on_ok : {T E P Q : Type 0} (r : Result T E) → (P → Q) → OnOk r P → OnOk r Q
on_ok r h1 h2 = grind (arith, common_steps)

module _ (bodies : List ℕ) (heads : List Head) (are_nodes : AreNodes bodies heads) (o : Overlap)
    (i : ℕ) (i_lt : i < length heads) (p : Segment) (is_segment_of : IsSegmentOf heads i p) where
  parts_below : (b other n : ℕ) → b ≡ first_node + i → b + other ≡ n
      → All (λ c. c + other < n) (segment_bodies bodies p)
  parts_below b other n b_is n_is =
      All-weaker (λ c. c < first_node + i) (λ c. c + other < n)
      (λ c c_lt. omega (arith, c_lt, b_is, n_is)) (segment_bodies bodies p)
      (subst (All (λ c. c < first_node + i))
      (node_at bodies heads i i_lt ∙ sym (ap₂ (slice_range bodies) is_segment_of.0 is_segment_of.1))
      (are_nodes i i_lt).bodies_below)

  parts_string : (b : ℕ) → b ≡ first_node + i
      → segment_string bodies heads p ≡ string_of (nodes_of bodies heads) b
  parts_string b b_is = sym (node_is_opened [] bodies heads are_nodes b i p b_is i_lt is_segment_of)

  module _ {pending pending' seen seen' : List Overlap} where
    -- the first is a node
    pub first_apart : o.first ≡ first_node + i
        → ((n : ℕ) → All (λ b. b + o.second < n) (segment_bodies bodies p)
        → Comes (nodes_of bodies heads) n
        (Agree (segment_string bodies heads p) 0 (string_of (nodes_of bodies heads) o.second)
        o.offset)
        pending pending' seen seen')
        → Comes (nodes_of bodies heads) (o.first + o.second) (Holds (nodes_of bodies heads) o)
        pending pending' seen seen'
    first_apart first_is comes =
        subst (λ (u : List ℕ). Comes (nodes_of bodies heads) (o.first + o.second)
        (Agree u 0 (string_of (nodes_of bodies heads) o.second) o.offset) pending pending' seen
        seen')
        (parts_string o.first first_is)
        (comes (o.first + o.second) (parts_below o.first o.second (o.first + o.second) first_is
        refl))

    -- the second is a node
    pub second_apart : o.second ≡ first_node + i
        → ((n : ℕ) → All (λ b. b + o.first < n) (segment_bodies bodies p)
        → Comes (nodes_of bodies heads) n
        (Agree (segment_string bodies heads p) o.offset (string_of (nodes_of bodies heads) o.first)
        0)
        pending pending' seen seen')
        → Comes (nodes_of bodies heads) (o.first + o.second) (Holds (nodes_of bodies heads) o)
        pending pending' seen seen'
    second_apart second_is comes =
        comes_to_same (subst (λ (u : List ℕ). Comes (nodes_of bodies heads) (o.first + o.second)
        (Agree u o.offset (string_of (nodes_of bodies heads) o.first) 0) pending pending' seen
        seen')
        (parts_string o.second second_is)
        (comes (o.first + o.second)
        (parts_below o.second o.first (o.first + o.second) second_is (omega arith))))
        (agree_turned (string_of (nodes_of bodies heads) o.second)
        (string_of (nodes_of bodies heads) o.first) o.offset 0)
        (agree_turned (string_of (nodes_of bodies heads) o.first)
        (string_of (nodes_of bodies heads) o.second) 0 o.offset)

-- two symbols over each other
module _ (nodes : List (List ℕ)) (o : Overlap) (is_overlap : IsOverlap nodes o)
    (first_lt : o.first < first_node) (second_lt : o.second < first_node) where
  no_offset : o.offset ≡ 0
  no_offset =
      let offset_lt = is_overlap.offset_lt in
      let string_is = ap length (symbol_string (strings_of nodes) o.first first_lt) in
      omega (arith, offset_lt, string_is)

  pub symbols_hold : o.first ≡ o.second → Holds nodes o
  symbols_hold same = holds_of_itself nodes o no_offset same
