-- A string is read from its first body on, and what is left of it is a segment and segments that
-- were put off.
use Rattle.std.proofs.lemmas.Grind.{common_steps}
use Rattle.std.proofs.Common.{◌≡◌, ℕ, zero, suc, ◌+◌, ◌-◌, ◌<◌, ◌≤◌, inl, inr, List, [], ◌∷◌, ◌++◌}
use Rattle.std.proofs.Common.{length, take, drop, get_or, slice_range, refl, sym, ap, ap₂, ◌∙◌}
use Rattle.std.proofs.Common.{subst, arith, All, length-append, append-nil}
use Rattle.std.proofs.Common.{true, false, nat_lt, bytes_eq}
use Rattle.std.proofs.lemmas.List.{append_assoc, append_cancel_left, drop_more, get_or_push}
use Rattle.std.proofs.lemmas.List.{get_or_default, drop-drop, drop_at}
use Rattle.std.proofs.Math.Seq.{take-append_seam, take-add}
use Rattle.std.proofs.lemmas.Grind.{flat_map-append}
use Rattle.std.proofs.lemmas.List.Elements.{All-get_or, All-take, All-drop, All-weaker, All-push}
use Rattle.std.proofs.lemmas.List.Elements.{All-nil}
use Rattle.std.proofs.lemmas.Slice.Eq.{bytes_eq-Decides}
use Rattle.std.proofs.lemmas.Bool.Decides.{nat_tests}
use Rattle.std.proofs.lemmas.Bool.{cases_lt}
use Rattle.mm_nodes.specs.declared.heads.Head.{Head}
use Rattle.mm_nodes.specs.declared.heads.Segment.{Segment}
use Rattle.mm_nodes.specs.Strings.{first_node, body_string, joined_strings, strings_after}
use Rattle.mm_nodes.specs.Strings.{string_of, joined_string_of, IsBody}
use Rattle.mm_nodes.specs.Store.{nodes_of, AreNodes, IsBodySegment, MayPutOff, IsSegmentOf, segment}
use Rattle.mm_nodes.specs.Store.{segment_bodies, segment_string, no_head, AreSame}
use Rattle.mm_nodes.specs.Store.{IsFirstDifference}
use Rattle.mm_nodes.proofs.StringLaw.{node_string}
use Rattle.mm_nodes.proofs.StoreLaw.{length_nodes, node_at, nodes_with_more, nodes_are_kept}
use Rattle.mm_nodes.proofs.StoreLaw.{empty_range, range_of_front, range_behind}

pub slice_is_cons : (l : List ℕ) (a e : ℕ) → a < e → e ≤ length l
    → slice_range l a e ≡ get_or l a 0 ∷ slice_range l (a + 1) e
slice_is_cons l a e a_lt_e e_le_length = grind (arith, nat_tests, drop_more)

range_splits : (l : List ℕ) (a n e : ℕ) → a + n ≤ e
    → slice_range l a e ≡ slice_range l a (a + n) ++ slice_range l (a + n) e
range_splits l a n e n_le =
    let count_is : e - a ≡ n + (e - (a + n)) = omega (arith, n_le) in
    let front_is : a + n - a ≡ n = omega arith in
    rw (front_is, count_is) (take-add n (e - (a + n)) (drop a l)
    ∙ ap (λ m. take n (drop a l) ++ take (e - (a + n)) m) (drop-drop n a l))

pub same_ranges : (l : List ℕ) (a b n : ℕ) → a + n ≤ length l → b + n ≤ length l
    → AreSame l a b n → slice_range l a (a + n) ≡ slice_range l b (b + n)
same_ranges l a b zero a_le b_le are_same =
    empty_range l a (a + 0) (omega arith) ∙ sym (empty_range l b (b + 0) (omega arith))
same_ranges l a b (suc n) a_le b_le are_same =
    let a_end : a + suc n ≡ a + 1 + n = omega arith in
    let b_end : b + suc n ≡ b + 1 + n = omega arith in
    let a_start : a + 0 ≡ a = omega arith in
    let b_start : b + 0 ≡ b = omega arith in
    let first : get_or l a 0 ≡ get_or l b 0 = rw (a_start, b_start) at (are_same 0 (omega arith)) in
    slice_is_cons l a (a + suc n) (omega arith) a_le
    ∙ ap₂ (λ x xs. x ∷ xs) first
    (ap (slice_range l (a + 1)) a_end
    ∙ same_ranges l (a + 1) (b + 1) n (omega (arith, a_le)) (omega (arith, b_le))
    (λ k k_lt.
    let a_at : a + 1 + k ≡ a + (k + 1) = omega arith in
    let b_at : b + 1 + k ≡ b + (k + 1) = omega arith in
    rw (a_at, b_at) (are_same (k + 1) (omega (arith, k_lt))))
    ∙ sym (ap (slice_range l (b + 1)) b_end))
    ∙ sym (slice_is_cons l b (b + suc n) (omega arith) b_le)

module _ (front bodies : List ℕ) (heads : List Head) where
  -- the string of a segment, with `front` before the string of each node
  abbrev pub string_of_segment : Segment → List ℕ
  string_of_segment s =
      joined_strings (strings_after front [] (nodes_of bodies heads)) (segment_bodies bodies s)

  -- what the segments stand for that were put off: the last of them comes first
  pub later_string : List Segment → List ℕ
  later_string [] = []
  later_string (s ∷ later) = later_string later ++ string_of_segment s

  pub later_string_nil : later_string [] ≡ []
  unfolding later_string
  later_string_nil = refl

  pub later_string_push : (later : List Segment) (s : Segment)
      → later_string (later ++ s ∷ []) ≡ string_of_segment s ++ later_string later
  unfolding later_string
  later_string_push [] s = sym (append-nil (string_of_segment s))
  later_string_push (t ∷ later) s =
      ap (λ u. u ++ string_of_segment t) (later_string_push later s)
      ∙ append_assoc (string_of_segment s) (later_string later) (string_of_segment t)

  -- the first body and the rest
  pub string_splits : (s : Segment) → s.start < s.end → s.end ≤ length bodies
      → string_of_segment s
      ≡ body_string (strings_after front [] (nodes_of bodies heads)) (get_or bodies s.start 0)
      ++ string_of_segment (segment (s.start + 1) s.end)
  string_splits s start_lt end_le =
      ap (joined_strings (strings_after front [] (nodes_of bodies heads)))
      (slice_is_cons bodies s.start s.end start_lt end_le)

  -- the first `n` bodies and the rest
  pub string_splits_at : (s : Segment) (n : ℕ) → s.start + n ≤ s.end
      → string_of_segment s
      ≡ joined_strings (strings_after front [] (nodes_of bodies heads))
      (slice_range bodies s.start (s.start + n))
      ++ string_of_segment (segment (s.start + n) s.end)
  string_splits_at s n n_le =
      let strings = strings_after front [] (nodes_of bodies heads) in
      ap (joined_strings strings) (range_splits bodies s.start n s.end n_le)
      ∙ flat_map-append (body_string strings) (slice_range bodies s.start (s.start + n))
      (slice_range bodies (s.start + n) s.end)

  pub string_is_empty : (s : Segment) → s.end ≤ s.start → string_of_segment s ≡ []
  string_is_empty s end_le =
      ap (joined_strings (strings_after front [] (nodes_of bodies heads)))
      (empty_range bodies s.start s.end end_le)

  pub later_string_put_off : (s : Segment) (later later' : List Segment) → MayPutOff s later later'
      → later_string later'
      ≡ string_of_segment (segment (s.start + 1) s.end) ++ later_string later
  later_string_put_off s later later' (inl none) =
      ap later_string none.1
      ∙ sym (ap (λ u. u ++ later_string later)
      (string_is_empty (segment (s.start + 1) s.end) none.0))
  later_string_put_off s later later' (inr is_pushed) =
      ap later_string is_pushed ∙ later_string_push later (segment (s.start + 1) s.end)

  -- a node's string is that of the segment of its bodies
  pub node_is_opened : AreNodes bodies heads → (b i : ℕ) (p : Segment) → b ≡ first_node + i
      → i < length heads → IsSegmentOf heads i p
      → body_string (strings_after front [] (nodes_of bodies heads)) b
      ≡ front ++ string_of_segment p
  node_is_opened are_nodes b i p b_is i_lt is_segment_of =
      let count = length_nodes bodies heads in
      let is_no_symbol : nat_lt b first_node ≡ false = grind (arith, nat_tests) in
      let index_is : b - first_node ≡ i = omega (arith, b_is) in
      rw (is_no_symbol, index_is)
      (node_string front (nodes_of bodies heads) i (omega (arith, count, i_lt))
      (are_nodes i i_lt).bodies_below
      ∙ ap (λ bs. front ++ joined_strings (strings_after front [] (nodes_of bodies heads)) bs)
      (node_at bodies heads i i_lt
      ∙ sym (ap₂ (slice_range bodies) is_segment_of.0 is_segment_of.1)))

-- ---- where the segments are

pub body_in_range : (bodies : List ℕ) (heads : List Head) (s : Segment)
    → IsBodySegment bodies heads s → s.start < s.end
    → get_or bodies s.start 0 < first_node + length heads
body_in_range bodies heads s is_in start_lt =
    grind (arith, nat_tests, All-get_or, slice_range, slice_is_cons)

pub rest_is_in : (bodies : List ℕ) (heads : List Head) (s : Segment) → IsBodySegment bodies heads s
    → s.start < s.end → IsBodySegment bodies heads (segment (s.start + 1) s.end)
rest_is_in bodies heads s is_in start_lt = record {
  end_le_length = is_in.end_le_length;
  are_bodies =
      All-drop (λ b. b < first_node + length heads) 1
      (get_or bodies s.start 0 ∷ slice_range bodies (s.start + 1) s.end)
      (subst (λ (bs : List ℕ). All (λ b. b < first_node + length heads) bs)
      (slice_is_cons bodies s.start s.end start_lt is_in.end_le_length) is_in.are_bodies);
}

later_is_in : (bodies : List ℕ) (heads : List Head) (s : Segment) (n : ℕ)
    → IsBodySegment bodies heads s → s.start + n ≤ s.end
    → IsBodySegment bodies heads (segment (s.start + n) s.end)
later_is_in bodies heads s n is_in n_le = record {
  end_le_length = is_in.end_le_length;
  are_bodies =
      let front = slice_range bodies s.start (s.start + n) in
      let rest = slice_range bodies (s.start + n) s.end in
      subst (λ (bs : List ℕ). All (λ b. b < first_node + length heads) bs)
      (drop_at front rest (length front) refl)
      (All-drop (λ b. b < first_node + length heads) (length front) (front ++ rest)
      (subst (λ (bs : List ℕ). All (λ b. b < first_node + length heads) bs)
      (range_splits bodies s.start n s.end n_le) is_in.are_bodies));
}

pub segment_is_in : (bodies : List ℕ) (heads : List Head) (i : ℕ) (p : Segment)
    → AreNodes bodies heads → i < length heads → IsSegmentOf heads i p
    → IsBodySegment bodies heads p
segment_is_in bodies heads i p are_nodes i_lt is_segment_of =
    grind (arith, nat_tests, node_at, slice_range, All-weaker)

later_are_in : (bodies : List ℕ) (heads : List Head) (s : Segment) (later later' : List Segment)
    → IsBodySegment bodies heads s → s.start < s.end → All (IsBodySegment bodies heads) later
    → MayPutOff s later later' → All (IsBodySegment bodies heads) later'
later_are_in bodies heads s later later' is_in start_lt are_in (inl none) = grind (arith, nat_tests)
later_are_in bodies heads s later later' is_in start_lt are_in (inr is_pushed) =
    subst (All (IsBodySegment bodies heads)) (sym is_pushed)
    (All-push (IsBodySegment bodies heads) later (segment (s.start + 1) s.end) are_in
    (rest_is_in bodies heads s is_in start_lt))

-- ---- one string is read

-- `common` was read of the string `whole`, and the segment and those that were put off are left
pub record Reads (bodies : List ℕ) (heads : List Head) (whole common : List ℕ) (s : Segment)
    (later : List Segment) : Type 0 where
  pub whole_is : common ++ (string_of_segment [] bodies heads s
      ++ later_string [] bodies heads later) ≡ whole
  pub is_in : IsBodySegment bodies heads s
  pub are_in : All (IsBodySegment bodies heads) later

-- a body isn't nothing to do
some_work : (bodies : List ℕ) (heads : List Head) → AreNodes bodies heads → (b : ℕ)
    → b < first_node + length heads
    → 0 < length (body_string (strings_after (0 ∷ 0 ∷ []) [] (nodes_of bodies heads)) b)
some_work bodies heads are_nodes b b_lt =
    elim (cases_lt b first_node) [
      | inl is_symbol ↦
          let test_is : nat_lt b first_node ≡ true = grind (arith, nat_tests) in
          rw test_is (omega arith)
      | inr is_node ↦
          let h = get_or heads (b - first_node) no_head in
          let opened = ap length (node_is_opened (0 ∷ 0 ∷ []) bodies heads are_nodes b
          (b - first_node) (segment h.start h.end) (omega (arith, is_node))
          (omega (arith, is_node, b_lt)) (refl, refl)) in
          omega (
            arith,
            opened,
            length-append (0 ∷ 0 ∷ [])
                (string_of_segment (0 ∷ 0 ∷ []) bodies heads (segment h.start h.end)),
          )
    ]

-- what is left to be done: two for each node, one for each symbol, one for each that was put off
abbrev pub work : List ℕ → List Head → Segment → List Segment → ℕ
work bodies heads s later =
    length (string_of_segment (0 ∷ 0 ∷ []) bodies heads s)
    + length (later_string (0 ∷ 0 ∷ []) bodies heads later) + length later

-- to read bodies is no more to do
work_of_rest : (bodies : List ℕ) (heads : List Head) (s : Segment) (later : List Segment) (n : ℕ)
    → s.start + n ≤ s.end
    → work bodies heads (segment (s.start + n) s.end) later ≤ work bodies heads s later
work_of_rest bodies heads s later n n_le =
    let front = 0 ∷ 0 ∷ [] in
    let splits = ap length (string_splits_at front bodies heads s n n_le) in
    omega (
      arith,
      splits,
      length-append (joined_strings (strings_after front [] (nodes_of bodies heads))
          (slice_range bodies s.start (s.start + n)))
          (string_of_segment front bodies heads (segment (s.start + n) s.end)),
    )

module _ {bodies : List ℕ} {heads : List Head} (are_nodes : AreNodes bodies heads) where
  pub reading_begins : (s : Segment) (later : List Segment) → IsBodySegment bodies heads s
      → later ≡ [] → Reads bodies heads (segment_string bodies heads s) [] s later
  reading_begins s later is_in later_is = rw later_is (record {
    whole_is =
        ap (λ u. string_of_segment [] bodies heads s ++ u) (later_string_nil [] bodies heads)
        ∙ append-nil (string_of_segment [] bodies heads s);
    is_in = is_in;
    are_in = All-nil (IsBodySegment bodies heads);
  })

  module _ {whole common : List ℕ} {s : Segment} {later : List Segment}
      (reads : Reads bodies heads whole common s later) where
    pub all_is_read : s.end ≤ s.start → later ≡ [] → common ≡ whole
    all_is_read end_le later_is =
        sym (append-nil common)
        ∙ ap (λ u. common ++ u)
        (sym (ap₂ (λ u v. u ++ v) (string_is_empty [] bodies heads s end_le)
        (ap (later_string [] bodies heads) later_is ∙ later_string_nil [] bodies heads)))
        ∙ reads.whole_is

    pub reads_later : s.end ≤ s.start → (later' : List Segment) (t : Segment)
        → later ≡ later' ++ t ∷ [] → Reads bodies heads whole common t later'
    reads_later end_le later' t later_is = record {
      whole_is =
          sym (ap (λ u. common ++ u)
          (ap₂ (λ u v. u ++ v) (string_is_empty [] bodies heads s end_le)
          (ap (later_string [] bodies heads) later_is ∙ later_string_push [] bodies heads later'
          t)))
          ∙ reads.whole_is;
      is_in =
          subst (IsBodySegment bodies heads) (get_or_push later' t s (length later') refl)
          (All-get_or (IsBodySegment bodies heads) (later' ++ t ∷ []) (length later') s
          (omega (arith, length-append later' (t ∷ [])))
          (subst (All (IsBodySegment bodies heads)) later_is reads.are_in));
      are_in =
          subst (All (IsBodySegment bodies heads)) (take-append_seam later' (t ∷ []))
          (All-take (IsBodySegment bodies heads) (length later') (later' ++ t ∷ [])
          (subst (All (IsBodySegment bodies heads)) later_is reads.are_in));
    }

    pub less_work_later : (later' : List Segment) (t : Segment) → later ≡ later' ++ t ∷ []
        → work bodies heads t later' < work bodies heads s later
    less_work_later later' t later_is =
        let string_is = ap length (ap (later_string (0 ∷ 0 ∷ []) bodies heads) later_is
        ∙ later_string_push (0 ∷ 0 ∷ []) bodies heads later' t) in
        let count_is = ap length later_is in
        omega (
          arith,
          string_is,
          count_is,
          length-append later' (t ∷ []),
          length-append (string_of_segment (0 ∷ 0 ∷ []) bodies heads t)
              (later_string (0 ∷ 0 ∷ []) bodies heads later'),
        )

    module _ (n : ℕ) (n_le : s.start + n ≤ s.end) where
      pub reads_far : (common' : List ℕ)
          → common' ≡ common ++ joined_strings (strings_after [] [] (nodes_of bodies heads))
          (slice_range bodies s.start (s.start + n))
          → Reads bodies heads whole common' (segment (s.start + n) s.end) later
      reads_far common' common_is = record {
        whole_is =
            let front = joined_strings (strings_after [] [] (nodes_of bodies heads))
            (slice_range bodies s.start (s.start + n)) in
            let rest = string_of_segment [] bodies heads (segment (s.start + n) s.end) in
            let after = later_string [] bodies heads later in
            ap (λ u. u ++ (rest ++ after)) common_is
            ∙ append_assoc common front (rest ++ after)
            ∙ ap (λ u. common ++ u) (sym (append_assoc front rest after)
            ∙ sym (ap (λ u. u ++ after) (string_splits_at [] bodies heads s n n_le)))
            ∙ reads.whole_is;
        is_in = later_is_in bodies heads s n reads.is_in n_le;
        are_in = reads.are_in;
      }

      pub no_more_work_far : work bodies heads (segment (s.start + n) s.end) later
          ≤ work bodies heads s later
      no_more_work_far = work_of_rest bodies heads s later n n_le

    module _ (start_lt : s.start < s.end) (b : ℕ) (b_read : b ≡ get_or bodies s.start b) where
      pub b_is : b ≡ get_or bodies s.start 0
      b_is = let end_le = reads.is_in.end_le_length in
          b_read ∙ get_or_default bodies s.start b 0 (omega (arith, start_lt, end_le))

      pub first_body_is : whole ≡ common
          ++ (body_string (strings_after [] [] (nodes_of bodies heads)) b
          ++ (string_of_segment [] bodies heads (segment (s.start + 1) s.end)
          ++ later_string [] bodies heads later))
      first_body_is = rw b_is
          (sym reads.whole_is
          ∙ ap (λ u. common ++ u)
          (ap (λ u. u ++ later_string [] bodies heads later)
          (string_splits [] bodies heads s start_lt reads.is_in.end_le_length)
          ∙ append_assoc _ (string_of_segment [] bodies heads (segment (s.start + 1) s.end))
          (later_string [] bodies heads later)))

      pub reads_on : (common' : List ℕ)
          → common' ≡ common ++ body_string (strings_after [] [] (nodes_of bodies heads)) b
          → Reads bodies heads whole common' (segment (s.start + 1) s.end) later
      reads_on common' common_is = record {
        whole_is =
            ap (λ u. u ++ (string_of_segment [] bodies heads (segment (s.start + 1) s.end)
            ++ later_string [] bodies heads later)) common_is
            ∙ append_assoc common _ _ ∙ sym first_body_is;
        is_in = rest_is_in bodies heads s reads.is_in start_lt;
        are_in = reads.are_in;
      }

      pub less_work_on : work bodies heads (segment (s.start + 1) s.end) later
          < work bodies heads s later
      less_work_on =
          let front = 0 ∷ 0 ∷ [] in
          let splits = ap length (string_splits front bodies heads s start_lt
          reads.is_in.end_le_length) in
          let some = some_work bodies heads are_nodes (get_or bodies s.start 0)
          (body_in_range bodies heads s reads.is_in start_lt) in
          omega (
            arith,
            splits,
            some,
            length-append (body_string (strings_after front [] (nodes_of bodies heads))
                (get_or bodies s.start 0))
                (string_of_segment front bodies heads (segment (s.start + 1) s.end)),
          )

      pub less_work_far : (n : ℕ) → 0 < n → s.start + n ≤ s.end
          → work bodies heads (segment (s.start + n) s.end) later < work bodies heads s later
      less_work_far n n_gt n_le =
          let rest = segment (s.start + 1) s.end in
          let start_is : s.start + 1 + (n - 1) ≡ s.start + n = omega (arith, n_gt) in
          let one = less_work_on in
          let others = work_of_rest bodies heads rest later (n - 1) (omega (arith, n_le, n_gt)) in
          let same = ap (λ m. work bodies heads (segment m s.end) later) start_is in
          omega (arith, one, others, same)

      module _ (i : ℕ) (is_node : b ≡ first_node + i) where
        pub index_lt : i < length heads
        index_lt =
            let in_range = body_in_range bodies heads s reads.is_in start_lt in
            omega (arith, in_range, b_is, is_node)

        pub reads_into : (p : Segment) (later' : List Segment) → IsSegmentOf heads i p
            → MayPutOff s later later' → Reads bodies heads whole common p later'
        reads_into p later' is_segment_of put_off = record {
          whole_is =
              ap (λ u. common ++ u)
              (ap₂ (λ u v. u ++ v)
              (sym (node_is_opened [] bodies heads are_nodes b i p is_node index_lt is_segment_of))
              (later_string_put_off [] bodies heads s later later' put_off))
              ∙ sym first_body_is;
          is_in = segment_is_in bodies heads i p are_nodes index_lt is_segment_of;
          are_in = later_are_in bodies heads s later later' reads.is_in start_lt reads.are_in
              put_off;
        }

        pub less_work_into : (p : Segment) (later' : List Segment) → IsSegmentOf heads i p
            → MayPutOff s later later' → work bodies heads p later' < work bodies heads s later
        less_work_into p later' is_segment_of put_off =
            let front = 0 ∷ 0 ∷ [] in
            let splits = ap length (string_splits front bodies heads s start_lt
            reads.is_in.end_le_length) in
            let opened = ap length (node_is_opened front bodies heads are_nodes b i p is_node
            index_lt is_segment_of) in
            let later_is = ap length (later_string_put_off front bodies heads s later later'
            put_off)
            in
            let count_le = put_off_count put_off in
            let same = ap (λ x. length (body_string (strings_after front [] (nodes_of bodies heads))
            x)) b_is in
            omega (
              arith,
              splits,
              opened,
              later_is,
              count_le,
              same,
              length-append (body_string (strings_after front [] (nodes_of bodies heads))
                  (get_or bodies s.start 0))
                  (string_of_segment front bodies heads (segment (s.start + 1) s.end)),
              length-append front (string_of_segment front bodies heads p),
              length-append (string_of_segment front bodies heads (segment (s.start + 1) s.end))
                  (later_string front bodies heads later),
            )
          where
            put_off_count : MayPutOff s later later' → length later' ≤ length later + 1
            put_off_count (inl none) = let same = ap length none.1 in omega (arith, same)
            put_off_count (inr is_pushed) = let more = ap length is_pushed in
                omega (arith, more, length-append later (segment (s.start + 1) s.end ∷ []))

-- ---- two strings are compared

pub equal_if_first_is_read : (u v more : List ℕ) → u ++ more ≡ v → length u ≡ length v
    → true ≡ bytes_eq v u
equal_if_first_is_read u v more h1 h2 =
    grind (arith, common_steps, bytes_eq-Decides, append-nil, length-append)

pub equal_if_second_is_read : (u v more : List ℕ) → v ++ more ≡ u → length u ≡ length v
    → true ≡ bytes_eq v u
equal_if_second_is_read u v more h1 h2 =
    grind (arith, common_steps, bytes_eq-Decides, append-nil, length-append)

-- the same symbols were read of two strings, of which these segments are left
pub record ReadAlike (bodies : List ℕ) (heads : List Head) (u v : List ℕ) (s : Segment)
    (later : List Segment) (t : Segment) (later' : List Segment) : Type 0 where
  pub common : List ℕ
  pub left : Reads bodies heads u common s later
  pub right : Reads bodies heads v common t later'

module _ {bodies : List ℕ} {heads : List Head} (are_nodes : AreNodes bodies heads)
    {u v : List ℕ} {s t : Segment} {later later' : List Segment}
    (reads : ReadAlike bodies heads u v s later t later')
    (lengths_equal : length u ≡ length v) where
  pub equal_at_first_end : s.end ≤ s.start → later ≡ [] → true ≡ bytes_eq v u
  equal_at_first_end end_le later_is =
      equal_if_first_is_read u v
      (string_of_segment [] bodies heads t ++ later_string [] bodies heads later')
      (ap (λ w. w ++ (string_of_segment [] bodies heads t ++ later_string [] bodies heads later'))
      (sym (all_is_read are_nodes reads.left end_le later_is))
      ∙ reads.right.whole_is) lengths_equal

  pub equal_at_second_end : t.end ≤ t.start → later' ≡ [] → true ≡ bytes_eq v u
  equal_at_second_end end_le later_is =
      equal_if_second_is_read u v
      (string_of_segment [] bodies heads s ++ later_string [] bodies heads later)
      (ap (λ w. w ++ (string_of_segment [] bodies heads s ++ later_string [] bodies heads later))
      (sym (all_is_read are_nodes reads.right end_le later_is))
      ∙ reads.left.whole_is) lengths_equal

module _ {bodies : List ℕ} {heads : List Head} (are_nodes : AreNodes bodies heads)
    {u v : List ℕ} {s t : Segment} {later later' : List Segment}
    (reads : ReadAlike bodies heads u v s later t later')
  where
    -- both are read as far as their bodies are the same
    pub both_read_far : (n : ℕ) → s.start + n ≤ s.end → t.start + n ≤ t.end
        → AreSame bodies s.start t.start n
        → ReadAlike bodies heads u v (segment (s.start + n) s.end) later
        (segment (t.start + n) t.end) later'
    both_read_far n left_le right_le are_same =
        let strings = strings_after [] [] (nodes_of bodies heads) in
        let s_end = reads.left.is_in.end_le_length in
        let t_end = reads.right.is_in.end_le_length in
        let same = same_ranges bodies s.start t.start n (omega (arith, s_end, left_le))
        (omega (arith, t_end, right_le)) are_same in
        record {
          common = reads.common
              ++ joined_strings strings (slice_range bodies s.start (s.start + n));
          left = reads_far are_nodes reads.left n left_le _ refl;
          right = reads_far are_nodes reads.right n right_le _
              (ap (λ bs. reads.common ++ joined_strings strings bs) same);
        }

    pub less_if_both_go_on : (n : ℕ) → 0 < n → s.start + n ≤ s.end → t.start + n ≤ t.end
        → work bodies heads (segment (s.start + n) s.end) later
        + work bodies heads (segment (t.start + n) t.end) later'
        < work bodies heads s later + work bodies heads t later'
    less_if_both_go_on n n_gt left_le right_le =
        let b = get_or bodies s.start 0 in
        let s_end = reads.left.is_in.end_le_length in
        let b_read : b ≡ get_or bodies s.start b =
        sym (get_or_default bodies s.start b 0 (omega (arith, n_gt, left_le, s_end))) in
        let less =
        less_work_far are_nodes reads.left (omega (arith, n_gt, left_le)) b b_read n n_gt left_le in
        let no_more = work_of_rest bodies heads t later' n right_le in
        omega (arith, less, no_more)

    module _ {n : ℕ} (is_first : IsFirstDifference bodies s t n) where
      pub both_read : ReadAlike bodies heads u v (segment (s.start + n) s.end) later
          (segment (t.start + n) t.end) later'
      both_read =
          let left_lt = is_first.left_lt in
          let right_lt = is_first.right_lt in
          both_read_far n (omega (arith, left_lt)) (omega (arith, right_lt)) is_first.are_same

      no_more_on_left : work bodies heads (segment (s.start + n) s.end) later
          ≤ work bodies heads s later
      no_more_on_left =
          let left_lt = is_first.left_lt in
          work_of_rest bodies heads s later n (omega (arith, left_lt))

      no_more_on_right : work bodies heads (segment (t.start + n) t.end) later'
          ≤ work bodies heads t later'
      no_more_on_right =
          let right_lt = is_first.right_lt in
          work_of_rest bodies heads t later' n (omega (arith, right_lt))

      pub less_if_left_opens : (p : Segment) (later'' : List Segment)
          → work bodies heads p later'' < work bodies heads (segment (s.start + n) s.end) later
          → work bodies heads p later'' + work bodies heads (segment (t.start + n) t.end) later'
          < work bodies heads s later + work bodies heads t later'
      less_if_left_opens p later'' less =
          let left = no_more_on_left in
          let right = no_more_on_right in
          omega (arith, less, left, right)

      pub less_if_right_opens : (p : Segment) (later'' : List Segment)
          → work bodies heads p later'' < work bodies heads (segment (t.start + n) t.end) later'
          → work bodies heads (segment (s.start + n) s.end) later + work bodies heads p later''
          < work bodies heads s later + work bodies heads t later'
      less_if_right_opens p later'' less =
          let left = no_more_on_left in
          let right = no_more_on_right in
          omega (arith, less, left, right)

pub nil_if_no_length : {X : Type 0} (later : List X) → length later ≡ 0 → later ≡ []
nil_if_no_length later h1 = grind (arith, common_steps)

-- two different symbols follow
pub different_if_symbols_are : (u v common x y : List ℕ) (strings : List (List ℕ)) (a b : ℕ)
    → u ≡ common ++ (body_string strings a ++ x) → v ≡ common ++ (body_string strings b ++ y)
    → a < first_node → b < first_node → (a ≡ b → ⊥) → false ≡ bytes_eq v u
different_if_symbols_are u v common x y strings a b u_is v_is a_lt b_lt differ =
    grind (arith, common_steps, bytes_eq, append_cancel_left, bytes_eq-Decides)

pub less_left : (a b c : ℕ) → a < b → a + c < b + c
less_left a b c a_lt_b = omega (arith, a_lt_b)

pub less_right : (a b c : ℕ) → a < b → c + a < c + b
less_right a b c a_lt_b = omega (arith, a_lt_b)

pub less_both : (a b c d : ℕ) → a < b → c < d → a + c < b + d
less_both a b c d a_lt_b c_lt_d = omega (arith, a_lt_b, c_lt_d)

pub symbol_string : (strings : List (List ℕ)) (b : ℕ) → b < first_node
    → body_string strings b ≡ b ∷ []
symbol_string strings b b_lt = grind (arith, common_steps)

-- ---- bodies behind those of the nodes

module _ (bodies wanted : List ℕ) (b : ℕ) (heads : List Head) (are_nodes : AreNodes bodies heads)
    (are_bodies : All (IsBody (nodes_of bodies heads)) wanted)
    (is_body : IsBody (nodes_of bodies heads) b) (before : List ℕ)
    (before_is : before ≡ bodies ++ wanted) where
  ends_le : (i : ℕ) → i < length heads → (get_or heads i no_head).end ≤ length bodies
  ends_le i i_lt = (are_nodes i i_lt).end_le_length

  nodes_before : nodes_of before heads ≡ nodes_of bodies heads
  nodes_before =
      ap (λ bs. nodes_of bs heads) before_is ∙ nodes_with_more bodies wanted heads ends_le

  pub are_nodes_before : AreNodes before heads
  are_nodes_before = rw before_is (nodes_are_kept bodies wanted heads are_nodes)

  pub is_body_before : IsBody (nodes_of before heads) b
  is_body_before = subst (λ (ns : List (List ℕ)). IsBody ns b) (sym nodes_before) is_body

  module _ (more all : List ℕ) (start middle : ℕ) (all_is : all ≡ before ++ more)
      (start_is : start ≡ length bodies) (middle_is : middle ≡ length before) where
    regrouped : all ≡ bodies ++ (wanted ++ more)
    regrouped = all_is ∙ ap (λ bs. bs ++ more) before_is ∙ append_assoc bodies wanted more

    nodes_same : nodes_of all heads ≡ nodes_of bodies heads
    nodes_same =
        ap (λ bs. nodes_of bs heads) regrouped
        ∙ nodes_with_more bodies (wanted ++ more) heads ends_le

    pub are_nodes_behind : AreNodes all heads
    are_nodes_behind = rw regrouped (nodes_are_kept bodies (wanted ++ more) heads are_nodes)

    pub is_body_behind : IsBody (nodes_of all heads) b
    is_body_behind = subst (λ (ns : List (List ℕ)). IsBody ns b) (sym nodes_same) is_body

    first_bodies : segment_bodies all (segment start middle) ≡ wanted
    first_bodies =
        let before_count = ap length before_is in
        ap (λ bs. slice_range bs start middle) (all_is ∙ ap (λ bs. bs ++ more) before_is)
        ∙ range_of_front (bodies ++ wanted) more start middle
        (omega (arith, middle_is, before_count))
        ∙ range_behind bodies wanted start middle start_is (middle_is ∙ before_count)

    pub first_string : segment_string all heads (segment start middle)
        ≡ joined_string_of (nodes_of bodies heads) wanted
    first_string = ap₂ joined_string_of nodes_same first_bodies

    pub first_is_segment : IsBodySegment all heads (segment start middle)
    first_is_segment = record {
      end_le_length =
          let all_count = ap length all_is in
          omega (arith, all_count, middle_is, length-append before more);
      are_bodies =
          let count = length_nodes bodies heads in
          subst (λ (bs : List ℕ). All (λ b. b < first_node + length heads) bs) (sym first_bodies)
          (subst (λ (n : ℕ). All (λ b. b < first_node + n) wanted) count are_bodies);
    }

    module _ (s : Segment)
        (has_string : segment_string all heads s ≡ string_of (nodes_of before heads) b) where
      pub second_string : segment_string all heads s ≡ string_of (nodes_of bodies heads) b
      second_string = has_string ∙ ap (λ ns. string_of ns b) nodes_before

      pub second_is_body : segment_string all heads s ≡ string_of (nodes_of all heads) b
      second_is_body = second_string ∙ sym (ap (λ ns. string_of ns b) nodes_same)

pub bodies_stay : (bodies more all : List ℕ) → all ≡ bodies ++ more
    → take (length bodies) all ≡ bodies
bodies_stay bodies more all all_is = ap (take (length bodies)) all_is ∙ take-append_seam bodies more

pub equal_if_same : (u v : List ℕ) → u ≡ v → true ≡ bytes_eq u v
equal_if_same u v same = sym ((bytes_eq-Decides u v).1 same)

pub equal_if_empty : (u v : List ℕ) → length u ≡ 0 → length v ≡ 0 → true ≡ bytes_eq u v
equal_if_empty u v h1 h2 = grind (arith, common_steps)
