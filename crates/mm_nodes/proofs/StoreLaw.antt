-- Nodes are added and given up, and the others stay.
use Rattle.std.proofs.lemmas.Grind.{common_steps}
use Rattle.std.proofs.Common.{◌≡◌, ℕ, zero, suc, ◌+◌, ◌-◌, ◌<◌, ◌≤◌, ◌⊎◌, inl, inr, List, [], ◌∷◌}
use Rattle.std.proofs.Common.{◌++◌, length, take, drop, get_or, slice_range, refl, sym, ap, ap₂}
use Rattle.std.proofs.Common.{◌∙◌, subst, arith, All, length-append, nat_lt, false, length-drop}
use Rattle.std.proofs.lemmas.List.{take-append-drop, length-take-le, take-append-le, drop_at}
use Rattle.std.proofs.lemmas.List.{take_all, drop-append-le, get_or_append_left, get_or-append-add}
use Rattle.std.proofs.lemmas.List.{get_or_past, get_or-take}
use Rattle.std.specs.List.{AllByRecursion}
use Rattle.std.proofs.lemmas.List.Elements.{recursion_from_All}
use Rattle.std.proofs.lemmas.Bool.{cases_lt}
use Rattle.std.proofs.lemmas.Bool.Decides.{nat_tests}
use Rattle.mm_nodes.specs.declared.heads.Head.{Head}
use Rattle.mm_nodes.specs.Strings.{first_node, no_body, body_string, strings_after, strings_of}
use Rattle.mm_nodes.specs.Strings.{string_of, joined_string_of, IsBody, IsMade}
use Rattle.mm_nodes.specs.Store.{no_head, nodes_of, Follow, IsNode, AreNodes, IsStore}
use Rattle.mm_nodes.proofs.StringLaw.{length_strings, string_stays, strings_append, body_stays}
use Rattle.mm_nodes.proofs.StringLaw.{strings_take, node_string}

-- ---- segments

pub empty_range : (xs : List ℕ) (a b : ℕ) → b ≤ a → slice_range xs a b ≡ []
empty_range xs a b b_le_a = grind (arith, common_steps)

pub range_of_front : (xs ys : List ℕ) (a b : ℕ) → b ≤ length xs
    → slice_range (xs ++ ys) a b ≡ slice_range xs a b
range_of_front xs ys a b b_le =
    grind (arith, common_steps, cases_lt, empty_range, drop-append-le, take-append-le, length-drop)

pub range_behind : (xs ys : List ℕ) (a b : ℕ) → a ≡ length xs → b ≡ length (xs ++ ys)
    → slice_range (xs ++ ys) a b ≡ ys
range_behind xs ys a b a_is b_is = grind (arith, common_steps, drop_at, take_all, length-append)

-- ---- the bodies of each node

pub length_nodes : (bodies : List ℕ) (heads : List Head)
    → length (nodes_of bodies heads) ≡ length heads
length_nodes bodies heads = grind (arith, common_steps)

pub node_at : (bodies : List ℕ) (heads : List Head) (i : ℕ) → i < length heads
    → get_or (nodes_of bodies heads) i []
    ≡ slice_range bodies (get_or heads i no_head).start (get_or heads i no_head).end
node_at bodies heads i h1 = grind (arith, common_steps)

nodes_take : (bodies : List ℕ) (heads : List Head) (k : ℕ)
    → nodes_of bodies (take k heads) ≡ take k (nodes_of bodies heads)
nodes_take bodies heads zero = refl
nodes_take bodies [] (suc k) = refl
nodes_take bodies (h ∷ heads) (suc k) =
    ap (λ ns. slice_range bodies h.start h.end ∷ ns) (nodes_take bodies heads k)

nodes_append : (bodies : List ℕ) (heads more : List Head)
    → nodes_of bodies (heads ++ more) ≡ nodes_of bodies heads ++ nodes_of bodies more
nodes_append bodies heads more = grind (arith, common_steps, slice_range)

pub nodes_with_more : (bodies more : List ℕ) (heads : List Head)
    → ((i : ℕ) → i < length heads → (get_or heads i no_head).end ≤ length bodies)
    → nodes_of (bodies ++ more) heads ≡ nodes_of bodies heads
nodes_with_more bodies more [] ends_le = refl
nodes_with_more bodies more (h ∷ heads) ends_le =
    ap₂ (λ bs ns. bs ∷ ns)
    (range_of_front bodies more h.start h.end (ends_le 0 (omega arith)))
    (nodes_with_more bodies more heads (λ i i_lt. ends_le (suc i) (omega (arith, i_lt))))

-- ---- they follow one another

follow_rises : (from : ℕ) (heads : List Head) (to : ℕ) → Follow from heads to → from ≤ to
follow_rises from [] to follow = omega (arith, follow)
follow_rises from (h ∷ heads) to follow =
    let from_le_end = follow.1 in let end_le_to = follow_rises h.end heads to follow.2 in
    omega (arith, from_le_end, end_le_to)

pub end_le : (from : ℕ) (heads : List Head) (to i : ℕ) → Follow from heads to → i < length heads
    → (get_or heads i no_head).end ≤ to
end_le from [] to i follow i_lt = absurd (omega arith)
end_le from (h ∷ heads) to zero follow i_lt = follow_rises h.end heads to follow.2
end_le from (h ∷ heads) to (suc i) follow i_lt = end_le h.end heads to i follow.2 (omega arith)

start_le : (from : ℕ) (heads : List Head) (to i : ℕ) → Follow from heads to → i < length heads
    → (get_or heads i no_head).start ≤ to
start_le from [] to i follow i_lt = absurd (omega arith)
start_le from (h ∷ heads) to zero follow i_lt = grind (arith, common_steps, follow_rises)
start_le from (h ∷ heads) to (suc i) follow i_lt = start_le h.end heads to i follow.2 (omega arith)

follow_take : (from : ℕ) (heads : List Head) (to k : ℕ) → Follow from heads to → k < length heads
    → Follow from (take k heads) (get_or heads k no_head).start
follow_take from [] to k follow k_lt = absurd (omega arith)
follow_take from (h ∷ heads) to zero follow k_lt = sym follow.0
follow_take from (h ∷ heads) to (suc k) follow k_lt =
    (follow.0, follow.1, follow_take h.end heads to k follow.2 (omega arith))

follow_push : (from : ℕ) (heads : List Head) (to : ℕ) (h : Head) → Follow from heads to
    → h.start ≡ to → to ≤ h.end → Follow from (heads ++ h ∷ []) h.end
follow_push from [] to h follow start_is to_le = grind (arith, common_steps)
follow_push from (x ∷ heads) to h follow start_is to_le =
    (follow.0, follow.1, follow_push x.end heads to h follow.2 start_is to_le)

-- ---- strings

-- a body that is no node has no symbols
pub no_string : (nodes : List (List ℕ)) (b i : ℕ) → b ≡ first_node + i → length nodes ≤ i
    → string_of nodes b ≡ []
no_string nodes b i b_is le = grind (arith, common_steps, length_strings, get_or_past)

-- a node has the strings of its bodies
pub string_of_node : (nodes : List (List ℕ)) (b i : ℕ) → b ≡ first_node + i → i < length nodes
    → All (λ b. b < first_node + i) (get_or nodes i [])
    → string_of nodes b ≡ joined_string_of nodes (get_or nodes i [])
string_of_node nodes b i b_is i_lt are_below = grind (arith, nat_tests, node_string)

-- the string of a body stays as nodes are added
pub string_with_more : (nodes more : List (List ℕ)) (b : ℕ) → IsBody nodes b
    → string_of (nodes ++ more) b ≡ string_of nodes b
string_with_more nodes more b is_body =
    grind (arith, common_steps, length_strings, strings_append, body_stays)

-- ---- a node among others

node_kept : (bodies bodies' : List ℕ) (heads heads' : List Head) (i : ℕ) → IsNode bodies heads i
    → get_or heads' i no_head ≡ get_or heads i no_head
    → (get_or heads i no_head).end ≤ length bodies'
    → get_or (nodes_of bodies' heads') i [] ≡ get_or (nodes_of bodies heads) i []
    → get_or (strings_of (nodes_of bodies' heads')) i []
    ≡ get_or (strings_of (nodes_of bodies heads)) i []
    → IsNode bodies' heads' i
node_kept bodies bodies' heads heads' i is_node head_is end_le node_is string_is =
    grind (arith, common_steps, end_le)

-- nodes stay if bodies are put behind theirs
pub nodes_are_kept : (bodies more : List ℕ) (heads : List Head) → AreNodes bodies heads
    → AreNodes (bodies ++ more) heads
nodes_are_kept bodies more heads are_nodes i i_lt =
    let same = nodes_with_more bodies more heads (λ j j_lt. (are_nodes j j_lt).end_le_length) in
    let end_le = (are_nodes i i_lt).end_le_length in
    node_kept bodies (bodies ++ more) heads heads i (are_nodes i i_lt) refl
    (omega (arith, end_le, length-append bodies more)) (ap (λ ns. get_or ns i []) same)
    (ap (λ ns. get_or (strings_of ns) i []) same)

-- ---- nodes are given up

module _ (bodies : List ℕ) (heads : List Head) (k m : ℕ) (is_store : IsStore bodies heads)
    (k_lt : k < length heads) (m_is : m ≡ (get_or heads k no_head).start) where
  m_le : m ≤ length bodies
  m_le = rw m_is (start_le 0 heads (length bodies) k is_store.follow k_lt)

  length_bodies : length (take m bodies) ≡ m
  length_bodies = length-take-le m bodies m_le

  length_heads : length (take k heads) ≡ k
  length_heads = length-take-le k heads (omega (arith, k_lt))

  kept_follow : Follow 0 (take k heads) (length (take m bodies))
  kept_follow =
      rw (length_bodies, m_is) (follow_take 0 heads (length bodies) k is_store.follow k_lt)

  pub nodes_cut : nodes_of (take m bodies) (take k heads) ≡ take k (nodes_of bodies heads)
  nodes_cut =
      sym (nodes_with_more (take m bodies) (drop m bodies) (take k heads)
      (λ i i_lt. end_le 0 (take k heads) (length (take m bodies)) i kept_follow i_lt))
      ∙ ap (λ bs. nodes_of bs (take k heads)) (take-append-drop m bodies)
      ∙ nodes_take bodies heads k

  pub store_cut : IsStore (take m bodies) (take k heads)
  store_cut = record {
    follow = kept_follow;
    are_nodes = λ i i_lt.
        let i_lt_k : i < k = omega (arith, i_lt, length_heads) in
        let nodes_count = length_nodes bodies heads in
        let taken_count : length (take k (nodes_of bodies heads)) ≡ k =
        length-take-le k (nodes_of bodies heads) (omega (arith, k_lt, nodes_count)) in
        let count = length_strings [] [] (take k (nodes_of bodies heads)) in
        node_kept bodies (take m bodies) heads (take k heads) i
        (is_store.are_nodes i (omega (arith, i_lt_k, k_lt)))
        (get_or-take k heads i no_head i_lt_k)
        (subst (λ (h : Head). h.end ≤ length (take m bodies)) (get_or-take k heads i no_head i_lt_k)
        (end_le 0 (take k heads) (length (take m bodies)) i kept_follow i_lt))
        (ap (λ ns. get_or ns i []) nodes_cut ∙ get_or-take k (nodes_of bodies heads) i [] i_lt_k)
        (ap (λ ns. get_or (strings_of ns) i []) nodes_cut
        ∙ sym (ap (λ ss. get_or ss i []) (strings_take [] (nodes_of bodies heads) k)
        ∙ string_stays [] (strings_of (take k (nodes_of bodies heads)))
        (drop k (nodes_of bodies heads)) i (omega (arith, count, taken_count, i_lt_k))));
    count_lt = let few = is_store.count_lt in omega (arith, length_heads, k_lt, few);
  }

-- ---- a node is added

module _ (bodies : List ℕ) (heads : List Head) (added : List ℕ) (h : Head)
    (is_store : IsStore bodies heads) (start_is : h.start ≡ length bodies)
    (end_is : h.end ≡ length (bodies ++ added))
    (length_is : h.length ≡ length (joined_string_of (nodes_of bodies heads) added))
    (are_bodies : All (IsBody (nodes_of bodies heads)) added)
    (count_lt : length heads + 1 < first_node) where
  kept_nodes : nodes_of (bodies ++ added) heads ≡ nodes_of bodies heads
  kept_nodes = nodes_with_more bodies added heads
      (λ i i_lt. (is_store.are_nodes i i_lt).end_le_length)

  pub nodes_pushed : nodes_of (bodies ++ added) (heads ++ h ∷ [])
      ≡ nodes_of bodies heads ++ added ∷ []
  nodes_pushed =
      nodes_append (bodies ++ added) heads (h ∷ [])
      ∙ ap₂ (λ (ns : List (List ℕ)) (bs : List ℕ). ns ++ bs ∷ []) kept_nodes
      (range_behind bodies added h.start h.end start_is end_is)

  pub strings_pushed : strings_of (nodes_of bodies heads ++ added ∷ [])
      ≡ strings_of (nodes_of bodies heads)
      ++ joined_string_of (nodes_of bodies heads) added ∷ []
  unfolding strings_after
  strings_pushed = strings_append [] [] (nodes_of bodies heads) (added ∷ [])

  pub store_pushed : IsStore (bodies ++ added) (heads ++ h ∷ [])
  store_pushed = record {
    follow =
        subst (λ (n : ℕ). Follow 0 (heads ++ h ∷ []) n) end_is
        (follow_push 0 heads (length bodies) h is_store.follow start_is
        (omega (arith, end_is, length-append bodies added)));
    are_nodes = λ i i_lt. by_case i (cases_lt i (length heads)) i_lt;
    count_lt = omega (arith, count_lt, length-append heads (h ∷ []));
  }
    where
      node_count : length (nodes_of bodies heads) ≡ length heads
      node_count = length_nodes bodies heads

      string_count : length (strings_of (nodes_of bodies heads)) ≡ length heads
      string_count = let count = length_strings [] [] (nodes_of bodies heads) in
          omega (arith, count, node_count)

      by_case : (i : ℕ) → (i < length heads) ⊎ (length heads ≤ i) → i < length (heads ++ h ∷ [])
          → IsNode (bodies ++ added) (heads ++ h ∷ []) i
      by_case i (inl i_before) i_lt =
          let end_le = (is_store.are_nodes i i_before).end_le_length in
          node_kept bodies (bodies ++ added) heads (heads ++ h ∷ []) i
          (is_store.are_nodes i i_before) (get_or_append_left heads (h ∷ []) no_head i i_before)
          (omega (arith, end_le, length-append bodies added))
          (ap (λ ns. get_or ns i []) nodes_pushed
          ∙ get_or_append_left (nodes_of bodies heads) (added ∷ []) [] i (omega (
            arith,
            node_count,
            i_before,
          )))
          (ap (λ ns. get_or (strings_of ns) i []) nodes_pushed
          ∙ ap (λ ss. get_or ss i []) strings_pushed
          ∙ get_or_append_left (strings_of (nodes_of bodies heads)) (joined_string_of
          (nodes_of bodies heads) added ∷ []) [] i
          (omega (arith, string_count, i_before)))
      by_case i (inr i_behind) i_lt =
          let i_is : i ≡ length heads + 0 =
          omega (arith, i_behind, i_lt, length-append heads (h ∷ [])) in
          let i_is_node : i ≡ length (nodes_of bodies heads) + 0 = omega (arith, i_is, node_count)
          in
          let i_is_string : i ≡ length (strings_of (nodes_of bodies heads)) + 0 =
          omega (arith, i_is, string_count) in
          let head_is : get_or (heads ++ h ∷ []) i no_head ≡ h =
          ap (λ n. get_or (heads ++ h ∷ []) n no_head) i_is
          ∙ get_or-append-add heads (h ∷ []) 0 no_head in
          record {
            start_le_end =
                subst (λ (x : Head). x.start ≤ x.end) (sym head_is)
                (omega (arith, start_is, end_is, length-append bodies added));
            end_le_length =
                subst (λ (x : Head). x.end ≤ length (bodies ++ added)) (sym head_is)
                (omega (arith, end_is));
            bodies_below =
                let below_is : length (nodes_of bodies heads) ≡ i =
                omega (arith, i_is, node_count) in
                subst (λ (bs : List ℕ). All (λ b. b < first_node + i) bs)
                (sym (ap (λ ns. get_or ns i []) nodes_pushed
                ∙ ap (λ n. get_or (nodes_of bodies heads ++ added ∷ []) n []) i_is_node
                ∙ get_or-append-add (nodes_of bodies heads) (added ∷ []) 0 []))
                (subst (λ (n : ℕ). All (λ b. b < first_node + n) added) below_is are_bodies);
            length_is =
                ap (λ x. x.length) head_is ∙ length_is
                ∙ ap length (sym (ap (λ ns. get_or (strings_of ns) i []) nodes_pushed
                ∙ ap (λ ss. get_or ss i []) strings_pushed
                ∙ ap (λ n. get_or (strings_of (nodes_of bodies heads)
                ++ joined_string_of (nodes_of bodies heads) added ∷ []) n []) i_is_string
                ∙ get_or-append-add (strings_of (nodes_of bodies heads))
                (joined_string_of (nodes_of bodies heads) added ∷ []) 0 []));
          }

  pub made_by_push : 0 < length added → (nodes' : List (List ℕ)) (b : ℕ) → nodes' ≡ nodes_of bodies
      heads ++ added ∷ []
      → b ≡ first_node + length heads → IsMade (nodes_of bodies heads) nodes' added b
  made_by_push has_bodies nodes' b nodes_are b_is =
      let node_count = length_nodes bodies heads in
      let count = length_strings [] [] (nodes_of bodies heads) in
      let is_no_symbol : nat_lt b first_node ≡ false = grind (arith, nat_tests) in
      let index_is : b - first_node ≡ length (strings_of (nodes_of bodies heads)) + 0 =
      omega (arith, b_is, count, node_count) in
      record {
        is_body = λ some.
            let new_count = ap length nodes_are in
            omega (
              arith,
              b_is,
              new_count,
              node_count,
              length-append (nodes_of bodies heads) (added ∷ []),
            );
        is_none = λ no_length. absurd (omega (arith, has_bodies, no_length));
        string_is =
            ap (λ ns. string_of ns b) nodes_are
            ∙ ap (λ ss. body_string ss b) strings_pushed
            ∙ rw (is_no_symbol, index_is)
            (get_or-append-add (strings_of (nodes_of bodies heads))
            (joined_string_of (nodes_of bodies heads) added ∷ []) 0 []);
      }

-- ---- what a caller sees of a body

pub nothing_made : (nodes : List (List ℕ)) → length nodes < first_node
    → (bodies : List ℕ) → length bodies ≡ 0 → (b : ℕ) → b ≡ no_body → IsMade nodes nodes bodies b
nothing_made nodes count_lt [] none b b_is = grind (arith, nat_tests, no_string)
nothing_made nodes count_lt (x ∷ bodies) none b b_is = absurd (omega (arith, none))

-- the string of a node
pub listed_string : (bodies : List ℕ) (heads : List Head) → AreNodes bodies heads
    → (b i : ℕ) → b ≡ first_node + i → i < length heads
    → string_of (nodes_of bodies heads) b
    ≡ joined_string_of (nodes_of bodies heads) (get_or (nodes_of bodies heads) i [])
listed_string bodies heads are_nodes b i b_is i_lt =
    grind (arith, nat_tests, length_nodes, string_of_node)

-- what has symbols is a body
pub body_if_some : (nodes : List (List ℕ)) (b : ℕ) → 0 < length (string_of nodes b)
    → IsBody nodes b
body_if_some nodes b some = by_case (cases_lt b (first_node + length nodes))
  where
    by_case : (b < first_node + length nodes) ⊎ (first_node + length nodes ≤ b) → IsBody nodes b
    by_case (inl b_lt) = b_lt
    by_case (inr b_ge) =
        let none = ap length (no_string nodes b (b - first_node) (omega (arith, b_ge))
        (omega (arith, b_ge))) in
        absurd (omega (arith, none, some))

-- the string of a body stays as nodes behind it are given up
pub string_when_cut : (nodes : List (List ℕ)) (k b : ℕ) → k ≤ length nodes → b < first_node + k
    → string_of (take k nodes) b ≡ string_of nodes b
string_when_cut nodes k b k_le b_lt =
    let count = length-take-le k nodes k_le in
    sym (string_with_more (take k nodes) (drop k nodes) b (omega (arith, count, b_lt)))
    ∙ ap (λ ns. string_of ns b) (take-append-drop k nodes)

-- the strings of bodies stay
pub joined_when_cut : (nodes : List (List ℕ)) (k : ℕ) (bodies : List ℕ) → k ≤ length nodes
    → All (λ b. b < first_node + k) bodies
    → joined_string_of (take k nodes) bodies ≡ joined_string_of nodes bodies
joined_when_cut nodes k bodies k_le are_below =
    each bodies (recursion_from_All (λ b. b < first_node + k) bodies are_below)
  where
    each : (bodies : List ℕ) → AllByRecursion (λ b. b < first_node + k) bodies
        → joined_string_of (take k nodes) bodies ≡ joined_string_of nodes bodies
    each [] are_below = refl
    each (b ∷ bodies) are_below =
        ap₂ (λ u v. u ++ v) (string_when_cut nodes k b k_le are_below.0) (each bodies are_below.1)
