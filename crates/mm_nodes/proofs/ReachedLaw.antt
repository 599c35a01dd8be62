-- The symbols of a string are found in its nodes, each gone through once.
use Rattle.std.proofs.lemmas.Grind.{common_steps}
use Rattle.std.proofs.lemmas.Bool.Decides.{nat_tests}
use Rattle.std.proofs.Common.{◌≡◌, ℕ, zero, suc, ◌+◌, ◌-◌, ◌<◌, ◌≤◌, ◌⊎◌, inl, inr, Bool, true, false}
use Rattle.std.proofs.Common.{List, [], ◌∷◌, ◌++◌, length, take, get_or, All, refl, sym, ap, ◌∙◌}
use Rattle.std.proofs.Common.{subst, arith, append-nil, append_assoc, nat_lt, eqb, length-append}
use Rattle.std.proofs.Common.{slice_set, AllPairs, eqb-true, eq-eqb}
use Rattle.std.proofs.Math.Seq.{get_or-append_seam}
use Rattle.std.specs.List.{Contains, list_all, list_any}
use Rattle.std.proofs.lemmas.Bool.{cases_lt, and_parts, and_from}
use Rattle.std.proofs.lemmas.List.{take_more, get_or_append_left, get_or_default}
use Rattle.std.proofs.lemmas.List.{get_or-set_same, get_or-set_other, length-set}
use Rattle.std.proofs.lemmas.List.Folds.{list_all-append}
use Rattle.std.proofs.lemmas.List.Sums.{AllPass-from_list_all}
use Rattle.std.proofs.lemmas.List.Elements.{All-push, All-weaker, All-nil, All-cons, All-head, All-tail}
use Rattle.std.proofs.lemmas.List.Elements.{Contains-append_left, Contains-push}
use Rattle.std.proofs.lemmas.Map.Steps.{length-le_from_distinct_below}
use Rattle.std.proofs.lemmas.Map.Made.{IsDistinct-from_AllPairs}
use Rattle.mm_nodes.specs.Strings.{first_node, body_string, joined_strings, strings_of, HaveSameSymbols}
use Rattle.mm_nodes.specs.Reached.{HaveSlots, ReachesToo, IsCovered, ReachesBodies}
use Rattle.mm_nodes.proofs.StringLaw.{node_string}

-- an element of a list passes the test that all elements pass
passes_in : (test : ℕ → Bool) (xs : List ℕ) (x : ℕ) → list_all test xs ≡ true → Contains xs x
    → test x ≡ true
passes_in test xs x all_pass (k, k_lt, is_x) =
    subst (λ y. test y ≡ true) is_x (AllPass-from_list_all test xs all_pass k x k_lt)

-- ---- lists that are one longer

all_but_last : (P : ℕ → Type 0) (xs : List ℕ) (x : ℕ) → All P (xs ++ x ∷ []) → All P xs
all_but_last P xs x all k d k_lt =
    subst P (get_or_append_left xs (x ∷ []) d k k_lt)
    (all k d (omega (arith, length-append xs (x ∷ []), k_lt)))

last_of : (P : ℕ → Type 0) (xs : List ℕ) (x : ℕ) → All P (xs ++ x ∷ []) → P x
last_of P xs x all =
    subst P (get_or-append_seam xs x [] x)
    (all (length xs) x (omega (arith, length-append xs (x ∷ []))))

-- ---- one more body

-- what a node that is a body must be for the test, and what a symbol must be
abbrev NodePasses : (ℕ → Bool) → ℕ → Type 0
NodePasses test b = (n : ℕ) → b ≡ first_node + n → test n ≡ true

abbrev SymbolPasses : (ℕ → Bool) → ℕ → Type 0
SymbolPasses test b = b < first_node → test b ≡ true

both_pass : (test : ℕ → Bool) (xs ys : List ℕ) → list_all test xs ≡ true → list_all test ys ≡ true
    → list_all test (xs ++ ys) ≡ true
both_pass test xs ys xs_pass ys_pass = list_all-append test xs ys ∙ rw (xs_pass, ys_pass) refl

covered_still : (w v l m : List ℕ) (b : ℕ) → IsCovered w l b → IsCovered (w ++ v) (l ++ m) b
covered_still w v l m b covered = record {
  symbol = λ lt. Contains-append_left l m b (covered.symbol lt);
  node = λ n is. Contains-append_left w v n (covered.node n is);
}

module _ (bodies w l w' l' : List ℕ) (b : ℕ) (so_far : ReachesBodies bodies w l w' l')
    (v m : List ℕ) (covered : IsCovered (w' ++ v) (l' ++ m) b)
    (node_passes : (test : ℕ → Bool) → NodePasses test b → list_all test v ≡ true)
    (symbol_passes : (test : ℕ → Bool) → SymbolPasses test b → list_all test m ≡ true) where
  reaches_one_more : ReachesBodies (bodies ++ b ∷ []) w l (w' ++ v) (l' ++ m)
  reaches_one_more = record {
    more_reached = (
      so_far.more_reached.0 ++ v,
      ap (λ x. x ++ v) so_far.more_reached.1 ∙ append_assoc w so_far.more_reached.0 v,
    );
    more_symbols = (
      so_far.more_symbols.0 ++ m,
      ap (λ x. x ++ m) so_far.more_symbols.1 ∙ append_assoc l so_far.more_symbols.0 m,
    );
    are_covered = All-push (IsCovered (w' ++ v) (l' ++ m)) bodies b
        (All-weaker (IsCovered w' l') (IsCovered (w' ++ v) (l' ++ m))
        (λ c is. covered_still w' v l' m c is) bodies so_far.are_covered) covered;
    nodes_pass = λ test before pass.
        both_pass test w' v
        (so_far.nodes_pass test before (all_but_last (NodePasses test) bodies b pass))
        (node_passes test (last_of (NodePasses test) bodies b pass));
    symbols_pass = λ test before pass.
        both_pass test l' m
        (so_far.symbols_pass test before (all_but_last (SymbolPasses test) bodies b pass))
        (symbol_passes test (last_of (SymbolPasses test) bodies b pass));
  }

one_passes : (test : ℕ → Bool) (n : ℕ) → test n ≡ true → list_all test (n ∷ []) ≡ true
one_passes test n passes = grind (arith, common_steps)

-- a symbol is listed
pub symbol_is_listed : (bodies w l w' l' l'' : List ℕ) (i b : ℕ) → i < length bodies
    → b ≡ get_or bodies i b → b < first_node → l'' ≡ l' ++ b ∷ []
    → ReachesBodies (take i bodies) w l w' l' → ReachesBodies (take (i + 1) bodies) w l w' l''
symbol_is_listed bodies w l w' l' l'' i b i_lt b_is lt l''_is so_far =
    subst (λ (z : List ℕ). ReachesBodies z w l w' l'')
    (sym (take_more bodies i b i_lt ∙ ap (λ x. take i bodies ++ x ∷ []) (sym b_is)))
    (subst (λ (z : List ℕ). ReachesBodies (take i bodies ++ b ∷ []) w l w' z) (sym l''_is)
    (subst (λ (z : List ℕ). ReachesBodies (take i bodies ++ b ∷ []) w l z (l' ++ b ∷ []))
    (append-nil w')
    (reaches_one_more (take i bodies) w l w' l' b so_far [] (b ∷ [])
    (record {
      symbol = λ _. Contains-push l' b;
      node = λ n is. absurd (omega (arith, is, lt));
    })
    (λ test pass. refl) (λ test pass. one_passes test b (pass lt)))))

-- a node is reached
pub node_is_reached : (bodies w l w' l' w'' : List ℕ) (i b n : ℕ) → i < length bodies
    → b ≡ get_or bodies i b → b ≡ first_node + n → ReachesToo n w' w''
    → ReachesBodies (take i bodies) w l w' l' → ReachesBodies (take (i + 1) bodies) w l w'' l'
node_is_reached bodies w l w' l' w'' i b n i_lt b_is is reaches so_far =
    subst (λ (z : List ℕ). ReachesBodies z w l w'' l')
    (sym (take_more bodies i b i_lt ∙ ap (λ x. take i bodies ++ x ∷ []) (sym b_is)))
    (subst (λ (z : List ℕ). ReachesBodies (take i bodies ++ b ∷ []) w l w'' z) (append-nil l')
    (by reaches))
  where
    is_covered : (v : List ℕ) → Contains (w' ++ v) n → IsCovered (w' ++ v) (l' ++ []) b
    is_covered v has = record {
      symbol = λ lt. absurd (omega (arith, is, lt));
      node = λ k k_is. subst (Contains (w' ++ v)) (omega (arith, is, k_is)) has;
    }

    by : ReachesToo n w' w'' → ReachesBodies (take i bodies ++ b ∷ []) w l w'' (l' ++ [])
    by (inl (has, w''_is)) =
        subst (λ (z : List ℕ). ReachesBodies (take i bodies ++ b ∷ []) w l z (l' ++ []))
        (append-nil w' ∙ sym w''_is)
        (reaches_one_more (take i bodies) w l w' l' b so_far [] []
        (is_covered [] (Contains-append_left w' [] n has)) (λ test pass. refl)
        (λ test pass. refl))
    by (inr w''_is) =
        subst (λ (z : List ℕ). ReachesBodies (take i bodies ++ b ∷ []) w l z (l' ++ []))
        (sym w''_is)
        (reaches_one_more (take i bodies) w l w' l' b so_far (n ∷ []) []
        (is_covered (n ∷ []) (Contains-push w' n)) (λ test pass. one_passes test n (pass n is))
        (λ test pass. refl))

pub reaches_none : (w l : List ℕ) → ReachesBodies [] w l w l
reaches_none w l = record {
  more_reached = ([], sym (append-nil w));
  more_symbols = ([], sym (append-nil l));
  are_covered = All-nil (IsCovered w l);
  nodes_pass = λ test before pass. before;
  symbols_pass = λ test before pass. before;
}

-- ---- slots

-- a node that was reached by now gets a slot
pub slots_after : (ns slots slots' : List ℕ) (node : ℕ) → HaveSlots ns slots
    → (Contains ns node → ⊥)
    → ((k : ℕ) → k < length slots
    → (k < length slots') × (get_or slots' k 0 ≡ get_or slots k 0))
    → node < length slots' → HaveSlots (ns ++ node ∷ []) (slice_set slots' node (length ns))
slots_after ns slots slots' node have_slots lacks stay node_lt k k_lt =
    by (cases_lt k (length ns))
  where
    after : List ℕ
    after = slice_set slots' node (length ns)

    IsSlot : ℕ → ℕ → Type 0
    IsSlot n k = (n < length after) × (get_or after n 0 ≡ k)

    by : (k < length ns) ⊎ (length ns ≤ k) → IsSlot (get_or (ns ++ node ∷ []) k 0) k
    by (inl lt) =
        let n : ℕ = get_or ns k 0 in
        let same : get_or (ns ++ node ∷ []) k 0 ≡ n = get_or_append_left ns (node ∷ []) 0 k lt in
        let is_other : (n ≡ node → ⊥) =
        (λ is. lacks (k, lt, get_or_default ns k node 0 lt ∙ is)) in
        let old = have_slots k lt in
        let stays = stay n old.0 in
        subst (λ z. IsSlot z k) (sym same) (
          omega (arith, length-set slots' node (length ns), stays.0),
          get_or-set_other slots' node n (length ns) 0 is_other ∙ stays.1 ∙ old.1,
        )
    by (inr le) =
        let k_is : k ≡ length ns = omega (arith, k_lt, length-append ns (node ∷ []), le) in
        let same : get_or (ns ++ node ∷ []) k 0 ≡ node =
        ap (λ i. get_or (ns ++ node ∷ []) i 0) k_is ∙ get_or-append_seam ns node [] 0 in
        subst (λ z. IsSlot z k) (sym same) (
          omega (arith, length-set slots' node (length ns), node_lt),
          get_or-set_same slots' node (length ns) 0 node_lt ∙ sym k_is,
        )

module _ (ns slots : List ℕ) (have_slots : HaveSlots ns slots) where
  each_once : AllPairs (λ x y. x ≡ y → ⊥) ns
  each_once i j d i_lt j_lt same =
      let first = have_slots i (omega arith) in
      let second = have_slots j j_lt in
      let again : get_or ns i 0 ≡ get_or ns j 0 =
      get_or_default ns i 0 d (omega arith) ∙ same ∙ get_or_default ns j d 0 j_lt in
      let equal : i ≡ j = sym first.1 ∙ ap (λ n. get_or slots n 0) again ∙ second.1 in
      absurd (omega (arith, equal))

  -- nodes that are reached once each are no more than there are
  pub few_reached : (count : ℕ) → list_all (λ n. nat_lt n count) ns ≡ true → length ns ≤ count
  few_reached count all_below =
      length-le_from_distinct_below ns count
      (IsDistinct-from_AllPairs (λ a b. (eqb-true a b, eq-eqb a b)) ns each_once) (below ns all_below)
    where
      below : (ns : List ℕ) → list_all (λ n. nat_lt n count) ns ≡ true → (n : ℕ)
          → list_any (eqb n) ns ≡ true → n < count
      below [] all_below n has = absurd cc
      below (m ∷ ns) all_below n has =
          grind (arith, common_steps, nat_tests, below ns)

-- ---- from node to node

same_if_both : (a b : Bool) → (a ≡ true → b ≡ true) → (b ≡ true → a ≡ true) → a ≡ b
same_if_both true b to from = sym (to refl)
same_if_both false true to from = from refl
same_if_both false false to from = refl

-- the string of a node
abbrev node_string_of : List (List ℕ) → ℕ → List ℕ
node_string_of nodes n = get_or (strings_of nodes) n []

-- the walk from the node `root` has gone through the first `count` of the nodes that it reached
pub record HasWalked (nodes : List (List ℕ)) (root count : ℕ) (w l : List ℕ) : Type 0 where
  pub has_root : Contains w root
  pub all_below : list_all (λ n. nat_lt n (length nodes)) w ≡ true
  pub is_sound : (test : ℕ → Bool) → list_all test (node_string_of nodes root) ≡ true
      → (list_all (λ n. list_all test (node_string_of nodes n)) w ≡ true)
      × (list_all test l ≡ true)
  pub are_covered : (j : ℕ) → j < count → All (IsCovered w l) (get_or nodes (get_or w j 0) [])

module _ (nodes : List (List ℕ)) (bodies_below : (n : ℕ) → n < length nodes
    → All (λ b. b < first_node + n) (get_or nodes n [])) where
  abbrev Passes : (ℕ → Bool) → ℕ → Type 0
  Passes test b = list_all test (body_string (strings_of nodes) b) ≡ true

  parts_pass : (test : ℕ → Bool) (bs : List ℕ)
      → list_all test (joined_strings (strings_of nodes) bs) ≡ true → All (Passes test) bs
  parts_pass test [] pass = All-nil (Passes test)
  parts_pass test (b ∷ bs) pass =
      let both = and_parts _ _
      (sym (list_all-append test (body_string (strings_of nodes) b)
      (joined_strings (strings_of nodes) bs)) ∙ pass) in
      All-cons (Passes test) b bs both.0 (parts_pass test bs both.1)

  pass_if_parts : (test : ℕ → Bool) (bs : List ℕ) → All (Passes test) bs
      → list_all test (joined_strings (strings_of nodes) bs) ≡ true
  pass_if_parts test [] pass = refl
  pass_if_parts test (b ∷ bs) pass =
      list_all-append test (body_string (strings_of nodes) b)
      (joined_strings (strings_of nodes) bs)
      ∙ and_from _ _ (All-head (Passes test) b bs pass)
      (pass_if_parts test bs (All-tail (Passes test) b bs pass))

  string_is : (n : ℕ) → n < length nodes
      → node_string_of nodes n ≡ joined_strings (strings_of nodes) (get_or nodes n [])
  string_is n n_lt = node_string [] nodes n n_lt (bodies_below n n_lt)

  -- a node as a body has its string, and a symbol is its own
  node_passes : (test : ℕ → Bool) (b n : ℕ) → b ≡ first_node + n → Passes test b
      → list_all test (node_string_of nodes n) ≡ true
  node_passes test b n is passes = grind (arith, nat_tests, common_steps)

  body_passes : (test : ℕ → Bool) (b n : ℕ) → b ≡ first_node + n
      → list_all test (node_string_of nodes n) ≡ true → Passes test b
  body_passes test b n is passes = grind (arith, nat_tests, common_steps)

  symbol_passes : (test : ℕ → Bool) (b : ℕ) → b < first_node → Passes test b → test b ≡ true
  symbol_passes test b lt passes = grind (arith, nat_tests, common_steps)

  passes_if_symbol : (test : ℕ → Bool) (b : ℕ) → b < first_node → test b ≡ true → Passes test b
  passes_if_symbol test b lt passes = grind (arith, nat_tests, common_steps)

  pub walk_begins : (root : ℕ) (w : List ℕ) → root < length nodes → ReachesToo root [] w
      → HasWalked nodes root 0 w []
  walk_begins root w root_lt (inl ((k, k_lt, k_is), w_is)) = absurd (omega (arith, k_lt))
  walk_begins root w root_lt (inr w_is) =
      subst (λ (z : List ℕ). HasWalked nodes root 0 z []) (sym w_is) (record {
        has_root = Contains-push [] root;
        all_below = one_passes (λ n. nat_lt n (length nodes)) root (grind (arith, nat_tests));
        is_sound = λ test passes.
            (one_passes (λ n. list_all test (node_string_of nodes n)) root passes, refl);
        are_covered = λ j j_lt. absurd (omega (arith, j_lt));
      })

  module _ (root index : ℕ) (w l : List ℕ) (so_far : HasWalked nodes root index w l)
      (index_lt : index < length w) where
    abbrev next : ℕ
    next = get_or w index 0

    next_in : Contains w next
    next_in = (index, index_lt, get_or_default w index next 0 index_lt)

    pub next_lt : next < length nodes
    next_lt =
        let is = passes_in (λ n. nat_lt n (length nodes)) w next so_far.all_below next_in in
        grind (arith, nat_tests)

    pub walks_on : (w' l' : List ℕ) → ReachesBodies (get_or nodes next []) w l w' l'
        → HasWalked nodes root (index + 1) w' l'
    walks_on w' l' reaches = record {
      has_root = subst (λ z. Contains z root) (sym reaches.more_reached.1)
          (Contains-append_left w reaches.more_reached.0 root so_far.has_root);
      all_below = reaches.nodes_pass (λ n. nat_lt n (length nodes)) so_far.all_below
          (All-weaker (λ b. b < first_node + next)
          (NodePasses (λ n. nat_lt n (length nodes))) part_below (get_or nodes next [])
          (bodies_below next next_lt));
      is_sound = λ test passes. (
        reaches.nodes_pass (λ n. list_all test (node_string_of nodes n))
            (so_far.is_sound test passes).0
            (All-weaker (Passes test) (NodePasses (λ n. list_all test (node_string_of nodes n)))
            (λ b b_passes n is. node_passes test b n is b_passes) (get_or nodes next [])
            (next_parts test passes)),
        reaches.symbols_pass test (so_far.is_sound test passes).1
            (All-weaker (Passes test) (SymbolPasses test)
            (λ b b_passes lt. symbol_passes test b lt b_passes) (get_or nodes next [])
            (next_parts test passes)),
      );
      are_covered = λ j j_lt. covered j j_lt (cases_lt j index);
    }
      where
        part_below : (b : ℕ) → b < first_node + next
            → NodePasses (λ n. nat_lt n (length nodes)) b
        part_below b b_lt n is =
            let n_lt : n < length nodes = omega (arith, b_lt, is, next_lt) in
            grind (arith, nat_tests)

        next_parts : (test : ℕ → Bool) → list_all test (node_string_of nodes root) ≡ true
            → All (Passes test) (get_or nodes next [])
        next_parts test passes =
            parts_pass test (get_or nodes next [])
            (ap (list_all test) (sym (string_is next next_lt))
            ∙ passes_in (λ n. list_all test (node_string_of nodes n)) w next
            (so_far.is_sound test passes).0 next_in)

        stays : (j : ℕ) → j < length w → get_or w' j 0 ≡ get_or w j 0
        stays j j_lt = ap (λ z. get_or z j 0) reaches.more_reached.1
            ∙ get_or_append_left w reaches.more_reached.0 0 j j_lt

        covered : (j : ℕ) → j < index + 1 → (j < index) ⊎ (index ≤ j)
            → All (IsCovered w' l') (get_or nodes (get_or w' j 0) [])
        covered j j_lt (inl lt) =
            rw (stays j (omega (arith, lt, index_lt)))
            (All-weaker (IsCovered w l) (IsCovered w' l')
            (λ b is. rw (reaches.more_reached.1, reaches.more_symbols.1)
            (covered_still w reaches.more_reached.0 l reaches.more_symbols.0 b is))
            (get_or nodes (get_or w j 0) []) (so_far.are_covered j lt))
        covered j j_lt (inr le) =
            let j_is : j ≡ index = omega (arith, j_lt, le) in
            rw (j_is, stays index index_lt) reaches.are_covered

  module _ (root index : ℕ) (w l : List ℕ) (walked : HasWalked nodes root index w l)
      (le : length w ≤ index) (test : ℕ → Bool) (l_passes : list_all test l ≡ true) where
    -- a body of a node passes, if the nodes before that one do
    part_passes : (n b : ℕ) → ((m : ℕ) → m < n → Contains w m
        → list_all test (node_string_of nodes m) ≡ true)
        → b < first_node + n → IsCovered w l b → (b < first_node) ⊎ (first_node ≤ b)
        → Passes test b
    part_passes n b before b_lt covered (inl lt) =
        passes_if_symbol test b lt (passes_in test l b l_passes (covered.symbol lt))
    part_passes n b before b_lt covered (inr le) =
        let is : b ≡ first_node + (b - first_node) = omega (arith, le) in
        body_passes test b (b - first_node) is
        (before (b - first_node) (omega (arith, b_lt, is)) (covered.node (b - first_node) is))

    pub walked_node_passes : (bound n : ℕ) → n < bound → Contains w n
        → list_all test (node_string_of nodes n) ≡ true
    walked_node_passes zero n n_lt has = absurd (omega (arith, n_lt))
    walked_node_passes (suc bound) n n_lt (k, k_lt, k_is) =
        let below = passes_in (λ n. nat_lt n (length nodes)) w n walked.all_below
        (k, k_lt, k_is) in
        let n_lt_length : n < length nodes = grind (arith, nat_tests) in
        let at_n : get_or w k 0 ≡ n = get_or_default w k 0 n k_lt ∙ k_is in
        let covered : All (IsCovered w l) (get_or nodes n []) =
        subst (λ m. All (IsCovered w l) (get_or nodes m [])) at_n
        (walked.are_covered k (omega (arith, k_lt, le))) in
        ap (list_all test) (string_is n n_lt_length) ∙ pass_if_parts test (get_or nodes n [])
        (λ i d i_lt. part_passes n (get_or (get_or nodes n []) i d)
        (λ m m_lt m_has. walked_node_passes bound m (omega (arith, m_lt, n_lt)) m_has)
        (bodies_below n n_lt_length i d i_lt) (covered i d i_lt)
        (cases_lt (get_or (get_or nodes n []) i d) first_node))

  pub all_is_walked : (root index : ℕ) (w l : List ℕ) → HasWalked nodes root index w l
      → length w ≤ index → HaveSameSymbols (node_string_of nodes root) l
  all_is_walked root index w l walked le test =
      same_if_both _ _ (λ passes. (walked.is_sound test passes).1) (λ l_passes.
      walked_node_passes root index w l walked le test l_passes (root + 1) root (omega arith)
      walked.has_root)
