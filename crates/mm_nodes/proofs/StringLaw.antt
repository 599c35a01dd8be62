-- The strings of nodes stay as nodes are added or given up.
use Rattle.std.proofs.lemmas.Grind.{common_steps}
use Rattle.std.proofs.Common.{◌≡◌, ℕ, zero, suc, ◌+◌, ◌<◌, List, [], ◌∷◌, ◌++◌, length, take}
use Rattle.std.proofs.Common.{drop, get_or, refl, sym, ap, ap₂, ◌∙◌, arith, All, length-append}
use Rattle.std.specs.List.{AllByRecursion}
use Rattle.std.proofs.lemmas.List.{take-append-drop, length-take-le, get_or_append_left}
use Rattle.std.proofs.lemmas.List.{get_or-append-add, get_or_past}
use Rattle.std.proofs.lemmas.Bool.Decides.{nat_tests}
use Rattle.std.proofs.lemmas.Bool.{cases_lt}
use Rattle.std.proofs.lemmas.List.Elements.{recursion_from_All, All-from_recursion, All-get_or}
use Rattle.std.proofs.lemmas.List.Elements.{All-nil, All-append, All-push}
use Rattle.mm_nodes.specs.Strings.{first_node, body_string, joined_strings, strings_after}
use Rattle.mm_nodes.specs.Strings.{strings_of}

module _ (front : List ℕ) where
  length_added : (ss : List (List ℕ)) (bs : List ℕ)
      → length (ss ++ (front ++ joined_strings ss bs) ∷ []) ≡ length ss + 1
  length_added ss bs = length-append ss ((front ++ joined_strings ss bs) ∷ [])

  pub length_strings : (ss ns : List (List ℕ))
      → length (strings_after front ss ns) ≡ length ss + length ns
  unfolding strings_after
  length_strings ss [] = omega arith
  length_strings ss (bs ∷ ns) =
      let rest = length_strings (ss ++ (front ++ joined_strings ss bs) ∷ []) ns in
      let one_more = length_added ss bs in omega (arith, rest, one_more)

  -- the strings of earlier nodes stay
  pub string_stays : (ss ns : List (List ℕ)) (i : ℕ) → i < length ss
      → get_or (strings_after front ss ns) i [] ≡ get_or ss i []
  unfolding strings_after
  string_stays ss [] i i_lt = refl
  string_stays ss (bs ∷ ns) i i_lt =
      let one_more = length_added ss bs in
      string_stays (ss ++ (front ++ joined_strings ss bs) ∷ []) ns i (omega (arith, one_more))
      ∙ get_or_append_left ss ((front ++ joined_strings ss bs) ∷ []) [] i i_lt

  pub strings_append : (ss xs ys : List (List ℕ))
      → strings_after front ss (xs ++ ys)
      ≡ strings_after front (strings_after front ss xs) ys
  unfolding strings_after
  strings_append ss [] ys = refl
  strings_append ss (x ∷ xs) ys =
      strings_append (ss ++ (front ++ joined_strings ss x) ∷ []) xs ys

  string_at : (ss ns : List (List ℕ)) (i : ℕ) → i < length ns
      → get_or (strings_after front ss ns) (length ss + i) []
      ≡ front ++ joined_strings (strings_after front ss (take i ns)) (get_or ns i [])
  unfolding strings_after
  string_at ss [] i i_lt = absurd (omega arith)
  string_at ss (bs ∷ ns) zero i_lt =
      let one_more = length_added ss bs in
      string_stays (ss ++ (front ++ joined_strings ss bs) ∷ []) ns (length ss + 0)
      (omega (arith, one_more))
      ∙ get_or-append-add ss ((front ++ joined_strings ss bs) ∷ []) 0 []
  string_at ss (bs ∷ ns) (suc i) i_lt =
      let one_more = length_added ss bs in
      let i_is : length ss + suc i ≡ length (ss ++ (front ++ joined_strings ss bs) ∷ []) + i =
      omega (arith, one_more) in
      ap (λ n. get_or (strings_after front (ss ++ (front ++ joined_strings ss bs) ∷ []) ns) n [])
      i_is
      ∙ string_at (ss ++ (front ++ joined_strings ss bs) ∷ []) ns i (omega arith)

  -- a body that there was stands for the same string
  pub body_stays : (ss ns : List (List ℕ)) (b : ℕ) → b < first_node + length ss
      → body_string (strings_after front ss ns) b ≡ body_string ss b
  body_stays ss ns b b_lt = grind (arith, nat_tests, string_stays)

  pub joined_stay : (ss ns : List (List ℕ)) (bs : List ℕ)
      → All (λ b. b < first_node + length ss) bs
      → joined_strings (strings_after front ss ns) bs ≡ joined_strings ss bs
  joined_stay ss ns bs all_below = each bs (recursion_from_All (λ b. b < first_node + length ss) bs
      all_below)
    where
      each : (bs : List ℕ) → AllByRecursion (λ b. b < first_node + length ss) bs
          → joined_strings (strings_after front ss ns) bs ≡ joined_strings ss bs
      each [] are_below = refl
      each (b ∷ bs) are_below =
          ap₂ (λ u v. u ++ v) (body_stays ss ns b are_below.0) (each bs are_below.1)

  -- a node stands for the strings of its bodies
  pub node_string : (ns : List (List ℕ)) (i : ℕ) → i < length ns
      → All (λ b. b < first_node + i) (get_or ns i [])
      → get_or (strings_after front [] ns) i []
      ≡ front ++ joined_strings (strings_after front [] ns) (get_or ns i [])
  node_string ns i i_lt are_below =
      let i_is : 0 + i ≡ i = omega arith in
      let taken_count : length (take i ns) ≡ i = length-take-le i ns (omega arith) in
      let count = length_strings [] (take i ns) in
      let count_is : length (strings_after front [] (take i ns)) ≡ i =
      omega (arith, count, taken_count) in
      ap (λ n. get_or (strings_after front [] ns) n []) (sym i_is) ∙ string_at [] ns i i_lt
      ∙ ap (λ u. front ++ u)
      (sym (joined_stay (strings_after front [] (take i ns)) (drop i ns) (get_or ns i [])
      (rw count_is are_below))
      ∙ ap (λ ss. joined_strings ss (get_or ns i []))
      (sym (strings_append [] (take i ns) (drop i ns))
      ∙ ap (strings_after front []) (take-append-drop i ns)))

  -- the strings after nodes are given up
  pub strings_take : (ns : List (List ℕ)) (k : ℕ)
      → strings_after front [] ns
      ≡ strings_after front (strings_after front [] (take k ns)) (drop k ns)
  strings_take ns k =
      sym (ap (strings_after front []) (take-append-drop k ns))
      ∙ strings_append [] (take k ns) (drop k ns)

-- ---- the elements of strings are symbols

abbrev pub AreSymbols : List ℕ → Type 0
AreSymbols u = All (λ s. s < first_node) u

body_has_symbols : (ss : List (List ℕ)) (b : ℕ) → All AreSymbols ss → AreSymbols (body_string ss b)
body_has_symbols ss b all_have =
    grind (arith, common_steps, cases_lt, All-from_recursion, All-get_or, get_or_past, All-nil)

joined_have_symbols : (ss : List (List ℕ)) (bs : List ℕ) → All AreSymbols ss
    → AreSymbols (joined_strings ss bs)
joined_have_symbols ss [] all_have = All-nil (λ s. s < first_node)
joined_have_symbols ss (b ∷ bs) all_have =
    grind (arith, common_steps, All-append, body_has_symbols, (joined_have_symbols ss bs all_have))

strings_have_symbols : (ss ns : List (List ℕ)) → All AreSymbols ss
    → All AreSymbols (strings_after [] ss ns)
unfolding strings_after
strings_have_symbols ss [] all_have = all_have
strings_have_symbols ss (bs ∷ ns) all_have =
    strings_have_symbols (ss ++ joined_strings ss bs ∷ []) ns
    (All-push AreSymbols ss (joined_strings ss bs) all_have (joined_have_symbols ss bs all_have))

pub string_has_symbols : (ns : List (List ℕ)) (b : ℕ)
    → AreSymbols (body_string (strings_of ns) b)
string_has_symbols ns b =
    body_has_symbols (strings_of ns) b (strings_have_symbols [] ns (All-nil AreSymbols))
