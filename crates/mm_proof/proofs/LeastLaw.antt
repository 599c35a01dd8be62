-- The first fault of rising words is the least.
use Rattle.std.proofs.lemmas.Grind.{common_steps, flat_map-append}
use Rattle.std.proofs.Common.{◌≡◌, ◌∙◌, ℕ, ◌+◌, ◌<◌, true, false, List, [], ◌∷◌, ◌++◌, length, take}
use Rattle.std.proofs.Common.{drop, flat_map, get_or, Some, bytes_eq, codes, refl, sym, ap, subst}
use Rattle.std.proofs.Common.{arith}
use Rattle.std.specs.List.{AllPairs, AllByRecursion}
use Rattle.std.proofs.lemmas.Bool.{lt-ltb}
use Rattle.std.proofs.lemmas.List.{take-append-drop, drop_more, map-append}
use Rattle.std.proofs.lemmas.List.Elements.{recursion_from_All}
use Rattle.mm_spec.specs.Text.{Token, fault}
use Rattle.mm_spec.specs.declared.Fault.{Fault}
use Rattle.mm_spec.specs.declared.Word.{Word}
use Rattle.mm_spec.specs.declared.Code.TheVariants.{IncompleteProof, UnusableLabel}
use Rattle.mm_spec.specs.Statement.{Statement}
use Rattle.mm_spec.specs.Lawful.{least, is_before}
use Rattle.mm_spec.specs.NormalProof.{usable}
use Rattle.mm_spec.proofs.ListLaw.{pairs_head, pairs_tail}
use Rattle.mm_outline.specs.Parts.{as_tokens, token_of}
use Rattle.mm_proof.specs.Refused.{word_faults}

-- what holds of all pairs of a list holds of those of its back part
pub pairs_of_back : {X : Type 0} (R : X → X → Type 0) (xs ys : List X) → AllPairs R (xs ++ ys)
    → AllPairs R ys
pairs_of_back R [] ys pairs_are_related = pairs_are_related
pairs_of_back R (x ∷ xs) ys pairs_are_related =
    pairs_of_back R xs ys (pairs_tail R x (xs ++ ys) pairs_are_related)

-- the first token stands before the second
abbrev pub StandsEarlier : Token → Token → Type 0
StandsEarlier t u = t.at < u.at

-- what follows from a property of all faults holds of all faults
pub all_of_weaker : (P Q : Fault → Type 0) (xs : List Fault) → ((x : Fault) → P x → Q x)
    → AllByRecursion P xs → AllByRecursion Q xs
all_of_weaker P Q [] p_gives_q xs_pass = tt
all_of_weaker P Q (x ∷ xs) p_gives_q xs_pass =
    (p_gives_q x xs_pass.0, all_of_weaker P Q xs p_gives_q xs_pass.1)

-- a fault that stands earlier comes before the other
pub earlier_is_before : (f g : Fault) → f.at < g.at → is_before f g ≡ true
earlier_is_before f g f_lt_g = grind (arith, common_steps, lt-ltb)

-- a fault that comes before all others is the least
pub first_is_least : (f : Fault) (fs : List Fault)
    → AllByRecursion (λ (g : Fault). is_before f g ≡ true) fs → least (f ∷ fs) ≡ Some f
first_is_least f [] f_before_all = refl
first_is_least f (g ∷ gs) (f_before_g, f_before_gs) =
    grind (arith, common_steps, (first_is_least f gs f_before_gs))

-- the faults of words stand at the words
abbrev AreAt : (Token → List Fault) → Type 0
AreAt F = (u : Token) → AllByRecursion (λ (g : Fault). g.at ≡ u.at) (F u)

-- the faults of tokens after a place stand after that place
faults_are_later : (F : Token → List Fault) → AreAt F → (n : ℕ) (us : List Token)
    → AllByRecursion (λ (u : Token). n < u.at) us
    → AllByRecursion (λ (g : Fault). n < g.at) (flat_map F us)
faults_are_later F faults_stand_at_words n [] words_are_later = tt
faults_are_later F faults_stand_at_words n (u ∷ us) words_are_later =
    with_faults_of_word (F u) (faults_stand_at_words u)
    (faults_are_later F faults_stand_at_words n us words_are_later.1)
  where
    with_faults_of_word : (gs : List Fault) → AllByRecursion (λ (g : Fault). g.at ≡ u.at) gs
        → AllByRecursion (λ (g : Fault). n < g.at) (flat_map F us)
        → AllByRecursion (λ (g : Fault). n < g.at) (gs ++ flat_map F us)
    with_faults_of_word [] faults_stand_at_u rest_are_later = rest_are_later
    with_faults_of_word (g ∷ gs) (g_stands_at_u, gs_stand_at_u) rest_are_later = (
      omega (arith, g_stands_at_u, words_are_later.0),
      with_faults_of_word gs gs_stand_at_u rest_are_later,
    )

-- the faults of a label stand where the label stands
word_faults_stand_at_word : (db : List Statement) (k : ℕ) → AreAt (word_faults db k)
word_faults_stand_at_word db k u = grind (arith, common_steps, bytes_eq)

module _ (text : List ℕ) (ws : List Word) (i : ℕ) (w : Word) (i_lt_length : i < length ws) where
  -- the words of the proof are those before the faulty word, that word, and those after it
  tokens_split : as_tokens text ws
      ≡ as_tokens text (take i ws)
      ++ token_of text (get_or ws i w) ∷ as_tokens text (drop (i + 1) ws)
  tokens_split =
      ap (as_tokens text)
      (sym (take-append-drop i ws) ∙ ap (λ z. take i ws ++ z) (drop_more ws i w i_lt_length))
      ∙ map-append (token_of text) (take i ws) (get_or ws i w ∷ drop (i + 1) ws)

  -- the fault of the first faulty word is the least of those of a normal proof
  pub fault_of_faulty_word_is_least : (db : List Statement) (k : ℕ) (f : Fault)
      → AllPairs StandsEarlier (as_tokens text ws)
      → flat_map (word_faults db k) (as_tokens text (take i ws)) ≡ []
      → word_faults db k (token_of text (get_or ws i w)) ≡ f ∷ []
      → least (flat_map (word_faults db k) (as_tokens text ws)) ≡ Some f
  fault_of_faulty_word_is_least db k f tokens_ascend earlier_are_faultless word_has_f =
      let front = as_tokens text (take i ws) in
      let t = token_of text (get_or ws i w) in
      let back = as_tokens text (drop (i + 1) ws) in
      let back_is_later =
      recursion_from_All (λ (u : Token). t.at < u.at) back
      (pairs_head StandsEarlier t back (pairs_of_back StandsEarlier front (t ∷ back)
      (subst (AllPairs StandsEarlier) tokens_split tokens_ascend))) in
      let f_at_is_t_at : f.at ≡ t.at =
      (subst (AllByRecursion (λ (g : Fault). g.at ≡ t.at)) word_has_f
      (word_faults_stand_at_word db k t)).0 in
      rw (
        tokens_split,
        flat_map-append (word_faults db k) front (t ∷ back),
        earlier_are_faultless,
        word_has_f,
      ) (first_is_least f (flat_map (word_faults db k) back)
      (all_of_weaker (λ g. t.at < g.at) (λ g. is_before f g ≡ true)
      (flat_map (word_faults db k) back)
      (λ g t_lt_g. earlier_is_before f g (omega (arith, f_at_is_t_at, t_lt_g)))
      (faults_are_later (word_faults db k) (word_faults_stand_at_word db k) t.at back
      back_is_later)))

-- the fault of one word
pub question_mark_fault : (db : List Statement) (k : ℕ) (u : Token)
    → bytes_eq u.word (codes "?") ≡ true
    → word_faults db k u ≡ fault u.at IncompleteProof ∷ []
question_mark_fault db k u u_is_question_mark = rw (word_faults, u_is_question_mark) refl

-- a label that isn't usable has this one fault
pub unusable_label_fault : (db : List Statement) (k : ℕ) (u : Token)
    → bytes_eq u.word (codes "?") ≡ false
    → usable db k u.word ≡ [] → word_faults db k u ≡ fault u.at UnusableLabel ∷ []
unusable_label_fault db k u u_is_no_question_mark u_is_unusable = grind (arith, common_steps)
