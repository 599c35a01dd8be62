-- How the labels in brackets are read, word by word.
use Rattle.std.proofs.lemmas.Grind.{common_steps, flat_map-append}
use Rattle.std.proofs.lemmas.Bool.Decides.{nat_tests}
use Rattle.std.proofs.Common.{◌≡◌, ◌∙◌, ℕ, zero, suc, ◌+◌, ◌<◌, ◌≤◌, true, false, List, [], ◌∷◌}
use Rattle.std.proofs.Common.{◌++◌, length, drop, get_or, flat_map, Some, None, bytes_eq, codes}
use Rattle.std.proofs.Common.{refl, ap, ap₂, arith, take}
use Rattle.std.proofs.lemmas.List.{drop_more, append-nil, length-map, length-take-le}
use Rattle.mm_spec.specs.declared.Fault.{Fault}
use Rattle.mm_spec.specs.declared.Word.{Word}
use Rattle.mm_spec.specs.declared.Code.TheVariants.{UnusableLabel, OpenBrackets}
use Rattle.mm_spec.specs.Text.{Token, fault}
use Rattle.mm_spec.specs.Statement.{Statement}
use Rattle.mm_spec.specs.Frame.{mandatory_hypotheses}
use Rattle.mm_spec.specs.NormalProof.{usable, proof_label_faults}
use Rattle.mm_spec.specs.CompressedProof.{Compressed, bracketed, with_label, compressed_faults}
use Rattle.mm_spec.specs.CompressedProof.{compressed_steps, letter_faults, letters_of, groups}
use Rattle.mm_spec.specs.CompressedProof.{group_steps}
use Rattle.mm_outline.specs.Parts.{as_tokens, token_of}
use Rattle.mm_spec.specs.Steps.{PlacedStep}
use Rattle.mm_steps.specs.TheoremSteps.{theorem_steps}
use Rattle.mm_proof.specs.Letters.{AreInOrder, closed_brackets, ReadsLabels}

-- a compressed proof with further labels before it
abbrev pub with_labels_before : List Token → Compressed → Compressed
with_labels_before ts p = record { labels = ts ++ p.labels; letters = p.letters }

-- the brackets close at a `)`
pub brackets_close : (earlier_labels : List Token) (t : Token) (ts : List Token)
    → bytes_eq t.word (codes ")") ≡ true
    → with_labels_before earlier_labels (bracketed (t ∷ ts)) ≡ closed_brackets earlier_labels ts
brackets_close earlier_labels t ts t_closes = grind (arith, common_steps, append-nil)

module _ (db : List Statement) (k end : ℕ) where
  -- after labels without faults stands a word that is no label that is usable
  pub unusable_label_is_first_fault : (labels : List Token) (t : Token) (ts : List Token)
      → flat_map (proof_label_faults db k) labels ≡ [] → bytes_eq t.word (codes ")") ≡ false
      → usable db k t.word ≡ []
      → (more : List Fault)
      × (compressed_faults db k end (with_labels_before labels (bracketed (t ∷ ts)))
      ≡ fault t.at UnusableLabel ∷ more)
  unusable_label_is_first_fault labels t ts labels_are_faultless t_closes_not t_is_unusable = (
    flat_map label_faults labels_after ++ remaining_faults,
    ap (λ b. faults_with_labels
        (elim b [
          | true ↦ record { labels = []; letters = Some ts }
          | false ↦ with_label t (bracketed ts)
        ])) t_closes_not
        ∙ ap (λ fs. fs ++ remaining_faults)
        (flat_map-append label_faults labels (t ∷ labels_after)
        ∙ ap₂ (λ a b. a ++ (b ++ flat_map label_faults labels_after)) labels_are_faultless
        (ap (λ js. elim js [ [] ↦ fault t.at UnusableLabel ∷ [] | j ∷ js ↦ [] ]) t_is_unusable)),
  )
    where
      label_faults : Token → List Fault
      label_faults t = proof_label_faults db k t

      faults_with_labels : Compressed → List Fault
      faults_with_labels p = compressed_faults db k end (with_labels_before labels p)

      labels_after : List Token
      labels_after = (bracketed ts).labels

      remaining_faults : List Fault
      remaining_faults =
          elim (bracketed ts).letters [
            | None ↦ fault end OpenBrackets ∷ []
            | Some us ↦ letter_faults
                (length (mandatory_hypotheses db k) + length (labels ++ (t ∷ labels_after))) end
                (letters_of us)
          ]

  -- there is no `)`
  pub open_brackets_is_first_fault : (labels : List Token)
      → flat_map (proof_label_faults db k) labels
      ≡ []
      → compressed_faults db k end (with_labels_before labels (bracketed []))
      ≡ fault end OpenBrackets ∷ []
  open_brackets_is_first_fault labels labels_are_faultless =
      rw (append-nil labels, labels_are_faultless) refl

  -- after labels without faults the letters decide
  pub closed_faults_are_letter_faults : (labels ls : List Token) (n : ℕ)
      → flat_map (proof_label_faults db k) labels ≡ []
      → n ≡ length (mandatory_hypotheses db k) + length labels
      → compressed_faults db k end (closed_brackets labels ls) ≡ letter_faults n end (letters_of ls)
  closed_faults_are_letter_faults labels ls n labels_are_faultless n_is_count =
      rw (labels_are_faultless, n_is_count) refl

  -- the faults of a proof whose brackets close at word n
  pub faults_with_closed_brackets : {text : List ℕ} {words : List Word} {n : ℕ}
      {xs labels : List ℕ} → ReadsLabels db k text words n xs labels
      → xs ≡ mandatory_hypotheses db k
      → compressed_faults db k end (bracketed (as_tokens text words))
      ≡ letter_faults (length labels) end (letters_of (as_tokens text (drop (n + 1) words)))
  faults_with_closed_brackets {text = text} {words = words} {n = n} {labels = labels} reads
      xs_are_mandatory =
      let mandatory_count = ap length xs_are_mandatory in
      let tokens_count = length-map (take n words) (token_of text) in
      let taken_count = length-take-le n words (omega (arith, reads.n_lt_length)) in
      ap (compressed_faults db k end) reads.brackets
      ∙ closed_faults_are_letter_faults (as_tokens text (take n words))
      (as_tokens text (drop (n + 1) words)) (length labels) reads.labels_are_faultless
      (omega (arith, reads.label_count, mandatory_count, tokens_count, taken_count))

-- the steps that were read, by the labels and the letters
pub read_steps_are_compressed_steps : {db : List Statement} {k : ℕ} {text : List ℕ}
    {words : List Word} {n : ℕ} {xs labels : List ℕ} {t : ℕ} {steps : List PlacedStep}
    → ReadsLabels db k text words n xs labels → xs ≡ mandatory_hypotheses db k → t ≡ k
    → steps
    ≡ group_steps labels [] 0 (groups [] (letters_of (as_tokens text (drop (n + 1) words)))).0
    → theorem_steps t steps
    ≡ theorem_steps k (compressed_steps db k (bracketed (as_tokens text words)))
read_steps_are_compressed_steps reads xs_are_mandatory t_is_k steps_are_group_steps = cc

-- the words from a place on are in order
in_order_from_lower : (from to end : ℕ) (ts : List Token) → from ≤ to → AreInOrder to ts end
    → AreInOrder from ts end
in_order_from_lower from to end [] from_le_to in_order = omega (arith, in_order)
in_order_from_lower from to end (t ∷ ts) from_le_to (to_le_place, has_bytes, in_order) =
    (omega (arith, to_le_place), has_bytes, in_order)

-- after the first word
pub in_order_after_first : (text : List ℕ) (w : Word) (ws : List Word) (from end : ℕ)
    → AreInOrder from (as_tokens text (w ∷ ws)) end → AreInOrder 0 (as_tokens text ws) end
in_order_after_first text w ws from end in_order = grind (arith, common_steps, in_order_from_lower)

-- words that are in order stay so without the first `n` of them
pub in_order_after_drop : (text : List ℕ) (ws : List Word) (n from end : ℕ)
    → AreInOrder from (as_tokens text ws) end → AreInOrder 0 (as_tokens text (drop n ws)) end
in_order_after_drop text ws zero from end in_order = grind (arith, nat_tests, in_order_from_lower)
in_order_after_drop text [] (suc n) from end in_order = omega arith
in_order_after_drop text (w ∷ ws) (suc n) from end in_order =
    in_order_after_drop text ws n (w.start + length (token_of text w).word) end in_order.2

-- the words from a place on
pub tokens_begin_with_word : (text : List ℕ) (ws : List Word) (n : ℕ) (d : Word) → n < length ws
    → as_tokens text (drop n ws) ≡ token_of text (get_or ws n d) ∷ as_tokens text (drop (n + 1) ws)
tokens_begin_with_word text ws n d n_lt_length = ap (as_tokens text) (drop_more ws n d n_lt_length)

-- past the last word there are no tokens
pub no_tokens_past_end : (text : List ℕ) (ws : List Word) (n : ℕ) → length ws ≤ n
    → as_tokens text (drop n ws) ≡ []
no_tokens_past_end text ws n h1 = grind (arith, common_steps)
