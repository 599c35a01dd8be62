-- What is read of a theorem's proof, by its words.
use Rattle.std.proofs.lemmas.Bool.Decides.{nat_tests}
use Rattle.std.proofs.Common.{Bool, ap₂, slice_range, ◌≡◌, ◌∙◌, ℕ, ◌<◌, true, false, List, [], ◌∷◌}
use Rattle.std.proofs.Common.{length, Some, slice_get, bytes_eq, codes, refl, sym, ap, arith}
use Rattle.std.proofs.Common.{true≢false, flat_map}
use Rattle.mm_outline.specs.Parts.{token_of, as_tokens}
use Rattle.std.proofs.lemmas.Option.{slice_get_within}
use Rattle.std.specs.Option.{option_map}
use Rattle.mm_spec.specs.Text.{Token, fault}
use Rattle.mm_spec.specs.Statement.{Statement, provable, proof_of}
use Rattle.mm_spec.specs.NormalProof.{normal_steps}
use Rattle.mm_spec.specs.CompressedProof.{bracketed, compressed_faults, compressed_steps}
use Rattle.mm_spec.specs.Proof.{reading_faults, steps}
use Rattle.mm_spec.specs.Citation.{reading_faults_at, steps_at}
use Rattle.mm_spec.specs.declared.Code.TheVariants.{EmptyProof}
use Rattle.mm_proof.specs.Refused.{word_faults}
use Rattle.mm_database.specs.Database.{Contents, end_at}
use Rattle.mm_spec.specs.Output.{is_theorem_at}
use Rattle.mm_spec.specs.declared.Word.{Word}

-- a theorem with these words of a text after its `$=`
pub record IsProvable (db : List Statement) (k : ℕ) (text : List ℕ) (ws : List Word)
    : Type 0 where
  pub label : Token
  pub keyword : ℕ
  pub symbols : List Token
  pub equals : ℕ
  pub dot : ℕ
  pub statement_is : slice_get db k
      ≡ Some (provable label keyword symbols equals (as_tokens text ws) dot)

-- a theorem whose proof is read is a `$p` statement with this label and these words
pub theorem_is_provable : (d : Contents) (k : ℕ) (ws : List Word)
    → is_theorem_at d.statements k ≡ true
    → option_map proof_of (slice_get d.statements k) ≡ Some (as_tokens d.text ws)
    → IsProvable d.statements k d.text ws
theorem_is_provable d k ws k_is_theorem words_are = grind (arith, nat_tests, slice_get, true≢false)

-- whether a word is this one, by the bytes that are compared
pub word_is_code : {text t word other code : List ℕ} (w : Word) {b equal : Bool}
    → word ≡ slice_range t w.start w.end → t ≡ text → other ≡ code
    → equal ≡ bytes_eq word other → equal ≡ b
    → bytes_eq (token_of text w).word code ≡ b
word_is_code w word_is text_is other_is equal_is equal_is_b = cc

module _ {db : List Statement} {k : ℕ} {text : List ℕ} {ws : List Word}
    (is_provable : IsProvable db k text ws) where
  -- the theorem is one of the statements
  pub theorem_lt_length : k < length db
  theorem_lt_length = slice_get_within db k _ is_provable.statement_is

  -- the `$.` of the theorem stands at its end
  pub dot_is_end : {end : ℕ} → option_map end_at (slice_get db k) ≡ Some end
      → is_provable.dot ≡ end
  dot_is_end end_is =
      let some_dot_is_some_end =
      sym (ap (option_map end_at) is_provable.statement_is) ∙ end_is in cc

  -- the faults of reading the proof are those of reading its words
  faults_at : reading_faults_at db k ≡ reading_faults db k is_provable.dot (as_tokens text ws)
  faults_at =
      ap (λ o. elim o [ Some (provable l p xs a qs d) ↦ reading_faults db k d qs | _ ↦ [] ])
      is_provable.statement_is

  -- the faults of a proof without words
  pub empty_proof_faults_at : {end : ℕ} → option_map end_at (slice_get db k) ≡ Some end
      → length ws ≡ 0
      → reading_faults_at db k ≡ fault end EmptyProof ∷ []
  empty_proof_faults_at {end = end} end_is no_length =
      faults_at ∙ ap₂ (λ d ts. reading_faults db k d ts) (dot_is_end end_is) (no_words ws no_length)
    where
      no_words : (ws : List Word) → length ws ≡ 0 → as_tokens text ws ≡ []
      no_words [] no_length = refl
      no_words (w ∷ ws) no_length = absurd (omega (arith, no_length))

  -- the steps of a proof
  steps_at_is_steps : steps_at db k ≡ steps db k (as_tokens text ws)
  steps_at_is_steps =
      ap (λ o. elim o [ Some (provable l p xs a qs d) ↦ steps db k qs | _ ↦ [] ])
      is_provable.statement_is

  module _ {first : Word} {rest : List Word} (split : ws ≡ first ∷ rest) where
    -- the reading faults of a compressed proof
    pub compressed_faults_at : {end : ℕ} → option_map end_at (slice_get db k) ≡ Some end
        → bytes_eq (token_of text first).word (codes "(") ≡ true
        → reading_faults_at db k ≡ compressed_faults db k end (bracketed (as_tokens text rest))
    compressed_faults_at {end = end} end_is first_opens =
        faults_at ∙ ap₂ (λ d ws. reading_faults db k d (as_tokens text ws)) (dot_is_end end_is)
        split
        ∙ rw (reading_faults, first_opens) refl

    -- the faults of reading a normal proof are those of its words
    pub normal_faults_at : bytes_eq (token_of text first).word (codes "(") ≡ false
        → reading_faults_at db k ≡ flat_map (word_faults db k) (as_tokens text ws)
    normal_faults_at first_opens_not = faults_at ∙ rw (split, reading_faults, first_opens_not) refl

    -- the steps of a theorem with a compressed proof
    pub compressed_steps_at : bytes_eq (token_of text first).word (codes "(") ≡ true
        → steps_at db k ≡ compressed_steps db k (bracketed (as_tokens text rest))
    compressed_steps_at first_opens = steps_at_is_steps ∙ rw (split, steps, first_opens) refl

    -- the steps of a theorem with a normal proof
    pub normal_steps_at : bytes_eq (token_of text first).word (codes "(") ≡ false
        → steps_at db k ≡ normal_steps db k (as_tokens text ws)
    normal_steps_at first_opens_not = steps_at_is_steps ∙ rw (split, steps, first_opens_not) refl
