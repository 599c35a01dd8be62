-- What a statement with no fault says of its words.
use Rattle.std.proofs.Common.{arith, ◌≡◌, ℕ, Bool, true, false, ◌&&◌, ◌||◌, List, [], ◌∷◌, ◌++◌}
use Rattle.std.proofs.Common.{refl, true≢false}
use Rattle.std.proofs.lemmas.Grind.{common_steps}
use Rattle.mm_spec.specs.Text.{Bytes, Token, is_in, words, fault}
use Rattle.mm_spec.specs.declared.Fault.{Fault}
use Rattle.mm_spec.specs.Scope.{Names}
use Rattle.mm_spec.specs.Lawful.{faults_at, faults_at_each, when, constant_codes, variable_codes}
use Rattle.mm_spec.specs.Lawful.{floating_faults, is_typed, is_typed_otherwise}
use Rattle.mm_spec.specs.declared.Code.TheVariants.{DeclaredBefore, BadFloating, TypedBefore}
use Rattle.mm_spec.specs.declared.Code.TheVariants.{OtherTypecode, LabelIsSymbol}
use Rattle.mm_spec.proofs.FaultlessLaw.{both_are_empty, no_faults_no_codes, no_code_if_false}
use Rattle.mm_spec.proofs.FaultlessLaw.{each_word_has_no_codes}

neither_of_first_two : (a b c : Bool) → (a || b || c) ≡ false → (a ≡ false) × (b ≡ false)
neither_of_first_two a b c h1 = grind (arith, common_steps, true≢false)

module _ (n : Names) where
  -- a word of a `$c` is new
  pub faultless_constant_is_new : (ts : List Token) → faults_at_each (constant_codes n) [] ts ≡ []
      → (w : Bytes)
      → is_in w (words ts) ≡ true
      → (is_in w n.constants ≡ false) × (is_in w n.all_variables ≡ false)
  faultless_constant_is_new ts no_faults w is_word =
      let no_codes_of_w = each_word_has_no_codes (constant_codes n) [] ts no_faults w is_word in
      neither_of_first_two (is_in w n.constants) (is_in w n.all_variables) (is_in w no_codes_of_w.0)
      (no_code_if_false
      (is_in w n.constants || is_in w n.all_variables || is_in w no_codes_of_w.0) DeclaredBefore
      (both_are_empty
      (when (is_in w n.constants || is_in w n.all_variables || is_in w no_codes_of_w.0)
      DeclaredBefore)
      (when (is_in w n.labels) LabelIsSymbol) no_codes_of_w.1).0)

  -- a word of a `$v` is no constant and no active variable
  pub faultless_variable_is_new : (ts : List Token) → faults_at_each (variable_codes n) [] ts ≡ []
      → (w : Bytes)
      → is_in w (words ts) ≡ true
      → (is_in w n.constants ≡ false) × (is_in w n.active_variables ≡ false)
  faultless_variable_is_new ts no_faults w is_word =
      let no_codes_of_w = each_word_has_no_codes (variable_codes n) [] ts no_faults w is_word in
      neither_of_first_two (is_in w n.constants) (is_in w n.active_variables)
      (is_in w no_codes_of_w.0)
      (no_code_if_false
      (is_in w n.constants || is_in w n.active_variables || is_in w no_codes_of_w.0) DeclaredBefore
      (both_are_empty
      (when (is_in w n.constants || is_in w n.active_variables || is_in w no_codes_of_w.0)
      DeclaredBefore) (when (is_in w n.labels) LabelIsSymbol) no_codes_of_w.1).0)

  -- a `$f` types an active variable that has no active `$f` and no other typecode
  pub faultless_floating_is_new : (keyword : ℕ) (c v : Token)
      → floating_faults n keyword (c ∷ v ∷ []) ≡ []
      → (is_in v.word n.active_variables ≡ true) × (is_typed n v.word ≡ false)
      × (is_typed_otherwise n c.word v.word ≡ false)
  faultless_floating_is_new keyword c v no_faults =
      new_by_tests (is_in c.word n.constants) (is_in v.word n.active_variables) refl no_faults
    where
      codes : Bool → Bool → List Fault
      codes =
          λ a b. elim (a && b) [
            | true ↦ faults_at v.at
                (when (is_typed n v.word) TypedBefore
                ++ when (is_typed_otherwise n c.word v.word) OtherTypecode)
            | false ↦ fault keyword BadFloating ∷ []
          ]

      new_by_tests : (a b : Bool) → is_in v.word n.active_variables ≡ b → codes a b ≡ []
          → (is_in v.word n.active_variables ≡ true) × (is_typed n v.word ≡ false)
          × (is_typed_otherwise n c.word v.word ≡ false)
      new_by_tests false b activity_is no_faults = absurd (cc)
      new_by_tests true false activity_is no_faults = absurd (cc)
      new_by_tests true true activity_is no_faults =
          let no_code_each =
          both_are_empty (when (is_typed n v.word) TypedBefore)
          (when (is_typed_otherwise n c.word v.word) OtherTypecode)
          (no_faults_no_codes v.at
          (when (is_typed n v.word) TypedBefore
          ++ when (is_typed_otherwise n c.word v.word) OtherTypecode) no_faults) in (
            activity_is,
            no_code_if_false (is_typed n v.word) TypedBefore no_code_each.0,
            no_code_if_false
                (is_typed_otherwise n c.word v.word) OtherTypecode no_code_each.1,
          )
