-- A theorem is valid if its words say steps that stand for a derivation of its formula, and else
-- not.
use Rattle.std.proofs.Common.{◌≡◌, ◌≢◌, ◌↔◌, ℕ, true, inl, inr, List, [], ◌∷◌, map, Option, Some}
use Rattle.std.proofs.Common.{None, slice_get, bytes_eq, codes, sym, subst, true≢false, unwrap_or}
use Rattle.std.proofs.Common.{arith}
use Rattle.std.specs.Option.{option_map}
use Rattle.std.specs.List.{AllZip, AllByRecursion, list_any}
use Rattle.std.proofs.lemmas.Slice.Eq.{bytes_eq-Decides}
use Rattle.mm_spec.specs.Text.{Token}
use Rattle.mm_spec.specs.declared.Fault.{Fault}
use Rattle.mm_spec.specs.Statement.{Statement, provable, proof_of}
use Rattle.mm_spec.specs.Frame.{mandatory_hypotheses, formula_at}
use Rattle.mm_spec.specs.Derivation.{Trees}
use Rattle.mm_spec.specs.Steps.{Step, PlacedStep, label}
use Rattle.mm_spec.specs.Proof.{steps, reading_faults}
use Rattle.mm_spec.specs.Valid.{Derives}
use Rattle.mm_spec.specs.Citation.{context_at, is_theorem, IsValid}
use Rattle.mm_laws.specs.Spelling.{AreSteps, IsUsable}
use Rattle.mm_laws.specs.Laws.Read.{WhereRead}
use Rattle.mm_laws.specs.Laws.BareSteps.{bare_steps}
use Rattle.mm_laws.specs.Laws.NamedSteps.{StepsAreNamed, StepsAreLabels}
use Rattle.mm_laws.specs.Laws.WellFormed.{CompressedIsExact, NormalIsExact}
use Rattle.mm_laws.specs.Laws.Meaning.{SaysCompressed, SaysNormal, Says, IsProved, ValidIsProved}
use Rattle.mm_spec.proofs.FindsLaw.{equal_bytes_equal_words}
use Rattle.mm_laws.proofs.SpelledStepsLaw.{steps_are_named, steps_are_labels_where_read}
use Rattle.mm_laws.proofs.UniqueStepsLaw.{named_steps_are_unique}
use Rattle.mm_laws.proofs.OneOutputLaw.{zip_is_unique}
use Rattle.std.proofs.lemmas.Bool.{cases_Bool}
use Rattle.std.proofs.lemmas.Bool.Decides.{not_from_Decides}
use Rattle.std.proofs.lemmas.Grind.{common_steps}
use Rattle.mm_laws.proofs.WellSpelledLaw.{compressed_is_exact, normal_is_exact}

module _ (db : List Statement) (k : ℕ) where
  abbrev IsLabelOf : Token → ℕ → Type 0
  IsLabelOf t j = IsUsable db k t.word j

  abbrev IsLabelStep : Token → Step → Type 0
  IsLabelStep u s = (j : ℕ) × (s ≡ label j) × IsUsable db k u.word j

  abbrev IsUsableWord : Token → Type 0
  IsUsableWord u = (u.word ≢ codes "?") × ((j : ℕ) × IsUsable db k u.word j)

  says_label_steps : (ts : List Token) (ss : List Step) → AllByRecursion IsUsableWord ts
      → AllZip IsLabelStep ts ss → SaysNormal db k ts ss
  says_label_steps [] [] are_usable are_label_steps = tt
  says_label_steps [] (s ∷ ss) are_usable are_label_steps = absurd are_label_steps
  says_label_steps (t ∷ ts) [] are_usable are_label_steps = absurd are_label_steps
  says_label_steps (t ∷ ts) (s ∷ ss) ((is_known, _), usable_later) (is_step, steps_later) =
      ((is_known, is_step), says_label_steps ts ss usable_later steps_later)

  words_are_usable : (ts : List Token) (ss : List Step) → SaysNormal db k ts ss
      → AllByRecursion IsUsableWord ts
  words_are_usable [] ss says_steps = tt
  words_are_usable (t ∷ ts) [] says_steps = absurd says_steps
  words_are_usable (t ∷ ts) (s ∷ ss) ((is_known, (j, _, is_usable)), says_later) =
      ((is_known, (j, is_usable)), words_are_usable ts ss says_later)

  label_steps_are_unique : (t : Token) (r s : Step)
      → (t.word ≢ codes "?") × IsLabelStep t r → (t.word ≢ codes "?") × IsLabelStep t s → r ≡ s
  label_steps_are_unique t r s (_, (i, r_is, usable_i)) (_, (j, s_is, usable_j)) =
      grind (arith, common_steps)

  -- a derivation of the formula from steps
  abbrev HasDerivation : List Step → Type 0
  HasDerivation ss = (d : Trees) × Derives (context_at db k) ss (formula_at db k) d

  abbrev IsReadAndDerived : ℕ → List Token → Type 0
  IsReadAndDerived end ps = (reading_faults db k end ps ≡ []) × HasDerivation (bare_steps db k ps)

  abbrev SaysDerivation : List Token → Type 0
  SaysDerivation ps = (ss : List Step) × Says db k ps ss × HasDerivation ss

  module _ (are_named : StepsAreNamed db k) (are_labels : StepsAreLabels db k)
      (compressed_exact : CompressedIsExact db k) (normal_exact : NormalIsExact db k) where
    compressed_read_if_said : (end : ℕ) (t : Token) (ts : List Token)
        → t.word ≡ codes "(" → IsReadAndDerived end (t ∷ ts) ↔ SaysDerivation (t ∷ ts)
    compressed_read_if_said end t ts is_opening = (read_is_said, said_is_read)
      where
        read_is_said : IsReadAndDerived end (t ∷ ts) → SaysDerivation (t ∷ ts)
        read_is_said is_read =
            let well_spelled = (compressed_exact end t ts is_opening).0 is_read.0 in
            let named = are_named end (t ∷ ts) well_spelled.labels well_spelled.letters
            well_spelled.items is_read.0 well_spelled.is_compressed well_spelled.items_are_spelled
            in (
              bare_steps db k (t ∷ ts),
              inl (
                is_opening,
                record {
                  is_well_spelled = well_spelled;
                  bracket_statements = named.0;
                  labels_name_statements = named.1;
                  are_steps = named.2;
                },
              ),
              is_read.1,
            )

        steps_are_read : (ss : List Step) → SaysCompressed db k (t ∷ ts) ss → HasDerivation ss
            → IsReadAndDerived end (t ∷ ts)
        steps_are_read ss says_steps has_derivation =
            let well_spelled = says_steps.is_well_spelled in
            let no_faults = (compressed_exact end t ts is_opening).1 well_spelled in
            let named = are_named end (t ∷ ts) well_spelled.labels well_spelled.letters
            well_spelled.items no_faults well_spelled.is_compressed well_spelled.items_are_spelled
            in
            let statements_equal : says_steps.bracket_statements ≡ named.0 = zip_is_unique IsLabelOf
            (λ t i j usable_i usable_j. usable_j.no_other_is_usable i usable_i.statement_is_active
            usable_i.statement_has_label) well_spelled.labels says_steps.bracket_statements named.0
            says_steps.labels_name_statements named.1 in
            let hypotheses = mandatory_hypotheses db k in
            let are_steps : AreSteps hypotheses named.0 well_spelled.items ss =
            subst (λ is. AreSteps hypotheses is well_spelled.items ss) statements_equal
            says_steps.are_steps in
            let steps_equal : ss ≡ bare_steps db k (t ∷ ts) =
            named_steps_are_unique hypotheses named.0 well_spelled.items ss
            (bare_steps db k (t ∷ ts)) are_steps named.2 in
            (no_faults, subst HasDerivation steps_equal has_derivation)

        said_is_read : SaysDerivation (t ∷ ts) → IsReadAndDerived end (t ∷ ts)
        said_is_read (ss, inl says, has_derivation) = steps_are_read ss says.1 has_derivation
        said_is_read (ss, inr says, has_derivation) = absurd (says.0 is_opening)

    normal_read_if_said : (end : ℕ) (t : Token) (ts : List Token)
        → t.word ≢ codes "(" → IsReadAndDerived end (t ∷ ts) ↔ SaysDerivation (t ∷ ts)
    normal_read_if_said end t ts no_bracket = (read_is_said, said_is_read)
      where
        read_is_said : IsReadAndDerived end (t ∷ ts) → SaysDerivation (t ∷ ts)
        read_is_said is_read =
            let says_steps =
            says_label_steps (t ∷ ts) (bare_steps db k (t ∷ ts)) ((normal_exact end t ts
            no_bracket).0 is_read.0) (are_labels end t ts is_read.0 no_bracket) in
            (bare_steps db k (t ∷ ts), inr (no_bracket, says_steps), is_read.1)

        steps_are_read : (ss : List Step) → SaysNormal db k (t ∷ ts) ss → HasDerivation ss
            → IsReadAndDerived end (t ∷ ts)
        steps_are_read ss says_steps has_derivation =
            let usable = words_are_usable (t ∷ ts) ss says_steps in
            let no_faults = (normal_exact end t ts no_bracket).1 usable in
            let steps_equal = zip_is_unique _ label_steps_are_unique (t ∷ ts) ss
            (bare_steps db k (t ∷ ts)) says_steps
            (says_label_steps (t ∷ ts) (bare_steps db k (t ∷ ts)) usable
            (are_labels end t ts no_faults no_bracket)) in
            (no_faults, subst HasDerivation steps_equal has_derivation)

        said_is_read : SaysDerivation (t ∷ ts) → IsReadAndDerived end (t ∷ ts)
        said_is_read (ss, inl says, has_derivation) = absurd (no_bracket says.0)
        said_is_read (ss, inr says, has_derivation) = steps_are_read ss says.1 has_derivation

    read_exactly_if_said : (end : ℕ) (ps : List Token) → IsReadAndDerived end ps ↔ SaysDerivation ps
    read_exactly_if_said end [] = ((λ is_read. absurd (cc (is_read.0))), λ said. absurd said.1)
    read_exactly_if_said end (t ∷ ts) = elim (cases_Bool (bytes_eq t.word (codes "("))) [
      | inl is_bracket ↦ compressed_read_if_said end t ts
          (equal_bytes_equal_words t.word (codes "(") is_bracket)
      | inr no_bracket ↦ normal_read_if_said end t ts
          (not_from_Decides _ (bytes_eq-Decides t.word (codes "(")) no_bracket)
    ]

    valid_if_proved_and_back : ValidIsProved db k
    valid_if_proved_and_back is_theorem_k =
        let read_iff_said = meaning_by_statement (slice_get db k) is_theorem_k in (
          valid_is_proved read_iff_said.0,
          proved_is_valid read_iff_said.1,
        )
      where
        words : Option Statement → List Token
        words o = unwrap_or (option_map proof_of o) []

        faults : Option Statement → List Fault
        faults o = elim o [ Some (provable l p xs e ps d) ↦ reading_faults db k d ps | _ ↦ [] ]

        placed_steps : Option Statement → List PlacedStep
        placed_steps o = elim o [ Some (provable l p xs e ps d) ↦ steps db k ps | _ ↦ [] ]

        IsValidProof : Option Statement → Type 0
        IsValidProof o = (faults o ≡ []) × HasDerivation (map (λ s. s.step) (placed_steps o))

        statement_if_any : Option Statement → List Statement
        statement_if_any o = elim o [ None ↦ [] | Some s ↦ s ∷ [] ]

        meaning_by_statement : (o : Option Statement)
            → list_any is_theorem (statement_if_any o) ≡ true
            → IsValidProof o ↔ SaysDerivation (words o)
        meaning_by_statement None is_theorem_o = absurd (true≢false (sym is_theorem_o))
        meaning_by_statement (Some (provable l p xs e ps d)) is_theorem_o = read_exactly_if_said d
            ps
        meaning_by_statement (Some _) is_theorem_o = absurd (true≢false (sym is_theorem_o))

        valid_is_proved : (IsValidProof (slice_get db k) → SaysDerivation (words (slice_get db k)))
            → IsValid db k → IsProved db k
        valid_is_proved said_if_read is_valid =
            let said = said_if_read (is_valid.0, (is_valid.1, is_valid.2)) in
            record {
              steps = said.0;
              says_steps = said.1;
              derivation = said.2.0;
              derives_formula = said.2.1;
            }

        proved_is_valid : (SaysDerivation (words (slice_get db k)) → IsValidProof (slice_get db k))
            → IsProved db k → IsValid db k
        proved_is_valid read_if_said is_proved =
            let is_read = read_if_said (
              is_proved.steps,
              is_proved.says_steps,
              (is_proved.derivation, is_proved.derives_formula),
            ) in (is_read.0, is_read.1.0, is_read.1.1)

pub valid_iff_proved : WhereRead ValidIsProved
valid_iff_proved len x db fault is_read with_open k =
    search (
      steps_are_named,
      steps_are_labels_where_read,
      valid_if_proved_and_back,
      compressed_is_exact,
      normal_is_exact,
    )
