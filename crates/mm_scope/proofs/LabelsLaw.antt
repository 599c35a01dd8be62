-- What the labels stand for after one lawful statement more.
use Rattle.std.proofs.Common.{rules, ◌≡◌, ℕ, ◌<◌, Bool, true, false, List, [], ◌∷◌, ◌++◌, length}
use Rattle.std.proofs.Common.{flat_map, bytes_eq, Option, None, Some, is_some, if◌then◌else◌, refl}
use Rattle.std.proofs.Common.{sym, ap, ◌∙◌, arith, ◌⊎◌, inl, inr, length-append, true≢false}
use Rattle.std.proofs.Common.{le_refl, take_all}
use Rattle.std.proofs.lemmas.Grind.{common_steps}
use Rattle.std.proofs.lemmas.Bool.{cases_lt, cases_order}
use Rattle.std.proofs.lemmas.Option.{same_Some, slice_get_past, none-some}
use Rattle.std.proofs.lemmas.Slice.Eq.{bytes_eq-Decides}
use Rattle.std.specs.List.{list_any}
use Rattle.std.proofs.Math.Bool.{or-false}
use Rattle.mm_spec.specs.Text.{Bytes, Token, is_in}
use Rattle.mm_spec.specs.Statement.{Statement, label_of}
use Rattle.mm_spec.specs.Scope.{Names, names_before, statement_at, label_words}
use Rattle.mm_spec.specs.NormalProof.{is_labelled}
use Rattle.mm_spec.specs.Lawful.{scope_faults}
use Rattle.mm_spec.proofs.LocalLaw.{get_front, get_at_seam}
use Rattle.mm_spec.proofs.FaultlessLaw.{both_are_empty, faultless_label_is_new}
use Rattle.mm_scope.specs.WordEntry.{label_after}
use Rattle.mm_database.specs.Labels.{AreLabels}
use Rattle.mm_outline.proofs.StatementsLaw.{passing_lt_length}

-- a lawful statement's label is none of the earlier labels
label_is_new : (n : Names) (d : ℕ) (s : Statement) → scope_faults n d s ≡ [] → {l : Token}
    → label_of s ≡ Some l → is_in l.word n.labels ≡ false
label_is_new n d s h1 h2 = search (rules, arith, same_Some, faultless_label_is_new, both_are_empty)

module _ (db : List Statement) (s : Statement) (find new : List ℕ → Option ℕ)
    (labels_of_db : AreLabels db find) where
  -- a statement before the last has the same label as without the last
  labelled_before_is_unchanged : (w : Bytes) (k : ℕ) → k < length db
      → list_any (is_labelled w) (statement_at (db ++ s ∷ []) k)
      ≡ list_any (is_labelled w) (statement_at db k)
  labelled_before_is_unchanged w k k_lt_length =
      rw (list_any, get_front db (s ∷ []) k k_lt_length) refl

  -- the last statement is the new one
  labelled_at_last_is_labelled : (w : Bytes)
      → list_any (is_labelled w) (statement_at (db ++ s ∷ []) (length db)) ≡ is_labelled w s
  labelled_at_last_is_labelled w = rw (list_any, get_at_seam db s []) (or-false (is_labelled w s))

  -- a statement that is labelled is one before the last, or the last
  labelled_is_earlier_or_last : (w : Bytes) (k : ℕ)
      → list_any (is_labelled w) (statement_at (db ++ s ∷ []) k) ≡ true
      → ((k < length db) × (list_any (is_labelled w) (statement_at db k) ≡ true))
      ⊎ ((k ≡ length db) × (is_labelled w s ≡ true))
  labelled_is_earlier_or_last w k w_labels_k = elim (cases_lt k (length db)) [
    | inl k_lt_length ↦ inl
        (k_lt_length, sym (labelled_before_is_unchanged w k k_lt_length) ∙ w_labels_k)
    | inr length_le_k ↦
        let k_is_there = passing_lt_length (is_labelled w) (db ++ s ∷ []) k w_labels_k in
        let k_is_last : k ≡ length db =
        omega (arith, k_is_there, length_le_k, length-append db (s ∷ [])) in
        inr (
          k_is_last,
          sym (labelled_at_last_is_labelled w)
              ∙ ap (λ i. list_any (is_labelled w) (statement_at (db ++ s ∷ []) i)) (sym k_is_last)
              ∙ w_labels_k,
        )
  ]

  module _ (new_is_label_after : (w : Bytes)
      → new w ≡ label_after (length db) (label_of s) w (find w)) where
    -- the statement has the label, or the map is the old one there
    labelled_or_unchanged : (w : Bytes)
        → ((is_labelled w s ≡ true) × (new w ≡ Some (length db)))
        ⊎ ((is_labelled w s ≡ false) × (new w ≡ find w))
    labelled_or_unchanged w = by_label (label_of s) (new_is_label_after w)
      where
        by_test : (b : Bool) → new w ≡ (if b then Some (length db) else find w)
            → ((b ≡ true) × (new w ≡ Some (length db))) ⊎ ((b ≡ false) × (new w ≡ find w))
        by_test true new_is_choice = inl (refl, new_is_choice)
        by_test false new_is_choice = inr (refl, new_is_choice)

        by_label : (o : Option Token) → new w ≡ label_after (length db) o w (find w)
            → ((elim o [ None ↦ false | Some l ↦ bytes_eq l.word w ] ≡ true)
            × (new w ≡ Some (length db)))
            ⊎ ((elim o [ None ↦ false | Some l ↦ bytes_eq l.word w ] ≡ false) × (new w ≡ find w))
        by_label None new_is_choice = inr (refl, new_is_choice)
        by_label (Some l) new_is_choice = by_test (bytes_eq l.word w) new_is_choice

    -- the map with the label of one statement more is that of the statements with this one
    pub labels_after_statement : ((w : Bytes) → is_labelled w s ≡ true → find w ≡ None)
        → AreLabels (db ++ s ∷ []) new
    labels_after_statement find_is_none = record {
      found_has_label = λ w k new_w_is_k. elim (labelled_or_unchanged w) [
        | inl (w_labels_s, new_w_is_last) ↦
            let last_is_k = same_Some (length db) k (sym new_w_is_last ∙ new_w_is_k) in (
              omega (arith, last_is_k, length-append db (s ∷ [])),
              rw (sym last_is_k, labelled_at_last_is_labelled w) w_labels_s,
            )
        | inr (w_labels_not_s, new_w_is_old) ↦
            let found_before = labels_of_db.found_has_label w k
            (sym new_w_is_old ∙ new_w_is_k) in
            let k_lt_length = found_before.0 in (
              omega (arith, k_lt_length, length-append db (s ∷ [])),
              labelled_before_is_unchanged w k k_lt_length ∙ found_before.1,
            )
      ];
      missing_has_no_statement = λ w new_w_is_none k. elim (labelled_or_unchanged w) [
        | inl (w_labels_s, new_w_is_last) ↦
            absurd (none-some (length db) (sym new_w_is_none ∙ new_w_is_last))
        | inr (w_labels_not_s, new_w_is_old) ↦ elim (cases_order k (length db)) [
          | inl k_is_last ↦
              rw (k_is_last, labelled_at_last_is_labelled w) w_labels_not_s
          | inr (inl k_lt_length) ↦ labelled_before_is_unchanged w k k_lt_length
              ∙ labels_of_db.missing_has_no_statement w (sym new_w_is_old ∙ new_w_is_none) k
          | inr (inr length_lt_k) ↦
              rw (
                list_any,
                slice_get_past (db ++ s ∷ []) k
                    (omega (arith, length_lt_k, length-append db (s ∷ []))),
              ) refl
        ]
      ];
      label_is_unique = λ w j k w_labels_j w_labels_k.
          elim (labelled_is_earlier_or_last w j w_labels_j) [
            | inl (j_lt_length, w_labelled_j) ↦ elim (labelled_is_earlier_or_last w k w_labels_k) [
              | inl (k_lt_length, w_labelled_k) ↦
                  labels_of_db.label_is_unique w j k w_labelled_j w_labelled_k
              | inr (k_is_last, w_labels_s) ↦
                  absurd (no_earlier_label w j w_labelled_j w_labels_s)
            ]
            | inr (j_is_last, w_labels_s) ↦ elim (labelled_is_earlier_or_last w k w_labels_k) [
              | inl (k_lt_length, w_labelled_k) ↦
                  absurd (no_earlier_label w k w_labelled_k w_labels_s)
              | inr (k_is_last, w_labels_s) ↦ j_is_last ∙ sym k_is_last
            ]
          ];
    }
      where
        -- a label of the new statement is none before
        no_earlier_label : (w : Bytes) (j : ℕ)
            → list_any (is_labelled w) (statement_at db j) ≡ true → is_labelled w s ≡ true → ⊥
        no_earlier_label w j w_labels_j w_labels_s =
            true≢false (sym w_labels_j
            ∙ labels_of_db.missing_has_no_statement w (find_is_none w w_labels_s) j)

-- a label of a lawful statement stands for nothing yet
pub label_stands_for_nothing : (db : List Statement) (find : List ℕ → Option ℕ)
    → ((w : Bytes) → is_in w (flat_map label_words db) ≡ is_some (find w)) → (d : ℕ) (s : Statement)
    → scope_faults (names_before db (length db)) d s ≡ [] → (w : Bytes) → is_labelled w s ≡ true
    → find w ≡ None
label_stands_for_nothing db find known_if_label d s no_fault w w_labels_s =
    grind (
      arith,
      common_steps,
      is_some,
      true≢false,
      bytes_eq,
      take_all,
      le_refl,
      bytes_eq-Decides,
      label_is_new,
    )
