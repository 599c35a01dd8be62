-- What is kept beside the statements that were read is the same beside these statements as they
-- count.
use Rattle.std.proofs.Common.{◌≡◌, ℕ, ◌<◌, Bool, ◌&&◌, List, length, Option, refl, sym, ap, ◌∙◌}
use Rattle.std.proofs.Common.{subst}
use Rattle.std.proofs.Math.Path.{fun_ext}
use Rattle.std.specs.List.{list_any, range_with_len, filter}
use Rattle.mm_spec.specs.Statement.{Statement}
use Rattle.mm_spec.specs.Opened.{open_as_axioms}
use Rattle.mm_spec.specs.Scope.{statement_at, active_at}
use Rattle.mm_spec.specs.Derivation.{Formula, is_member}
use Rattle.mm_spec.specs.Frame.{is_disjoint_statement, formula_at}
use Rattle.mm_spec.specs.NormalProof.{is_labelled}
use Rattle.mm_spec.proofs.OpenedLaw.{counted_length, counted_any, counted_active, counted_formula}
use Rattle.mm_database.specs.Labels.{AreLabels}
use Rattle.mm_database.specs.Together.{are_together_at}

module _ (w : Bool) (db : List Statement) where
  abbrev counted_db : List Statement
  counted_db = open_as_axioms w db

  -- as many statements count as were read
  k_lt_length : (k : ℕ) → k < length counted_db → k < length db
  k_lt_length k k_lt_counted_length = rw counted_length at k_lt_counted_length

  -- a label stands for the same statement
  pub labels_counted : (find : List ℕ → Option ℕ) → AreLabels db find → AreLabels counted_db find
  labels_counted find are_labels = record {
    found_has_label =
        λ x k x_is_found. let k_is_labelled = are_labels.found_has_label x k x_is_found in (
          subst (λ n. k < n) (sym (counted_length w db)) k_is_labelled.0,
          same_labels_at x k
              ∙ k_is_labelled.1,
        );
    missing_has_no_statement = λ x x_is_missing k. same_labels_at x k
        ∙ are_labels.missing_has_no_statement x x_is_missing k;
    label_is_unique = λ x j k x_labels_j x_labels_k.
        are_labels.label_is_unique x j k (sym (same_labels_at x j) ∙ x_labels_j)
        (sym (same_labels_at x k) ∙ x_labels_k);
  }
    where
      same_labels_at : (x : List ℕ) (k : ℕ)
          → list_any (is_labelled x) (statement_at counted_db k)
          ≡ list_any (is_labelled x) (statement_at db k)
      same_labels_at x k = counted_any w db (is_labelled x) (λ l k xs e ps d. refl) k

  -- whether some active `$d` has both symbols
  pub together_counted : (k x y : ℕ) → are_together_at counted_db k x y ≡ are_together_at db k x y
  together_counted k x y =
      ap (λ (f : ℕ → Formula). some_active_has_both f (disjoint_in counted_db)
      (active_at counted_db))
      (counted_formula w db)
      ∙ ap (λ t. some_active_has_both (formula_at db) t (active_at counted_db))
      (fun_ext (λ j. counted_any w db is_disjoint_statement (λ l k xs e ps d. refl) j))
      ∙ ap (λ (a : ℕ → ℕ → Bool). some_active_has_both (formula_at db) (disjoint_in db) a)
      (counted_active w db)
    where
      disjoint_in : List Statement → ℕ → Bool
      disjoint_in ss j = list_any is_disjoint_statement (statement_at ss j)

      some_active_has_both : (ℕ → Formula) → (ℕ → Bool) → (ℕ → ℕ → Bool) → Bool
      some_active_has_both f test active =
          list_any (λ j. is_member (f j) x && is_member (f j) y)
          (filter test (filter (λ j. active j k) (range_with_len 0 k)))
