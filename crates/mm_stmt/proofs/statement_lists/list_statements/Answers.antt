use Rattle.std.proofs.Common.{◌≡◌, ◌∙◌, ◌∷◌, ℕ, List, All, IsTrue, map, sym, ap, subst}
use Rattle.mm_spec.specs.Assertion.{label_at}
use Rattle.mm_spec.specs.Output.{theorems, is_theorem_at}
use Rattle.mm_spec.specs.Opened.{open_as_axioms}
use Rattle.mm_spec.proofs.OpenedLaw.{counted_label, counted_theorem_is_theorem}
use Rattle.mm_outline.specs.Statements.{statements}
use Rattle.mm_database.proofs.KindsLaw.{theorems_by_kind, axioms_by_kind, kinds_lt_2_31}
use Rattle.mm_database.proofs.SpacedLaw.{theorems_are}
use Rattle.mm_stmt.proofs.statement_lists.list_statements.Goals as goal

pub assertions_of-requires : goal.assertions_of-requires
assertions_of-requires g c =
    kinds_lt_2_31 c.args.text.now c.args.tokens.now c.args.outlines.now c.args.with_open
    c.deref.result.now (c.deref.ensures.value ∙ c.in_ok-kinds.ensures) c.requires.few_outlines

pub spaced_labels_of-requires-clause-are_theorems :
    goal.spaced_labels_of-requires-clause-are_theorems
spaced_labels_of-requires-clause-are_theorems g c =
    let w = c.args.with_open in
    let db = statements c.args.text.now c.args.tokens.now c.args.outlines.now in
    let theorems_are_listed =
    c.deref-2.ensures.value ∙ c.in_ok-theorems.ensures.theorems_are
    ∙ theorems_by_kind (open_as_axioms w db) c.deref.result.now
    (c.deref.ensures.value ∙ c.in_ok-kinds.ensures) in
    subst (λ (ks : List ℕ). All (λ k. IsTrue (is_theorem_at db k)) ks) (sym theorems_are_listed)
    (λ i d i_lt_count. counted_theorem_is_theorem w db _
    (theorems_are (open_as_axioms w db) i d i_lt_count))

pub returns : goal.returns
returns g c =
    let w = c.args.with_open in
    let db = statements c.args.text.now c.args.tokens.now c.args.outlines.now in
    let kinds_are_listed = c.deref.ensures.value ∙ c.in_ok-kinds.ensures in
    let theorems_are_listed : c.deref-2.result.now ≡ theorems (open_as_axioms w db) =
    c.deref-2.ensures.value ∙ c.in_ok-theorems.ensures.theorems_are
    ∙ theorems_by_kind (open_as_axioms w db) c.deref.result.now kinds_are_listed in
    record {
      kinds_are = c.in_ok-kinds.ensures;
      theorems_are =
          c.in_ok-theorems.ensures.theorems_are ∙ theorems_by_kind (open_as_axioms w
          db) c.deref.result.now kinds_are_listed;
      axioms_are =
          c.in_ok-theorems.ensures.axioms_are
          ∙ axioms_by_kind (open_as_axioms w db) c.deref.result.now kinds_are_listed;
      spaced_labels_are =
          c.in_ok-spaced_labels.ensures ∙ ap (map (λ k. 32 ∷ label_at db k)) theorems_are_listed
          ∙ ap (λ (f : ℕ → List ℕ). map (λ k. 32 ∷ f k) (theorems (open_as_axioms w db)))
          (sym (counted_label w db));
    }
