use Rattle.std.proofs.Common.{◌≡◌, ◌∙◌, ℕ, Bool, Some, None, false, refl, ap, slice_get}
use Rattle.mm_outline.specs.declared.parts.Kind.{Kind}
use Rattle.mm_outline.specs.declared.parts.Kind.TheVariants.{Constants, Theorem, Axiom}
use Rattle.mm_database.specs.Kinds.{is_theorem_kind, is_axiom_kind}
use Rattle.mm_database.proofs.KindsLaw.{filter_range_passes, filter_range_skips}
use Rattle.mm_database.proofs.KindsLaw.{test_at_is_test_of_kind}
use Rattle.mm_stmt.proofs.kinds.assertions_of.Goals.{in-Theorem+in_ok-push-in-Theorem}
use Rattle.mm_stmt.proofs.kinds.assertions_of.Goals.{in-Axiom+in_ok-push-in-Axiom, in_default}
use Rattle.mm_stmt.proofs.kinds.assertions_of.Goals as goal

no_theorem : (k : Kind) → (k ≡ Theorem → ⊥) → is_theorem_kind k ≡ false
no_theorem Theorem is_not_theorem = absurd (is_not_theorem refl)
no_theorem _ is_not_theorem = refl

no_axiom : (k : Kind) → (k ≡ Axiom → ⊥) → is_axiom_kind k ≡ false
no_axiom Axiom is_not_axiom = absurd (is_not_axiom refl)
no_axiom _ is_not_axiom = refl

pub loop-statement-preserved : goal.loop-statement-preserved
loop-statement-preserved g c =
    let kinds = c.args.kinds.now in
    let k = c.loop-statement.statement in
    let passes_at : (Kind → Bool) → ℕ → Bool =
    λ test j. elim (slice_get kinds j) [ None ↦ false | Some k ↦ test k ] in
    let as_theorem =
    test_at_is_test_of_kind is_theorem_kind kinds k Constants c.loop-statement-test.true in
    let as_axiom = test_at_is_test_of_kind is_axiom_kind kinds k Constants
    c.loop-statement-test.true in
    elim c.match-kinds-statement.branch [
      | in-Theorem+in_ok-push-in-Theorem w ↦ rw (w.theorems-is, w.axioms-is) (record {
        theorems =
            filter_range_passes (passes_at is_theorem_kind) k c.loop-statement.theorems.items
            w.push.new.self.items
            c.loop-statement.invariant.theorems (as_theorem ∙ ap is_theorem_kind w.in-Theorem.is)
            w.in_ok-push-in-Theorem.ensures.items;
        axioms =
            filter_range_skips (passes_at is_axiom_kind) k c.loop-statement.axioms.items
            c.loop-statement.invariant.axioms
            (as_axiom ∙ ap is_axiom_kind w.in-Theorem.is);
      })
      | in-Axiom+in_ok-push-in-Axiom w ↦ rw (w.theorems-is, w.axioms-is) (record {
        theorems =
            filter_range_skips (passes_at is_theorem_kind) k c.loop-statement.theorems.items
            c.loop-statement.invariant.theorems (as_theorem ∙ ap is_theorem_kind w.in-Axiom.is);
        axioms =
            filter_range_passes (passes_at is_axiom_kind) k c.loop-statement.axioms.items
            w.push-in-Axiom.new.self.items c.loop-statement.invariant.axioms
            (as_axiom ∙ ap is_axiom_kind w.in-Axiom.is) w.in_ok-push-in-Axiom.ensures.items;
      })
      | in_default w ↦ rw (w.theorems-is, w.axioms-is) (record {
        theorems =
            filter_range_skips (passes_at is_theorem_kind) k c.loop-statement.theorems.items
            c.loop-statement.invariant.theorems
            (as_theorem ∙ no_theorem _ w.in_default.not-Theorem);
        axioms =
            filter_range_skips (passes_at is_axiom_kind) k c.loop-statement.axioms.items
            c.loop-statement.invariant.axioms
            (as_axiom ∙ no_axiom _ w.in_default.not-Axiom);
      })
    ]
