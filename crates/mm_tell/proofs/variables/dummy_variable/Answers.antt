use Rattle.std.proofs.Math.Bool.{and-false}
use Rattle.std.proofs.Common.{rules, arith, ◌≡◌, ◌∙◌, Bool, true, false, ◌&&◌, List, ℕ, [], ap, sym}
use Rattle.std.proofs.Common.{refl}
use Rattle.std.proofs.lemmas.Grind.{common_steps}
use Rattle.std.specs.Prelude.{not, if◌then◌else◌}
use Rattle.std.specs.List.{list_any}
use Rattle.mm_spec.specs.Derivation.{is_member}
use Rattle.mm_spec.specs.Scope.{statement_at}
use Rattle.mm_spec.specs.Frame.{is_floating}
use Rattle.mm_spec.specs.Assertion.{variable_of}
use Rattle.mm_tell.proofs.NamedLaw.{named_by_none, named_alone}
use Rattle.mm_tell.proofs.variables.dummy_variable.Goals as goal
use Rattle.mm_tell.proofs.variables.dummy_variable.Goals.{
  else-active_at-via-else-active_at,
  else-active_at-via-then-active_at+else-not-has_number,
}

pub returns-in_default-clause-names_dummy : goal.returns-in_default-clause-names_dummy
returns-in_default-clause-names_dummy g c = search (rules, arith, named_by_none)

member_if : (b : Bool) (xs : List ℕ) (x : ℕ)
    → is_member (if b then xs else []) x ≡ (b && is_member xs x)
member_if b xs x = grind (arith, common_steps)

as_found : (f a m v : Bool) → a ≡ true → m ≡ false → (f && v) ≡ ((f && a) && (not m && v))
as_found f a m v is_active is_optional = grind (arith, common_steps)

not_found_untyped : (f a m v : Bool) → false ≡ (f && v) → false ≡ ((f && a) && (not m && v))
not_found_untyped f a m v none_there = grind (arith, common_steps)

pub returns-in_default-typed_variable-clause-names_dummy :
    goal.returns-in_default-typed_variable-clause-names_dummy
returns-in_default-typed_variable-clause-names_dummy g c = λ x.
    let db = c.args.database.now.statements in
    let floats = list_any is_floating (statement_at db c.in-Some.statement) in
    let variable = variable_of db c.in-Some.statement in
    rw (named_alone db c.args.theorem c.args.label.now x _ c.in-Some.ensures.has_label.1
    c.in-Some.ensures.is_unique) (not_found_untyped floats _ _ (is_member variable x)
    (ap (λ xs. is_member xs x) c.in_default-typed_variable.ensures.variable_is
    ∙ member_if floats variable x))

pub returns-then-not-has_number-clause-names_dummy :
    goal.returns-then-not-has_number-clause-names_dummy
returns-then-not-has_number-clause-names_dummy g c =
    search (rules, arith, member_if, as_found, named_alone)

pub returns-else-active_at-clause-names_dummy : goal.returns-else-active_at-clause-names_dummy
returns-else-active_at-clause-names_dummy g c = λ x.
    rw (named_alone c.args.database.now.statements c.args.theorem c.args.label.now x _
    c.in-Some.ensures.has_label.1 c.in-Some.ensures.is_unique) (elim c.else-active_at.branch [
      | else-active_at-via-then-active_at+else-not-has_number w ↦ rw (
        ← c.requires.are_hypotheses,
        sym w.has_number.ensures ∙ w.if-not-has_number.false,
        and-false,
      ) refl
      | else-active_at-via-else-active_at w ↦
          rw (sym c.active_at.ensures ∙ w.if-active_at.false, and-false) refl
    ])
