-- A `$d` that is active at a statement and has both symbols.
use Rattle.std.proofs.lemmas.Option.{same_Some}
use Rattle.std.proofs.Math.Nat.{zero-add}
use Rattle.std.proofs.Common.{◌≡◌, ℕ, true, ◌&&◌, List, Some, None, nat_lt, slice_get}
use Rattle.std.proofs.Common.{[], ◌∷◌, ◌||◌, false, refl, ap, arith}
use Rattle.std.proofs.lemmas.Bool.{and_parts}
use Rattle.std.specs.List.{list_any}
use Rattle.std.specs.Option.{option_map}
use Rattle.mm_spec.specs.Statement.{Statement, disjoint}
use Rattle.mm_spec.specs.Scope.{active_at, statement_at}
use Rattle.mm_spec.specs.Derivation.{is_member}
use Rattle.mm_spec.specs.Frame.{formula_at, is_disjoint_statement, active_of}
use Rattle.mm_outline.specs.declared.parts.Kind.TheVariants as kind
use Rattle.mm_database.specs.Database.{kind_of}
use Rattle.mm_database.specs.Together.{are_together_at}
use Rattle.mm_spec.proofs.MemberLaw.{member_filter, member_range, witness_makes_any}

is_disjoint_kind : (s : Statement) → kind_of s ≡ kind.Disjoint → is_disjoint_statement s ≡ true
is_disjoint_kind (disjoint k xs d) kind_is_disjoint = refl
is_disjoint_kind _ kind_is_disjoint = absurd cc

is_disjoint_at : (db : List Statement) (j : ℕ)
    → option_map kind_of (slice_get db j) ≡ Some kind.Disjoint
    → list_any is_disjoint_statement (statement_at db j) ≡ true
is_disjoint_at db j = elim (slice_get db j) as (λ o. option_map kind_of o ≡ Some kind.Disjoint
    → list_any is_disjoint_statement (elim o [ None ↦ [] | Some s ↦ s ∷ [] ]) ≡ true) [
      | None ↦ λ is_none. absurd cc
      | Some s ↦ λ is_some. ap (λ b. b || false) (is_disjoint_kind s (same_Some _ _ is_some))
    ]

-- an active `$d` that has both symbols makes them stand together
pub near_are_together : (db : List Statement) (j k x y : ℕ)
    → option_map kind_of (slice_get db j) ≡ Some kind.Disjoint → active_at db j k ≡ true
    → is_member (formula_at db j) x ≡ true → is_member (formula_at db j) y ≡ true
    → are_together_at db k x y ≡ true
near_are_together db j k x y j_is_disjoint active_at_k j_has_x j_has_y =
    let j_lt_k = (and_parts (nat_lt j k) _ active_at_k).0 in
    witness_makes_any (λ i. is_member (formula_at db i) x && is_member (formula_at db i) y)
    (active_of is_disjoint_statement db k) j (rw (
      member_filter,
      is_disjoint_at db j j_is_disjoint,
      member_filter,
      active_at_k,
      member_range k 0 j (omega arith),
      zero-add,
    ) j_lt_k)
    (rw (j_has_x, j_has_y) refl)
