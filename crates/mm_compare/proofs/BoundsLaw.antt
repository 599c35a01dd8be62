-- Assertions and their hypotheses are statements of the database, and columns are assertions.
use Rattle.std.proofs.Common.{◌≡◌, ◌∙◌, ℕ, ◌+◌, ◌<◌, true, List, length, All, arith, sym, refl}
use Rattle.std.proofs.Common.{Option, Some, slice_get, true≢false}
use Rattle.std.proofs.lemmas.Bool.{ltb-true}
use Rattle.std.proofs.Common.{rules}
use Rattle.std.specs.List.{list_any}
use Rattle.mm_spec.specs.Text.{Bytes}
use Rattle.mm_spec.specs.Statement.{Statement, axiomatic}
use Rattle.mm_spec.specs.Scope.{statement_at}
use Rattle.mm_spec.specs.Derivation.{is_member}
use Rattle.mm_spec.specs.Frame.{mandatory_hypotheses}
use Rattle.mm_spec.specs.Citation.{is_assertion}
use Rattle.mm_spec.specs.Output.{is_column}
use Rattle.mm_spec.proofs.MemberLaw.{member_range}
use Rattle.mm_spec.proofs.ListLaw.{element_is_member}
use Rattle.mm_spec.proofs.FindsLaw.{passing_statement, statement_passes, got_lt_length}
use Rattle.mm_spec.proofs.FindsLaw as finds

pub assertion_lt_length : (db : List Statement) (k : ℕ)
    → list_any is_assertion (statement_at db k) ≡ true → k < length db
assertion_lt_length db k is_one =
    let found = passing_statement db is_assertion k is_one in
    got_lt_length db k found.0 found.1

bounded_by_members : (n : ℕ) (xs : List ℕ) → ((a : ℕ) → is_member xs a ≡ true → a < n)
    → All (λ x. x < n) xs
bounded_by_members n xs members_bounded i d i_lt_length = search (rules, arith, element_is_member)

-- the mandatory hypotheses of an assertion are before it
pub hypotheses_lt_length : (db : List Statement) (k : ℕ)
    → list_any is_assertion (statement_at db k) ≡ true
    → All (λ j. j < length db) (mandatory_hypotheses db k)
hypotheses_lt_length db k is_one =
    let k_lt_length = assertion_lt_length db k is_one in
    bounded_by_members (length db) _ (λ j is_found. omega (
      arith,
      ltb-true j (0 + k) (sym (member_range k 0 j (omega arith))
          ∙ (finds.member_filter _ _ j (finds.member_filter _ _ j is_found).1).1),
    ))

-- a column is an assertion
pub column_is_assertion : (db : List Statement) (only : Option Bytes) (a : ℕ)
    → list_any (is_column only) (statement_at db a) ≡ true
    → list_any is_assertion (statement_at db a) ≡ true
column_is_assertion db only a is_one = by_statement found.0 found.1 found.2
  where
    found : (s : Statement) × (slice_get db a ≡ Some s) × (is_column only s ≡ true)
    found = passing_statement db (is_column only) a is_one

    by_statement : (s : Statement) → slice_get db a ≡ Some s → is_column only s ≡ true
        → list_any is_assertion (statement_at db a) ≡ true
    by_statement (axiomatic l p xs d) got s_is_one = statement_passes db is_assertion a _ got refl
    by_statement _ got s_is_one = absurd (true≢false (sym s_is_one))
