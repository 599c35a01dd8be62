-- What was found may be written: all that is listed are assertions.
use Rattle.std.proofs.Common.{◌≡◌, ℕ, ◌<◌, ◌^◌, true, List, [], length, arith, Option}
use Rattle.std.proofs.Common.{get_or}
use Rattle.std.specs.Prelude.{Result, Ok, Err, OnOk, OnErr}
use Rattle.std.proofs.lemmas.Bool.{and_parts}
use Rattle.std.specs.List.{list_any, range_with_len}
use Rattle.mm_spec.specs.Text.{Bytes}
use Rattle.mm_spec.specs.Statement.{Statement}
use Rattle.mm_spec.specs.Scope.{statement_at}
use Rattle.mm_spec.specs.Derivation.{is_member}
use Rattle.mm_spec.specs.Citation.{is_assertion}
use Rattle.mm_spec.specs.Output.{theorems, is_column}
use Rattle.mm_spec.proofs.ListLaw.{element_is_member}
use Rattle.mm_spec.proofs.FindsLaw.{member_filter, passing_statement, got_lt_length}
use Rattle.mm_spec.specs.Assertion.{is_told}
use Rattle.mm_report.proofs.AssertionLaw.{told_have_dummies}
use Rattle.mm_tell.specs.Dummies.{DummyLists}
use Rattle.mm_spec.specs.Comparison.{is_only_in, only_in}
use Rattle.mm_compare.proofs.BoundsLaw.{column_is_assertion}
use Rattle.mm_shifts.specs.Resting.{Resting, side_in}
use Rattle.mm_report.specs.CitingRows.{AreAssertions}
use Rattle.mm_report.specs.Differences.{IsDifference}
use Rattle.mm_against.specs.Lists.{AreListsOf}

members_are_assertions : (db : List Statement) (ks : List ℕ)
    → ((a : ℕ) → is_member ks a ≡ true → list_any is_assertion (statement_at db a) ≡ true)
    → AreAssertions db ks
members_are_assertions db ks each i d i_lt_length =
    each (get_or ks i d) (element_is_member ks i d i_lt_length)

pub lists_may_be_written : (r other : Resting) (only : Option Bytes) (own : List ℕ)
    (dummy_lists : DummyLists) (shifts : List (List ℕ))
    → length (theorems r.contents.statements) < 2 ^ 31
    → AreListsOf r other only own dummy_lists shifts
    → IsDifference r.contents own dummy_lists shifts
lists_may_be_written r other only own dummy_lists shifts few are_lists =
    let db = r.contents.statements in
    let count_is = are_lists.are_shifted.count_is in
    let own_assertions = only_in (side_in r) only (side_in other) in
    record {
      own_are_assertions = rw are_lists.own_is
          (members_are_assertions db _ (λ a is_one.
          (and_parts (list_any is_assertion (statement_at db a)) _
          (and_parts _ _ (member_filter (is_only_in (side_in r) only (side_in other))
          (range_with_len 0 (length db)) a is_one).0).0).0));
      have_dummies = rw are_lists.own_is (λ i d i_lt_length.
          let a = get_or own_assertions i d in
          let is_own = member_filter (is_only_in (side_in r) only (side_in other))
          (range_with_len 0 (length db)) a
          (element_is_member own_assertions i d i_lt_length) in
          let told = (and_parts (is_told db only a) _ is_own.0).0 in
          let found = passing_statement db is_assertion a
          (and_parts (list_any is_assertion (statement_at db a)) _ told).0 in
          told_have_dummies db only dummy_lists a are_lists.are_dummies
          (got_lt_length db a found.0 found.1) told);
      as_many_lists = count_is;
      few_lists = omega (arith, count_is, few);
      shifts_are_assertions = λ i i_lt_count. members_are_assertions db (get_or shifts i []) (λ a
          is_one. column_is_assertion db only a
          (member_filter (λ j. list_any (is_column only) (statement_at db j))
          (range_with_len 0 (length db)) a
          (((are_lists.are_shifted.each_is_shifted i (omega (arith, count_is, i_lt_count))).shifted
          a).0 is_one).0).0);
    }

pub on_ok : {T E P Q : Type 0} (r : Result T E) → (P → Q) → OnOk r P → OnOk r Q
on_ok (Ok x) f holds = f holds
on_ok (Err e) f holds = tt

pub on_err : {T E P Q : Type 0} (r : Result T E) → (P → Q) → OnErr r P → OnErr r Q
on_err (Ok x) f holds = tt
on_err (Err e) f holds = f holds
