-- The lines of theorems that rest on something.
use Rattle.std.proofs.Common.{◌≡◌, ℕ, true, false, List, [], ◌∷◌, map, length, ◌==◌}
use Rattle.std.proofs.Common.{None, refl, true≢false, ap, arith}
use Rattle.std.proofs.lemmas.Bool.Decides.{nat_tests}
use Rattle.std.proofs.lemmas.List.Elements.{All-tail}
use Rattle.std.specs.List.{list_any}
use Rattle.mm_spec.specs.Text.{Bytes}
use Rattle.mm_spec.specs.Statement.{Statement}
use Rattle.mm_spec.specs.Scope.{statement_at}
use Rattle.mm_spec.specs.Report.{list_line}
use Rattle.mm_spec.specs.Citation.{is_assertion}
use Rattle.mm_spec.specs.Assertion.{label_at, has_typecode}
use Rattle.mm_spec.proofs.FindsLaw.{passing_statement, statement_passes}
use Rattle.mm_spec.specs.Comparison.{shift_line}
use Rattle.mm_report.specs.CitingRows.{AreAssertions, listed, listed_labels}

pub no_shift_line : (db : List Statement) (label : Bytes) (axioms : List ℕ)
    → (length axioms == 0) ≡ true
    → [] ≡ shift_line (record { label = label; cited = map (label_at db) axioms })
no_shift_line db label [] is_empty = refl
no_shift_line db label (a ∷ rest) is_empty = absurd (grind (arith, nat_tests))

-- without a typecode all assertions are listed
all_listed : (db : List Statement) (ks : List ℕ) → AreAssertions db ks → listed db None ks ≡ ks
all_listed db [] are_assertions = refl
all_listed db (k ∷ ks) are_assertions =
    let found = passing_statement db is_assertion k (are_assertions 0 0 (omega arith)) in
    rw (statement_passes db (has_typecode None) k found.0 found.1 refl)
    (ap (λ (l : List ℕ). k ∷ l) (all_listed db ks (All-tail
    (λ x. list_any is_assertion (statement_at db x) ≡ true) k ks are_assertions)))

pub some_shift_line : (db : List Statement) (label : Bytes) (axioms : List ℕ)
    → AreAssertions db axioms → (length axioms == 0) ≡ false
    → list_line label (listed_labels db None axioms)
    ≡ shift_line (record { label = label; cited = map (label_at db) axioms })
some_shift_line db label [] are_assertions not_empty = absurd (true≢false not_empty)
some_shift_line db label (a ∷ rest) are_assertions not_empty =
    ap (λ (l : List ℕ). list_line label (map (label_at db) l))
    (all_listed db (a ∷ rest) are_assertions)
