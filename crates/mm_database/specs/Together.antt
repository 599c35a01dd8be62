-- Symbols that are in one active `$d`.
use Rattle.std.specs.Prelude.{ℕ, Bool, ◌&&◌, List}
use Rattle.std.specs.List.{list_any}
use Rattle.mm_spec.specs.Statement.{Statement}
use Rattle.mm_spec.specs.Derivation.{is_member}
use Rattle.mm_spec.specs.Frame.{formula_at, is_disjoint_statement, active_of}

-- whether some `$d` that is active at statement k has both symbols; if they are different, they are
-- then disjoint there
abbrev pub are_together_at : List Statement → ℕ → ℕ → ℕ → Bool
are_together_at db k x y =
    list_any (λ j. is_member (formula_at db j) x && is_member (formula_at db j) y)
    (active_of is_disjoint_statement db k)
