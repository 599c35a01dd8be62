-- The dummy variable that a label of a proof stands for, if it stands for one.
use Rattle.std.specs.Prelude.{ℕ, Bool, ◌&&◌, not, List, [], if◌then◌else◌}
use Rattle.std.specs.List.{list_any}
use Rattle.mm_spec.specs.Text.{Bytes}
use Rattle.mm_spec.specs.Statement.{Statement}
use Rattle.mm_spec.specs.Scope.{statement_at}
use Rattle.mm_spec.specs.Derivation.{is_member}
use Rattle.mm_spec.specs.Frame.{is_floating, active_of, mandatory_hypotheses}
use Rattle.mm_spec.specs.Assertion.{has_label, variable_of}

-- the variable of statement j, if that is a `$f`
abbrev pub float_variable : List Statement → ℕ → List ℕ
float_variable db j = if list_any is_floating (statement_at db j) then variable_of db j else []

-- whether the label is that of an active `$f` of x that isn't mandatory at k
abbrev pub names_dummy : List Statement → ℕ → Bytes → ℕ → Bool
names_dummy db k label x =
    list_any (λ j. has_label db label j
    && (not (is_member (mandatory_hypotheses db k) j) && is_member (variable_of db j) x))
    (active_of is_floating db k)
