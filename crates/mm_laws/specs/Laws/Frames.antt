-- Frames are complete: the laws on mandatory variables. (This project's own.)
use Rattle.std.specs.Prelude.{◌≡◌, ◌↔◌, ◌==◌, ℕ, Bool, false, ◌||◌, List, [], ◌∷◌, IsTrue}
use Rattle.std.specs.List.{list_any}
use Rattle.mm_spec.specs.Statement.{Statement}
use Rattle.mm_spec.specs.Scope.{statement_at}
use Rattle.mm_spec.specs.Derivation.{is_member}
use Rattle.mm_spec.specs.Frame.{formula_at, is_variable_number, is_floating, mandatory_variables}
use Rattle.mm_spec.specs.Frame.{mandatory_hypotheses, mandatory_pairs}
use Rattle.mm_spec.specs.Citation.{is_assertion, context_at}
use Rattle.mm_spec.specs.Laws.Complete.{HasCompleteFrame}

-- the frame of each assertion to which a label refers at k is complete
abbrev pub FramesAreComplete : List Statement → ℕ → Type 0
FramesAreComplete db k =
    (label : ℕ) → HasCompleteFrame (context_at db k) ((context_at db k).referent label)

-- statement j is the `$f` of x: its formula is a typecode, which is no variable, and x
pub record IsTyping (db : List Statement) (j x : ℕ) : Type 0 where
  pub is_floating_statement : IsTrue (list_any is_floating (statement_at db j))
  pub typecode : ℕ
  pub formula_is : formula_at db j ≡ typecode ∷ x ∷ []
  pub typecode_is_constant : is_variable_number db typecode ≡ false

-- each mandatory variable of an assertion has a `$f` among its mandatory hypotheses
abbrev pub VariablesAreTyped : List Statement → ℕ → Type 0
VariablesAreTyped db k = IsTrue (list_any is_assertion (statement_at db k))
    → (x : ℕ) → IsTrue (is_member (mandatory_variables db k) x)
    → (j : ℕ) × IsTrue (is_member (mandatory_hypotheses db k) j) × IsTyping db j x

-- whether a symbol occurs in the frame of statement k: in its formula, in a mandatory hypothesis,
-- or in a mandatory pair
abbrev pub is_in_frame : List Statement → ℕ → ℕ → Bool
is_in_frame db k x = is_member (formula_at db k) x
    || (list_any (λ j. is_member (formula_at db j) x) (mandatory_hypotheses db k)
    || list_any (λ p. (x == p.low) || (x == p.high)) (mandatory_pairs db k))

-- the mandatory variables of an assertion are the variables that occur in its frame
abbrev pub VariablesAreMandatory : List Statement → ℕ → Type 0
VariablesAreMandatory db k = IsTrue (list_any is_assertion (statement_at db k)) → (x : ℕ)
    → IsTrue (is_member (mandatory_variables db k) x)
    ↔ (IsTrue (is_variable_number db x) × IsTrue (is_in_frame db k x))
