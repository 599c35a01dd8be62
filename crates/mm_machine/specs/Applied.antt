-- What the test of a rule answers, and the machine once it has performed a step.
use Rattle.std.specs.Prelude.{ℕ, ◌≡◌, ◌<◌, ◌+◌, ◌++◌, ◌∷◌, [], List, length, take, drop, nat_le}
use Rattle.std.specs.Prelude.{Result, Ok, Err, OnOk, IfErr, ⊤}
use Rattle.mm_spec.specs.Statement.{Statement}
use Rattle.mm_spec.specs.Derivation.{Formula}
use Rattle.mm_spec.specs.Limits.{formula_limit}
use Rattle.mm_spec.specs.Valid.{Reason as SpecReason}
use Rattle.mm_spec.specs.Laws.Stack.{unless_too_long}
use Rattle.mm_rule.specs.declared.rule.RulePart.{RulePart}
use Rattle.mm_rule.specs.Rule.{CompiledRule}
use Rattle.mm_machine.specs.declared.entry.Entry.{Entry}
use Rattle.mm_machine.specs.Entries.{entry_formulas}
use Rattle.mm_machine.specs.Filled.{filled_parts}
use Rattle.mm_machine.specs.declared.reason.StepRefused.{StepRefused}
use Rattle.mm_machine.specs.declared.reason.StepRefused.TheVariants.{Fault, Memory}
use Rattle.mm_machine.specs.State.{MachineState, reason_of, applied}

-- a step that was refused for a reason fails for this reason
abbrev pub IsStepRefusalOf : StepRefused → Result (List Formula) SpecReason → Type 0
IsStepRefusalOf (Fault reason) r = r ≡ Err (reason_of reason)
IsStepRefusalOf Memory r = ⊤

-- The entries after a step that takes those from index `below` on as its premises, and pushes the
-- parts with each variable replaced. It fails if that formula is too long.
abbrev pub entries_after : List (List ℕ) → List Entry → ℕ → List RulePart
    → Result (List Formula) SpecReason
entries_after nodes stack below parts =
    unless_too_long (nat_le (length (filled_parts nodes (drop below stack) parts)) formula_limit)
    (take below (entry_formulas nodes stack) ++ filled_parts nodes (drop below stack) parts ∷ [])

-- what a test of a rule says: how many entries stay below the formula that the step pushes if it is
-- short enough, or why the step isn't performed
abbrev pub TestsRule : List Statement → ℕ → CompiledRule → List (List ℕ) → List Entry
    → Result ℕ StepRefused → Type 0
TestsRule db t c nodes stack (Ok below) =
    (length stack ≡ below + length c.hypotheses)
    × (applied db t c.assertion (entry_formulas nodes stack)
    ≡ entries_after nodes stack below c.formula)
TestsRule db t c nodes stack (Err e) =
    IsStepRefusalOf e (applied db t c.assertion (entry_formulas nodes stack))

-- At theorem `t` the step of assertion `a` leads from the state `s` to the state `s'`. It changes
-- the entries alone, and there is at least the one that it pushes.
pub record LeadsTo (db : List Statement) (t a : ℕ) (s s' : MachineState) : Type 0 where
  pub entries_are : applied db t a s.stack ≡ Ok s'.stack
  pub has_entry : 0 < length s'.stack
  pub marks_stay : s'.marks ≡ s.marks
  pub formulas_stay : s'.formulas ≡ s.formulas

-- what the machine says of that step, and the state that it leaves
pub record AnswersStep {T : Type 0} (db : List Statement) (t a : ℕ) (s s' : MachineState)
    (answer : Result T StepRefused) : Type 0 where
  pub leads_if_ok : OnOk answer (LeadsTo db t a s s')
  pub refusal_is_right : IfErr answer (λ e. IsStepRefusalOf e (applied db t a s.stack))
  pub variables_stay : s'.variable_flags ≡ s.variable_flags
