-- The entries of a proof in progress.
use Rattle.std.specs.Prelude.{ℕ, ◌<◌, ◌≤◌, ◌≡◌, ◌++◌, ◌∷◌, Bool, true, false, List, [], length}
use Rattle.std.specs.Prelude.{get_or, All, Result, Some}
use Rattle.mm_spec.specs.Statement.{Statement}
use Rattle.mm_spec.specs.Derivation.{Formula, assertion}
use Rattle.mm_spec.specs.Valid.{Reason as SpecReason, too_few, unmatched, not_disjoint, too_long}
use Rattle.mm_spec.specs.Frame.{frame_at}
use Rattle.mm_spec.specs.Citation.{context_at}
use Rattle.mm_spec.specs.Laws.Stack.{label_entries, top}
use Rattle.mm_nodes.specs.Strings.{first_node}
use Rattle.mm_machine.specs.declared.entry.Entry.{Entry}
use Rattle.mm_machine.specs.declared.reason.Reason.{Reason}
use Rattle.mm_machine.specs.declared.reason.Reason.TheVariants.{TooFew, Unmatched, NotDisjoint}
use Rattle.mm_machine.specs.declared.reason.Reason.TheVariants.{TooLong}
use Rattle.mm_machine.specs.Entries.{IsEntry, IsStack, AreInRange, entry_formulas}
use Rattle.mm_machine.specs.Masks.{Owned, AreAllMasked, entry_masks}

-- the formulas of the entries, the marked steps so far, the formulas with which they ended, and
-- which symbols are variables
pub record MachineState : Type 0 where
  pub stack : List Formula
  pub marks : List ℕ
  pub formulas : List Formula
  pub variable_flags : List Bool

abbrev pub machine_state : List Formula → List ℕ → List Formula → List Bool → MachineState
machine_state stack marks formulas variable_flags =
    record { stack = stack; marks = marks; formulas = formulas; variable_flags = variable_flags }

-- the state after step `i`: if the step is marked, it and its formula are added to the marked ones
abbrev pub with_mark : Bool → ℕ → MachineState → MachineState
with_mark false i s = s
with_mark true i s =
    machine_state s.stack (s.marks ++ i ∷ []) (s.formulas ++ top s.stack ∷ []) s.variable_flags

-- The state `t` comes of the state `s` when the formula with which the marked step `j` ended is
-- pushed again.
abbrev pub Repeats : ℕ → MachineState → MachineState → Type 0
Repeats j s t =
    (n : ℕ) × (n < length s.formulas) × (n < length s.marks) × (get_or s.marks n 0 ≡ j)
    × (t ≡ machine_state (s.stack ++ get_or s.formulas n [] ∷ []) s.marks s.formulas
    s.variable_flags)

-- no number is less than one before it
abbrev pub IsRising : List ℕ → Type 0
IsRising ns = (i j : ℕ) → i ≤ j → j < length ns → get_or ns i 0 ≤ get_or ns j 0

-- The entries of the stack and of the marked steps are those of a machine for these symbols, and
-- the lists fit together. The marked entries need at most `floor` nodes.
pub record IsMachine (nodes : List (List ℕ)) (stack : List Entry) (marks : List ℕ)
    (marked : List Entry) (floor : ℕ) (variable_flags : List Bool) : Type 0 where
  pub is_stack : IsStack nodes stack
  pub stack_in_range : AreInRange (length variable_flags) (entry_formulas nodes stack)
  pub marked_are_entries : All (IsEntry nodes) marked
  pub marked_are_kept : All (λ e. e.needed ≤ floor) marked
  pub marked_in_range : AreInRange (length variable_flags) (entry_formulas nodes marked)
  pub floor_le_count : floor ≤ length nodes
  pub symbol_count_le : length variable_flags ≤ first_node
  pub marks_rise : IsRising marks
  pub enough_marked : length marks ≤ length marked

-- the masks of the entries are those of their formulas
pub record HasMasks (nodes : List (List ℕ)) (stack marked : List Entry) (o : Owned) : Type 0 where
  pub stack_masked : AreAllMasked o.variable_flags o.symbols (entry_masks stack)
      (entry_formulas nodes stack)
  pub marked_masked : AreAllMasked o.variable_flags o.symbols (entry_masks marked)
      (entry_formulas nodes marked)
  pub owners_in_range : All (λ s. s < length o.variable_flags) o.symbols

-- a machine whose entries have masks
pub record IsMaskedMachine (nodes : List (List ℕ)) (stack : List Entry) (marks : List ℕ)
    (marked : List Entry) (floor : ℕ) (o : Owned) : Type 0 where
  pub is_machine : IsMachine nodes stack marks marked floor o.variable_flags
  pub has_masks : HasMasks nodes stack marked o

abbrev pub reason_of : Reason → SpecReason
reason_of TooFew = too_few
reason_of Unmatched = unmatched
reason_of NotDisjoint = not_disjoint
reason_of TooLong = too_long

-- the entries after the step of an assertion
abbrev pub applied : List Statement → ℕ → ℕ → List Formula → Result (List Formula) SpecReason
applied db t a es = label_entries (context_at db t) (Some (assertion (frame_at db a))) es
