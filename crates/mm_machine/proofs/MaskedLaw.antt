-- A machine whose entries have masks, after its entries changed.
use Rattle.std.proofs.lemmas.Grind.{common_steps}
use Rattle.std.proofs.Common.{◌≡◌, ℕ, ◌<◌, List, [], ◌∷◌, ◌++◌, length, take, get_or, arith, All}
use Rattle.std.proofs.Common.{Result, OnOk, OnErr, ◌≤◌, ◌∙◌, ap, max, refl}
use Rattle.mm_spec.specs.Derivation.{Formula}
use Rattle.mm_nodes.specs.Strings.{first_node, Extends}
use Rattle.mm_machine.specs.declared.entry.Entry.{Entry}
use Rattle.mm_machine.specs.Entries.{no_entry, IsEntry, IsStack, AreInRange, entry_formula}
use Rattle.mm_machine.specs.Entries.{entry_formulas}
use Rattle.mm_machine.specs.FlagRows.{ExtendsSymbols}
use Rattle.mm_machine.specs.Masks.{Owned, AreMasked, AreAllMasked, entry_masks}
use Rattle.mm_machine.specs.State.{MachineState, machine_state, IsMaskedMachine}
use Rattle.mm_machine.proofs.EntryLaw.{entry_formulas_push}
use Rattle.mm_machine.proofs.StackLaw.{extends_less, extends_unchanged}
use Rattle.mm_machine.proofs.MachineLaw.{pushed_machine, marked_formulas_stay, machine_with_stack}
use Rattle.mm_machine.proofs.MachineLaw.{machine_with_floor, marked_machine, repeated_machine}
use Rattle.mm_machine.proofs.MachineLaw.{empty_machine}
use Rattle.mm_machine.proofs.OwnersLaw.{masks_with_stack, masks_with_owners, masked_after}
use Rattle.mm_machine.proofs.OwnersLaw.{masks_count, masks_with_repeated, masks_with_marked}
use Rattle.mm_machine.proofs.OwnersLaw.{no_entries_masked}

-- the typecode and the symbol of a formula that has no others
pub pair_is : (f : List ℕ) (t s x y : ℕ) → length f ≡ 2 → t ≡ x → x ≡ get_or f 0 x → s ≡ y
    → y ≡ get_or f 1 y → t ∷ s ∷ [] ≡ f
pair_is f t s x y h1 h2 h3 h4 h5 = grind (arith, common_steps)

pub empty_masked : (nodes : List (List ℕ)) (stack : List Entry) (marks : List ℕ)
    (marked : List Entry) (o : Owned) → nodes ≡ [] → stack ≡ [] → marks ≡ [] → marked ≡ []
    → length o.variable_flags ≤ first_node → o.symbols ≡ []
    → IsMaskedMachine nodes stack marks marked 0 o
empty_masked nodes stack marks marked o nodes_are stack_is marks_are marked_are count_le no_owners =
    record {
      is_machine =
          empty_machine nodes stack marks marked o.variable_flags nodes_are stack_is marks_are
          marked_are count_le;
      has_masks = no_entries_masked nodes stack marked o stack_is marked_are no_owners;
    }

module _ {nodes : List (List ℕ)} {stack : List Entry} {marks : List ℕ} {marked : List Entry}
    {floor : ℕ} {o : Owned} (is_masked : IsMaskedMachine nodes stack marks marked floor o) where
  -- after a formula was pushed
  pub pushed_masked : {T E : Type 0} (r : Result T E) (o' : Owned) (nodes' : List (List ℕ))
      (stack' : List Entry) (below keep m : ℕ) (symbols f : Formula)
      → o'.variable_flags ≡ o.variable_flags
      → ExtendsSymbols o.symbols o'.symbols → (All (λ s. s < length o.variable_flags) o.symbols
      → All (λ s. s < length o.variable_flags) o'.symbols) → AreMasked o.variable_flags o'.symbols m
      f → All (λ s. s < length o.variable_flags) f → IsStack nodes' stack' → below ≡ length stack
      → keep ≡ length nodes → symbols ≡ f → Extends (take keep nodes) nodes'
      → OnOk r (entry_formulas nodes' stack' ≡ take below (entry_formulas nodes stack) ++ symbols
      ∷ []) → OnErr r (entry_formulas nodes' stack' ≡ take below (entry_formulas nodes stack))
      → OnOk r (entry_masks stack' ≡ take below (entry_masks stack) ++ m ∷ [])
      → OnErr r (entry_masks stack' ≡ take below (entry_masks stack))
      → IsMaskedMachine nodes' stack' marks marked floor o'
  pushed_masked r o' nodes' stack' below keep m symbols f variables_stay extends stay_in_range
      f_masked f_in_range is_stack below_is keep_is symbols_are nodes_are_kept formulas_are
      formulas_stay masks_are masks_stay =
      let with_owners = masks_with_owners is_masked.has_masks o' variables_stay
      extends stay_in_range in
      record {
        is_machine =
            rw variables_stay (pushed_machine is_masked.is_machine r nodes' stack' is_stack below
            keep symbols f below_is keep_is symbols_are nodes_are_kept
            formulas_are formulas_stay f_in_range);
        has_masks =
            masks_with_stack with_owners nodes' stack' (marked_formulas_stay is_masked.is_machine
            nodes' stack' is_stack (extends_less nodes nodes' floor keep
            (omega (arith, is_masked.is_machine.floor_le_count, keep_is)) nodes_are_kept))
            (masked_after o'.variable_flags o'.symbols r (entry_masks stack) (entry_masks stack')
            (entry_formulas nodes stack) (entry_formulas nodes' stack') below m symbols
            (masks_count nodes stack) with_owners.stack_masked (rw (variables_stay, symbols_are)
            f_masked) formulas_are formulas_stay
            masks_are masks_stay);
      }

  -- after the step of an assertion
  pub applied_masked : (nodes' : List (List ℕ)) (stack' : List Entry) → IsStack nodes' stack'
      → Extends (take floor nodes) nodes'
      → AreInRange (length o.variable_flags) (entry_formulas nodes' stack')
      → AreAllMasked o.variable_flags o.symbols (entry_masks stack') (entry_formulas nodes' stack')
      → IsMaskedMachine nodes' stack' marks marked floor o
  applied_masked nodes' stack' is_stack kept in_range all_masked = record {
    is_machine = machine_with_stack is_masked.is_machine nodes' stack' is_stack kept in_range;
    has_masks =
        masks_with_stack is_masked.has_masks nodes' stack'
        (marked_formulas_stay is_masked.is_machine nodes' stack' is_stack kept) all_masked;
  }

  -- with more owners of masks
  pub owned_masked : (o' : Owned) → o'.variable_flags ≡ o.variable_flags
      → ExtendsSymbols o.symbols o'.symbols
      → (All (λ s. s < length o.variable_flags) o.symbols
      → All (λ s. s < length o.variable_flags) o'.symbols)
      → IsMaskedMachine nodes stack marks marked floor o'
  owned_masked o' variables_stay extends stay_in_range = record {
    is_machine = rw variables_stay is_masked.is_machine;
    has_masks = masks_with_owners is_masked.has_masks o' variables_stay extends stay_in_range;
  }

  -- with a greater floor
  pub raised_masked : (floor' n : ℕ) → floor' ≡ max floor n → n ≤ length nodes
      → IsMaskedMachine nodes stack marks marked floor' o
  raised_masked floor' n floor_is n_le = record {
    is_machine =
        machine_with_floor is_masked.is_machine floor' (omega (arith, floor_is))
        (omega (arith, floor_is, n_le, is_masked.is_machine.floor_le_count));
    has_masks = is_masked.has_masks;
  }
