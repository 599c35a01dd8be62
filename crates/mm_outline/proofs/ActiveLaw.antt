-- The end of its block says where a statement is active.
use Rattle.std.proofs.lemmas.Grind.{common_steps}
use Rattle.std.proofs.Common.{◌≡◌, ℕ, zero, suc, [], ◌∷◌, arith, ◌<◌, ◌≤◌, Bool, ◌&&◌, List, length}
use Rattle.std.proofs.Common.{map, get_or, slice_get, Some, nat_lt, nat_le, refl}
use Rattle.std.proofs.lemmas.Bool.{cases_lt, le-ltb}
use Rattle.mm_spec.specs.Scope.{active_at, is_still_active}
use Rattle.mm_spec.specs.declared.Word.{Word}
use Rattle.mm_outline.specs.declared.parts.Kind.{Kind}
use Rattle.mm_outline.specs.declared.parts.Outline.{Outline}
use Rattle.mm_outline.specs.Parts.{statement_between}
use Rattle.mm_outline.specs.Blocks.{BlockLists, IsBlocks, end_of}
use Rattle.mm_outline.specs.Statements.{statements, is_active_kind}

active_kind_is_activity : (text : List ℕ) (ws : List Word) (k : Kind) (w m e : ℕ) (b : Bool)
    → is_active_kind k b ≡ is_still_active (statement_between text ws k w m e) b
active_kind_is_activity text ws k w m e b = grind (arith, common_steps)

pub get_of_map : {X Y : Type 0} (f : X → Y) (xs : List X) (i : ℕ) (d : X) → i < length xs
    → slice_get (map f xs) i ≡ Some (f (get_or xs i d))
get_of_map f [] i d i_lt_length = absurd (omega arith)
get_of_map f (x ∷ xs) zero d i_lt_length = refl
get_of_map f (x ∷ xs) (suc i) d i_lt_length = get_of_map f xs i d (omega arith)

pub active_test_is_activity : (text : List ℕ) (ws : List Word) (os : List Outline) (b : BlockLists)
    → IsBlocks (statements text ws os) b → (j k : ℕ) → j < length os → k ≤ length os → (d : Outline)
    → (nat_lt j k && is_active_kind (get_or os j d).kind (nat_le k (end_of b j)))
    ≡ active_at (statements text ws os) j k
active_test_is_activity text ws os b is_blocks j k j_lt_length k_le_length d =
    grind (arith, common_steps, cases_lt, le-ltb, active_kind_is_activity, get_of_map)
