-- A `Memory` as it lies in memory: a pointer, which is made of nothing. Assumes `Logic`.
use Rattle.std.proofs.Common.{arith, ◌≡◌, List, [], ◌∷◌, refl}
use Rattle.std.proofs.lemmas.Grind.{common_steps}
use mir.Syntax.{ty_ptr, ty_struct, tcons, tnil}
use mir.Val.{Val, vstruct, vcons, vnil}
use seplogic.Ra.Ura.{Ura}
use types.Logic.{Logic}
use denote.RattleType.{RattleType}
use denote.Laws.{Is, Makes, Typed, Shows, shows}
use denote.RawPtr.{Ptr, RawPtr, ptr_val, rawptr_vals, rawptr_pure, rawptr_Tells}
use denote.Struct.Struct.{Struct, Shape, Struct-Makes, Struct-Tells}

abbrev pub one_pointer : Shape
one_pointer = record { name = []; args = []; types = []; fields = RawPtr ∷ [] }

-- what the fields of a `Memory` own
abbrev pub MemoryFields : RattleType
MemoryFields = Struct one_pointer

abbrev pub memory_val : Ptr → Val
memory_val p = vstruct (vcons (ptr_val p) vnil)

pub memory_makes : {M : Type 1} {𝓤 : Ura M} (𝓛 : Logic 𝓤) → Makes 𝓛 MemoryFields (Is MemoryFields)
memory_makes 𝓛 = Struct-Makes 𝓛 one_pointer (rawptr_pure, tt)

pub is_memory : (p : Ptr) → Is MemoryFields (p, tt) (memory_val p ∷ [])
is_memory p = ((rawptr_vals p, tt), (refl, (refl, tt)))

pub memory_typed : {M : Type 1} {𝓤 : Ura M} (𝓛 : Logic 𝓤) (p : Ptr)
    → Typed (ty_struct [] (tcons ty_ptr tnil) ∷ []) (memory_val p ∷ [])
memory_typed 𝓛 p = grind (arith, common_steps, is_memory)

pub memory_shown : {M : Type 1} {𝓤 : Ura M} (𝓛 : Logic 𝓤) → Shows 𝓛 MemoryFields (Is MemoryFields)
memory_shown 𝓛 = shows 𝓛 MemoryFields

pub memory_is : (p : Ptr) (vs : List Val) → Is MemoryFields (p, tt) vs → vs ≡ memory_val p ∷ []
memory_is p vs = Struct-Tells one_pointer (rawptr_vals, tt) (rawptr_Tells, tt) (p, tt) vs
