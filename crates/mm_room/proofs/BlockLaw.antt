-- A `Block` as it lies in memory: a pointer, which is made of nothing, and a field of no bytes.
-- Assumes `Logic`.
use Rattle.std.proofs.Common.{arith, ◌≡◌, List, [], ◌∷◌, refl}
use Rattle.std.proofs.lemmas.Grind.{common_steps}
use seplogic.Ra.Ura.{Ura}
use mir.Syntax.{ty_ptr, ty_struct, tcons, tnil}
use mir.Val.{Val, vstruct, vcons, vnil}
use types.Logic.{Logic}
use denote.RattleType.{RattleType}
use denote.Laws.{Is, Makes, Typed, Lawful}
use denote.RawPtr.{Ptr, RawPtr, ptr_val, rawptr_vals, rawptr_pure, rawptr_Lawful}
use denote.Struct.Struct.{Struct, Shape, Struct-Makes, Struct-Pure, Struct-Lawful}

abbrev no_field : Shape
no_field = record { name = []; args = []; types = []; fields = [] }

abbrev two_fields : Shape
two_fields = record { name = []; args = []; types = []; fields = RawPtr ∷ Struct no_field ∷ [] }

-- what the fields of a `Block` own
abbrev pub BlockFields : RattleType
BlockFields = Struct two_fields

abbrev pub block_val : Ptr → Val
block_val p = vstruct (vcons (ptr_val p) (vcons (vstruct vnil) vnil))

module _ {M : Type 1} {𝓤 : Ura M} (𝓛 : Logic 𝓤) where
  pub block_makes : Makes 𝓛 BlockFields (Is BlockFields)
  block_makes = Struct-Makes 𝓛 two_fields (rawptr_pure, (Struct-Pure no_field tt, tt))

  fields_lawful : Lawful 𝓛 BlockFields
  fields_lawful = Struct-Lawful 𝓛 two_fields (rawptr_Lawful 𝓛, (Struct-Lawful 𝓛 no_field tt, tt))

pub is_block : (p : Ptr) → Is BlockFields (p, (tt, tt)) (block_val p ∷ [])
is_block p = ((rawptr_vals p, (vstruct vnil ∷ [], tt)), (refl, (refl, ((tt, (refl, tt)), tt))))

pub block_typed : {M : Type 1} {𝓤 : Ura M} (𝓛 : Logic 𝓤) (p : Ptr)
    → Typed (ty_struct [] (tcons ty_ptr (tcons (ty_struct [] tnil) tnil)) ∷ []) (block_val p ∷ [])
block_typed 𝓛 p = (fields_lawful 𝓛).typed (p, (tt, tt)) (block_val p ∷ []) (is_block p)

pub block_is : (p : Ptr) (vs : List Val) → Is BlockFields (p, (tt, tt)) vs → vs ≡ block_val p ∷ []
block_is p vs h1 = grind (arith, common_steps)
