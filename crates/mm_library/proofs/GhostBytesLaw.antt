-- A `GhostBytes` as it lies in memory: a struct of no field. Assumes `Logic`.
use Rattle.std.proofs.Common.{[], ◌∷◌, refl}
use mir.Val.{vstruct, vnil}
use seplogic.Ra.Ura.{Ura}
use types.Logic.{Logic}
use denote.RattleType.{RattleType}
use denote.Laws.{Is, Makes}
use denote.Struct.Struct.{Struct, Shape, Struct-Makes}

abbrev pub no_field : Shape
no_field = record { name = []; args = []; types = []; fields = [] }

abbrev pub GhostBytesFields : RattleType
GhostBytesFields = Struct no_field

pub ghost_bytes_make : {M : Type 1} {𝓤 : Ura M} (𝓛 : Logic 𝓤)
    → Makes 𝓛 GhostBytesFields (Is GhostBytesFields)
ghost_bytes_make 𝓛 = Struct-Makes 𝓛 no_field tt

pub is_ghost_bytes : Is GhostBytesFields tt (vstruct vnil ∷ [])
is_ghost_bytes = (tt, (refl, tt))
