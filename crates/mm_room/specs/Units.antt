-- What is owned of memory that is lent, in units of 16 bytes.
use Rattle.std.specs.Prelude.{ℕ, zero, suc, max, ◌-◌, ◌^◌}
use Rattle.std.specs.Int.{div_ceil, leading_zeros, next_multiple_of}
use prog.Memory.{size, capped}
use mir.Syntax.{Ty, w64, w128, ty_int, ty_array}
use base.Fml.{Fml, ftrue, fwand}
use denote.RawPtr.{Ptr, room_for}
use Rattle.core.specs.Allocator.{owned_block}

-- n units, aligned to 16 bytes, as a type
abbrev pub units : ℕ → Ty
units n = ty_array (ty_int w128) n

-- memory of n units at p in which nothing lies; with no unit there is none
abbrev pub units_at : Ptr → ℕ → Fml
units_at p zero = ftrue
units_at p (suc n) = room_for (units (suc n)) p

-- the right to turn the block for a τ at p back into the n units that it was cut from
abbrev pub way_back : ℕ → Ty → Ptr → Fml
way_back n τ p = fwand (room_for τ p) (units_at p n)

-- a block of n units at p, and the right `holds` to give it back
abbrev pub block_at : (Ty → Ptr → Fml) → ℕ → Ptr → Fml
block_at holds n p = owned_block holds (units n) p

-- n units, rounded up to one of four sizes of blocks from one power of two to the next: those of
-- which only the three highest bits from the first set one on, 61 to 63 of 64, are not zero
abbrev pub rounded : ℕ → ℕ
rounded n = next_multiple_of n (2 ^ (61 - leading_zeros w64 n))

-- how many units a block for so many bytes has
abbrev pub block_units : ℕ → ℕ
block_units bytes = rounded (max (div_ceil bytes 16) 1)

-- the right to turn the block for a τ at p back into the units that it was cut from, which can be
-- given back by `holds`
abbrev pub block_back : (Ty → Ptr → Fml) → Ty → Ptr → Fml
block_back holds τ p = fwand (room_for τ p) (block_at holds (block_units (capped (size τ))) p)
