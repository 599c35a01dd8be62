use mir.Syntax.{Dict}
use denote.RattleType.{RattleType}
use denote.Param.Send.{Frees}
use Rattle.std.specs.declared.alloc.Allocator.{Ghosts}
use Rattle.hostile.specs.contracts.heap.RefusingAllocator.TheImpl.{ghosts}

pub frees : (A : RattleType) (g : Ghosts A.Denot) (d e : Dict) → Frees g g.dealloc_token
    → Frees (ghosts A g d e) (ghosts A g d e).dealloc_token
frees A g d e inner_frees = record { frees = λ r. inner_frees.frees r.inner }
