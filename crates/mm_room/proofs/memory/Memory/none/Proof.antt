-- `none` makes a null pointer, which owns no unit. Assumes `Logic`.
use Rattle.std.proofs.Common.{[], ◌∷◌, refl, lit<}
use Rattle.std.proofs.raw_atomic.Walks.{proved}
use base.Fml.{ftrue}
use types.Kit.{‵, raw, ◌$◌, ◌∵◌, !, qed, done, drop, fjoin, suffices}
use types.Part.{agg}
use types.Run.{enter, lit, no_more, and_then, returns}
use types.ByLocal.{alloc_all, pass_all, free_all, look_at, sets}
use denote.Laws.{Is}
use denote.RawPtr.{null_ptr}
use denote.Steps.{nothing, owned}
use denote.Triple.Entry.{on_entry}
use denote.Triple.Walked.{walk_of, says, ends_at}
use Rattle.mm_room.proofs.MemoryLaw.{MemoryFields, memory_val, memory_makes, is_memory}
use Rattle.mm_room.specs.contracts.memory.Memory.none as f
use Rattle.mm_room.proofs.memory.Memory.none.Statement.{statement}
use Rattle.mm_room.proofs.memory.Memory.none.Code as code

pub none_spec : {M : Type 1} → statement M
none_spec 𝓤 𝓛 𝓜 𝓡 wired =
    let c = f.clauses 𝓛 𝓜.mem 𝓡.returns in let W = walk_of 𝓛 f.ended tt c in
    proved 𝓛 f.ended tt c 𝓜 𝓡 tt f.Key.name code.function (code.unfolded 𝓤 𝓛.H 𝓜 𝓡 wired)
    (λ κs. tt) (λ κs. tt) (λ κs qs bounds a n are.
    let y : W.Ghost = ((κs, qs, bounds, a, tt), n) in
    qed 𝓛 (raw (on_entry 𝓛 f.signature κs qs a y.0.4) ∷ ‵ ftrue ∷ []) ∵ drop ! $ drop ! $
    enter ! _ _ _ _ _ $ alloc_all ! (λ l. pass_all ! refl tt $
    sets ! (agg ! (and_then ! (lit ! tt) (no_more !))) refl (tt, (record { fits = lit< tt }, tt)) $
    returns ! (look_at ! 0 refl) $ free_all ! refl $
    suffices ! _ (ends_at 𝓛 f.ended tt c y (memory_val null_ptr) (record {
      address = null_ptr;
      units = 0;
    }) tt tt) $ says ! refl $
    nothing ! $ owned ! MemoryFields (Is MemoryFields) (memory_makes 𝓛) (null_ptr, tt) (memory_val
    null_ptr ∷ []) (is_memory null_ptr) $ fjoin ! $
    nothing ! $ nothing ! $ done !))
