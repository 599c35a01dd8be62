-- `none` makes a struct of no field, with no byte. Assumes `Logic`.
use Rattle.std.proofs.Common.{[], ◌∷◌, refl}
use Rattle.std.proofs.raw_atomic.Walks.{proved}
use base.Fml.{ftrue}
use mir.Val.{vstruct, vnil}
use types.Kit.{‵, raw, ◌$◌, ◌∵◌, !, qed, done, drop, fjoin, suffices}
use types.Part.{agg}
use types.Run.{enter, no_more, returns}
use types.ByLocal.{alloc_all, pass_all, free_all, look_at, sets}
use denote.Laws.{Is}
use denote.Steps.{nothing, owned}
use denote.Triple.Entry.{on_entry}
use denote.Triple.Walked.{walk_of, says, ends_at}
use Rattle.mm_library.proofs.GhostBytesLaw.{GhostBytesFields, ghost_bytes_make, is_ghost_bytes}
use Rattle.mm_library.specs.contracts.ghost_bytes.GhostBytes.none as f
use Rattle.mm_library.proofs.ghost_bytes.GhostBytes.none.Statement.{statement}
use Rattle.mm_library.proofs.ghost_bytes.GhostBytes.none.Code as code

pub none_spec : {M : Type 1} → statement M
none_spec 𝓤 𝓛 𝓜 𝓡 wired =
    let c = f.clauses 𝓛 𝓜.mem 𝓡.returns in let W = walk_of 𝓛 f.ended tt c in
    proved 𝓛 f.ended tt c 𝓜 𝓡 tt f.Key.name code.function (code.unfolded 𝓤 𝓛.H 𝓜 𝓡 wired)
    (λ κs. tt) (λ κs. tt) (λ κs qs bounds a n are.
    let y : W.Ghost = ((κs, qs, bounds, a, tt), n) in
    qed 𝓛 (raw (on_entry 𝓛 f.signature κs qs a y.0.4) ∷ ‵ ftrue ∷ []) ∵ drop ! $ drop ! $
    enter ! _ _ _ _ _ $ alloc_all ! (λ l. pass_all ! refl tt $
    sets ! (agg ! (no_more !)) refl (tt, tt) $
    returns ! (look_at ! 0 refl) $ free_all ! refl $
    suffices ! _ (ends_at 𝓛 f.ended tt c y (vstruct vnil) (record { bytes = [] }) tt tt) $
    says ! refl $
    nothing ! $ owned ! GhostBytesFields (Is GhostBytesFields) (ghost_bytes_make 𝓛) tt (vstruct vnil
    ∷ []) is_ghost_bytes $ fjoin ! $
    nothing ! $ nothing ! $ done !))
