-- `deallocate` turns the block back into the units of the room, and gives these to the lender.
-- Assumes `Logic`.
use Rattle.std.proofs.Common.{◌≡◌, List, [], ◌∷◌, refl, ap, w64}
use Rattle.std.proofs.raw_atomic.Walks.{proved}
use base.Logic.{id⊢, apply∗, emp}
use base.Fml.{ftrue}
use mir.Syntax.{named}
use mir.Val.{Val, vunit}
use contract.Monad.{fact, fact_i}
use contract.Running.{tables}
use prog.Memory.{size, align, capped}
use types.Logic.{sem}
use types.Kit.{‵, raw, ◌⊛◌, some, later, ◌$◌, ◌∵◌, !, qed, done, move, keep, drop, use0, use1, use2}
use types.Kit.{split, split3, join, fsplit, fjoin, feq_i, feq_l, pick, await, suffices, group}
use types.Part.{agg}
use types.Run.{enter, of_opd, unit_lit, no_more, and_then, returns}
use types.ByLocal.{alloc_all, pass_all, free_all, look_at, get, sets, lands_as}
use denote.Builtin.{unit}
use denote.Laws.{Is}
use denote.Plain.{uint_vals, uint_Tells}
use denote.RattleType.{owns}
use denote.RawPtr.{room_for, rawptr_vals, rawptr_Tells, rawptr_Lawful}
use denote.Ref.{shr_vals, shr_Tells}
use denote.Signature.{types_at}
use denote.Steps.{nothing, owned, only}
use denote.Triple.Call.{calls_at}
use denote.Triple.Clauses.{Lasts, lasts}
use denote.Triple.Entry.{alive}
use denote.Triple.Spec.{triple_of}
use denote.Triple.Table.{framed}
use denote.Triple.Walked.{walk_of, ends_at}
use Rattle.mm_room.proofs.DroppedLaw.{all_dropped, all_go}
use Rattle.mm_room.specs.Units.{units_at, way_back}
use Rattle.mm_room.specs.contracts.lender.Lender as lender
use Rattle.mm_room.specs.contracts.memory.Memory as memory
use Rattle.mm_room.proofs.MemoryLaw.{MemoryFields, memory_val, memory_typed, memory_makes}
use Rattle.mm_room.proofs.MemoryLaw.{is_memory}
use Rattle.mm_room.specs.contracts.lender.LenderAllocator.deallocate as f
use Rattle.mm_room.proofs.lender.LenderAllocator.deallocate.Statement.{statement}
use Rattle.mm_room.proofs.lender.LenderAllocator.deallocate.Code as code
use Rattle.mm_room.specs.contracts.lender.Lender.put_back as g
use Rattle.mm_room.proofs.lender.Lender.put_back.Met.{met}

pub deallocate_spec : {M : Type 1} → statement M
deallocate_spec 𝓤 𝓛 𝓜 𝓡 wired =
    let stayed = all_dropped f.ended.signature.params f.ended.kept in
    let c = f.clauses 𝓛 𝓜.mem 𝓡.returns in let W = walk_of 𝓛 f.ended stayed c in
    proved 𝓛 f.ended stayed c 𝓜 𝓡
    (all_go 𝓛 _ f.ended.signature.params f.ended.kept
    ((λ κs x w. refl), ((λ κs x w. refl), ((λ κs x w. refl), ((λ κs x w. refl), tt)))))
    f.Key.name code.function (code.unfolded 𝓤 𝓛.H 𝓜 𝓡 wired)
    (λ κs. (shr_vals, (rawptr_vals, (uint_vals w64, (uint_vals w64, tt)))))
    (λ κs. (
      shr_Tells (named 0) κs.0 lender.the_row,
      (rawptr_Tells, (uint_Tells w64, (uint_Tells w64, tt))),
    ))
    (λ κs qs bounds a τ are.
    let u = a.0.now.units in let p = a.1.0 in
    let y : W.Ghost = (
      (
        κs,
        qs,
        bounds,
        a,
        (shr_vals a.0, (rawptr_vals p, (uint_vals w64 a.1.1.0, (uint_vals w64 a.1.1.1.0, tt)))),
      ),
      τ,
    ) in
    let G = triple_of 𝓛 g.signature (g.spec 𝓛 𝓜.mem 𝓡.returns) in
    let m : (memory.the_row).Denot = record { address = p; units = u } in
    let z : G.Ghost = (
      (κs, qs, bounds, (a.0, (m, tt)), (shr_vals a.0, (memory_val p ∷ [], tt))),
      tt,
    ) in
    qed 𝓛 ((raw (alive 𝓛 f.signature κs qs) ⊛ ‵ (owns (types_at f.signature.params κs) a y.0.4))
    ∷ (raw (fact 𝓤 ((capped (size τ) ≡ a.1.1.0) × (capped (align τ) ≡ a.1.1.1.0))) ⊛ ‵
    (room_for τ p) ⊛ ‵ (way_back u τ p)) ∷ []) ∵
    move ! (1 ∷ []) $ split3 ! $ drop ! $
    use2 𝓛 (‵ (units_at p u)) (apply∗ 𝓤 (sem 𝓛 (room_for τ p)) (sem 𝓛 (units_at p u))) $
    move ! (1 ∷ []) $ split ! $ move ! (1 ∷ []) $ fsplit ! $ keep ! (0 ∷ 2 ∷ 3 ∷ []) $
    -- [the lender; the tokens; the units]
    -- Here the code begins.
    enter ! _ _ _ _ _ $
    alloc_all ! (λ l. pass_all ! refl (
      (tt, tt),
      (
        ((rawptr_Lawful 𝓛).typed p _ refl).0,
        (
          (tt, record { fits = are.1.1.0.1 }),
          ((tt, record { fits = are.1.1.1.0.1 }), tt),
        ),
      ),
    ) $
    -- `Memory { address: ptr }`
    sets ! (agg ! (and_then ! (get ! refl) (no_more !))) refl (memory_typed 𝓛 p).0 $
    move ! (2 ∷ []) $ owned ! MemoryFields (Is MemoryFields) (memory_makes 𝓛) (p, tt)
    (memory_val p ∷ []) (is_memory p) $ fjoin ! $
    nothing ! $ move ! (1 ∷ 0 ∷ []) $ fjoin ! $ move ! (1 ∷ 0 ∷ []) $ fjoin ! $
    move ! (1 ∷ 0 ∷ []) $ join ! $
    use0 𝓛 (raw (fact 𝓤 (u ≡ u))) (fact_i 𝓤 (u ≡ u) (emp 𝓤) refl) $ move ! (1 ∷ 0 ∷ []) $ join ! $
    use1 𝓛 (raw (G.pre z)) (id⊢ 𝓤 _) $
    -- The call `self.put_back(..)`, and what it gives.
    calls_at ! (framed 𝓤 𝓛.H 𝓜 (tables 𝓤 𝓛.H 𝓜 𝓡 𝓡.env)) G
    (met 𝓤 𝓛 𝓜 𝓡 (code.calls-mm_room::lender::Lender::put_back 𝓡.env wired)) z
    (and_then ! (get ! refl) (and_then ! (get ! refl) (no_more !))) (λ v.
    use1 𝓛 (later
    (some (λ (r : Unit {0}). (raw (alive 𝓛 f.signature κs qs) ⊛ ‵ (unit.own_val r (v ∷ []))) ⊛
    some (λ (ws : Lasts g.ended z.0.0 z.0.3). ‵ (lasts g.ended z.0.0 z.0.3 ws) ⊛ ‵ ftrue))))
    (id⊢ 𝓤 _) $
    await ! tt $ pick ! (λ r. split ! $ split ! $ move ! (2 ∷ []) $ drop ! $
    move ! (1 ∷ []) $ feq_l ! (λ is_unit.
    -- The end, and the return.
    lands_as ! (ap only is_unit) refl (tt, tt) $
    sets ! (of_opd ! (unit_lit !)) refl (tt, tt) $
    returns ! (look_at ! 0 refl) $ free_all ! refl $
    suffices ! _ (ends_at 𝓛 f.ended stayed c y vunit tt (tt, (tt, (tt, (tt, tt))))
    (tt, (tt, (tt, (tt, tt))))) $
    nothing ! $ feq_i ! (List Val) (vunit ∷ []) (vunit ∷ []) refl $ nothing ! $ nothing ! $ join ! $
    nothing ! $ join ! $ nothing ! $ join ! $ nothing ! $ join ! $ move ! (3 ∷ 0 ∷ 1 ∷ 2 ∷ []) $
    group ! 3 $ done !)))))
