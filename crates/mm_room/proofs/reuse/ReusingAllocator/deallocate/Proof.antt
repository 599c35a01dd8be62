-- `deallocate` turns the block back into the units that it was cut from, for their free
-- list. Assumes `Logic`.
use Rattle.std.proofs.Common.{ℕ, ◌≡◌, List, [], ◌∷◌, refl, ap, w64}
use Rattle.std.proofs.raw_atomic.Walks.{proved}
use base.Logic.{id⊢, apply∗, emp}
use base.Fml.{ftrue}
use mir.MapTy.{inst_fn}
use contract.BorrowLft.{◌⊑◌}
use denote.Param.{param, bounded}
use denote.Plain.{uint_Makes, uint_vals, uint_Tells}
use mir.Syntax.{Args, Fn, a_type, dcons, dnil, named}
use mir.Val.{Val, vunit}
use contract.Monad.{fact, fact_i}
use contract.Running.{tables}
use prog.Memory.{size, align, capped}
use types.Logic.{sem}
use types.Kit.{rewrite, ‵, raw, ◌⊛◌, some, later, ◌$◌, ◌∵◌, !, qed, done, move, keep, drop, use0}
use types.Kit.{use1, use2, split, split3, join, fsplit, fjoin, feq_i, feq_l, pick, await, suffices}
use types.Kit.{group}
use types.Part.{agg}
use types.Run.{enter, of_opd, unit_lit, no_more, and_then, returns}
use types.ByLocal.{alloc_all, pass_all, free_all, look_at, get, sets, lands_as}
use denote.Builtin.{usize, unit}
use denote.Laws.{Is}
use denote.RattleType.{RattleType, owns}
use denote.RawPtr.{room_for, rawptr_vals, rawptr_Tells, rawptr_Lawful}
use denote.Ref.{shr_vals, shr_Tells}
use denote.Signature.{types_at}
use denote.Steps.{heard, nothing, owned, only}
use denote.Triple.Call.{calls_at}
use denote.Triple.Clauses.{Lasts, lasts}
use denote.Triple.Entry.{alive}
use denote.Triple.Spec.{triple_of}
use denote.Triple.Table.{framed}
use denote.Triple.Walked.{walk_of, ends_at}
use Rattle.mm_room.proofs.DroppedLaw.{all_dropped, all_go}
use Rattle.mm_room.specs.Units.{block_at, block_units, block_back}
use Rattle.mm_room.specs.contracts.reuse.Reusing as lists
use Rattle.mm_room.specs.contracts.block.Block as block
use Rattle.mm_room.proofs.BlockLaw.{BlockFields, block_val, block_typed, block_makes, is_block}
use Rattle.mm_room.specs.contracts.reuse.ReusingAllocator.deallocate as f
use Rattle.mm_room.proofs.reuse.ReusingAllocator.deallocate.Statement.{statement}
use Rattle.mm_room.proofs.reuse.ReusingAllocator.deallocate.Code as code
use Rattle.mm_room.specs.contracts.reuse.Reusing.give_back as k
use Rattle.mm_room.proofs.reuse.Reusing.give_back.Met.{met as met'}

pub deallocate_spec : {M : Type 1} → statement M
deallocate_spec 𝓤 𝓛 𝓜 𝓡 wired A L g d dd met md =
    let T = f.ended A g d dd in let c = f.clauses A g d dd 𝓛 𝓜.mem 𝓡.returns in
    let args : Args = bounded (a_type ∷ []) (A, tt) (dcons d (dcons dd dnil)) in
    let fn : Fn = inst_fn args code.function in
    let 𝓣 = tables 𝓤 𝓛.H 𝓜 𝓡 𝓡.env in
    let row : RattleType = lists.the_row (param 0 A) g in
    let stayed = all_dropped T.signature.params T.kept in
    let W = walk_of 𝓛 T stayed c in
    proved 𝓛 T stayed c 𝓜 𝓡
    (all_go 𝓛 _ T.signature.params T.kept
    ((λ κs x w. refl), ((λ κs x w. refl), ((λ κs x w. refl), ((λ κs x w. refl), tt)))))
    (f.Key.name args) fn (code.unfolded 𝓤 𝓛.H 𝓜 𝓡 wired (A, tt) d dd)
    (λ κs. (shr_vals, (rawptr_vals, (uint_vals w64, (uint_vals w64, tt)))))
    (λ κs. (shr_Tells (named 0) κs.0 row, (rawptr_Tells, (uint_Tells w64, (uint_Tells w64, tt)))))
    (λ κs qs bounds a τ are.
    let h = a.0.now.alloc in let p = a.1.0 in let n = a.1.1.0 in let holds = g.dealloc_token h in
    let y : W.Ghost = (
      (
        κs,
        qs,
        bounds,
        a,
        (shr_vals a.0, (rawptr_vals p, (uint_vals w64 n, (uint_vals w64 a.1.1.1.0, tt)))),
      ),
      τ,
    ) in
    let G = triple_of 𝓛 (k.signature A g d dd) (k.spec A g d dd 𝓛 𝓜.mem 𝓡.returns) in
    let x : (block.the_row A g).Denot = record {
      address = p;
      given_by = record {};
      alloc = h;
      units = block_units n;
    } in
    let z : G.Ghost = (
      (
        κs,
        qs,
        bounds,
        (a.0, (x, (n, tt))),
        (shr_vals a.0, (block_val p ∷ [], (uint_vals w64 n, tt))),
      ),
      tt,
    ) in
    qed 𝓛 ((raw (alive 𝓛 T.signature κs qs) ⊛ ‵ (owns (types_at T.signature.params κs) a y.0.4))
    ∷ (raw (fact 𝓤 (κs.1.0 ⊑ A.lives)) ⊛ raw
    (fact 𝓤 ((capped (size τ) ≡ n) × (capped (align τ) ≡ a.1.1.1.0))) ⊛ ‵ (room_for τ p) ⊛ ‵
    (block_back holds τ p)) ∷ []) ∵
    move ! (1 ∷ []) $ split ! $ move ! (1 ∷ []) $ split3 ! $ heard ! _ (λ layout_is.
    use2 𝓛 (‵ (block_at holds (block_units (capped (size τ))) p))
    (apply∗ 𝓤 (sem 𝓛 (room_for τ p)) (sem 𝓛 (block_at holds (block_units (capped (size τ))) p))) $
    rewrite ! 0 (λ (j : ℕ). ‵ (block_at holds (block_units j) p)) layout_is.0 refl $
    move ! (2 ∷ []) $ split ! $ move ! (1 ∷ []) $ fsplit ! $ keep ! (0 ∷ 2 ∷ 3 ∷ 4 ∷ []) $
    -- [the lists; the tokens; the block; the bound of the allocator's lifetime]
    -- Here the code begins.
    enter ! _ _ _ _ _ $
    alloc_all ! (λ l. pass_all ! refl (
      (tt, tt),
      (
        ((rawptr_Lawful 𝓛).typed p _ refl).0,
        (
          (tt, record { fits = are.1.1.0.1 }),
          ((tt, record { fits = are.1.1.1.0.1 }), tt),
        ),
      ),
    ) $
    -- `let given_by = PhantomData`, and `Block { address: ptr, given_by }`
    sets ! (agg ! (no_more !)) refl (tt, tt) $
    sets ! (agg ! (and_then ! (get ! refl) (and_then ! (get ! refl) (no_more !)))) refl
    (block_typed 𝓛 p).0 $
    move ! (2 ∷ []) $ owned ! BlockFields (Is BlockFields) (block_makes 𝓛) (p, (tt, tt))
    (block_val p ∷ []) (is_block p) $ fjoin ! $
    nothing ! $ owned ! usize (Is usize) (uint_Makes 𝓛 w64) n (uint_vals w64 n)
    (refl, are.1.1.0.1) $ fjoin ! $
    move ! (1 ∷ 0 ∷ []) $ fjoin ! $ move ! (1 ∷ 0 ∷ []) $ fjoin ! $ move ! (1 ∷ 0 ∷ []) $
    join ! $ move ! (1 ∷ []) $
    use0 𝓛 (raw (fact 𝓤 (block_units n ≡ block_units n)))
    (fact_i 𝓤 (block_units n ≡ block_units n) (emp 𝓤) refl) $
    use0 𝓛 (raw (fact 𝓤 (h ≡ h))) (fact_i 𝓤 (h ≡ h) (emp 𝓤) refl) $ join ! $
    move ! (1 ∷ 0 ∷ []) $ join ! $ move ! (1 ∷ 0 ∷ []) $ join ! $ use1 𝓛 (raw (G.pre z)) (id⊢ 𝓤 _) $
    -- The call `self.give_back(.., size)`, and what it gives.
    calls_at ! (framed 𝓤 𝓛.H 𝓜 𝓣) G
    (met' 𝓤 𝓛 𝓜 𝓡 (code.calls-mm_room::reuse::Reusing::give_back 𝓡.env wired) A L g d dd met md) z
    (and_then ! (get ! refl) (and_then ! (get ! refl) (and_then ! (get ! refl) (no_more !)))) (λ v.
    use1 𝓛 (later
    (some (λ (r : Unit {0}). (raw (alive 𝓛 T.signature κs qs) ⊛ ‵ (unit.own_val r (v ∷ []))) ⊛
    some (λ (ws : Lasts (k.ended A g d dd) z.0.0 z.0.3). ‵ (lasts (k.ended A g d dd) z.0.0 z.0.3 ws)
    ⊛ ‵ ftrue)))) (id⊢ 𝓤 _) $
    await ! tt $ pick ! (λ r. split ! $ split ! $ move ! (2 ∷ []) $ drop ! $
    move ! (1 ∷ []) $ feq_l ! (λ is_unit.
    -- The end, and the return.
    lands_as ! (ap only is_unit) refl (tt, tt) $
    sets ! (of_opd ! (unit_lit !)) refl (tt, tt) $
    returns ! (look_at ! 0 refl) $ free_all ! refl $
    suffices ! _ (ends_at 𝓛 T stayed c y vunit tt (tt, (tt, (tt, (tt, tt))))
    (tt, (tt, (tt, (tt, tt))))) $
    nothing ! $ feq_i ! (List Val) (vunit ∷ []) (vunit ∷ []) refl $ nothing ! $ nothing ! $ join ! $
    nothing ! $ join ! $ nothing ! $ join ! $ nothing ! $ join ! $ move ! (3 ∷ 0 ∷ 1 ∷ 2 ∷ []) $
    group ! 3 $ done !))))))
