-- `free` gives the allocator its block, with the right to do so. Assumes `Logic`.
use Rattle.std.proofs.Common.{◌≡◌, ℕ, ◌*◌, ◌^◌, ◌<◌, List, [], ◌∷◌, ◌++◌, refl, ap, ◌∙◌, arith}
use Rattle.std.proofs.Common.{lit<, w64}
use Rattle.std.proofs.raw_atomic.Walks.{proved_at, leaves}
use base.Logic.{SProp, id⊢, fst∗, never}
use base.Fml.{ftrue, flft}
use mir.Syntax.{Args, Fn, Ty, a_type, dcons, dnil, place}
use mir.MapTy.{inst_fn}
use mir.Val.{Val, vint, vptr, vunit}
use contract.BorrowLft.{◌⊑◌, ⊑_trans}
use contract.Monad.{fact}
use contract.Running.{tables}
use prog.Capped.{capped_is}
use prog.Wp.{Env, WpFn}
use types.Logic.{sem}
use types.Kit.{‵, raw, ◌⊛◌, given, later, prop, settles, at_ret, ◌$◌, ◌∵◌, !, qed, by, move, drop}
use types.Kit.{use1, use3, split, join, learn, rewrite, regoal, fsplit, fjoin, feq_i, await}
use types.Part.{whole, sub}
use types.Run.{enter, of_opd, lit, unit_lit, bin, stop, fld, no_more, and_then, first, blocks, exec}
use types.Run.{returns}
use types.ByLocal.{alloc_all, pass_all, free_all, look_at, get, get_in, sets, lands_last, env}
use denote.Builtin.{RefOf, usize}
use denote.Param.{param, bounded}
use denote.RattleType.{owns}
use denote.RawPtr.{Ptr, block_ptr, null_ptr, in_a_block}
use denote.Signature.{Slot, plain, types_at}
use denote.Steps.{nothing, heard}
use denote.Triple.Call.{calls_at_last}
use denote.Triple.Entry.{alive}
use denote.Triple.Table.{framed}
use denote.Triple.Walked.{Stays, walk_of, stay_dropped, Goes-dropped}
use Rattle.core.proofs.alloc.Calls.{Al, seen, Goes-blank, Gives, at_gives, Gives-goes, Gives-Gives}
use Rattle.core.proofs.alloc.Shapes.{after}
use Rattle.mm_room.specs.Units.{units, block_at}
use Rattle.mm_room.proofs.RoomLaw.{rest_runs, block_ends}
use Rattle.mm_room.proofs.BlockLaw.{block_val, block_typed, block_is}
use Rattle.mm_room.specs.contracts.block.Block as block
use Rattle.mm_room.specs.contracts.block.Block.free as f
use Rattle.mm_room.proofs.block.Block.free.Statement.{statement}
use Rattle.mm_room.proofs.block.Block.free.Code as code

pub free_spec : {M : Type 1} → statement M
free_spec 𝓤 𝓛 𝓜 𝓡 wired A L g d dd met md =
    let T = f.ended A g d dd in let c = f.clauses A g d dd 𝓛 𝓜.mem 𝓡.returns in
    let args : Args = bounded (a_type ∷ []) (A, tt) (dcons d (dcons dd dnil)) in
    let fn : Fn = inst_fn args code.function in
    let 𝓣 = tables 𝓤 𝓛.H 𝓜 𝓡 𝓡.env in
    let block_slot : Slot 2 = plain (λ _. block.the_row (param 0 A) g) in
    let alloc_slot : Slot 2 = RefOf (0 ∷ []) tt (plain (λ _. param 0 A)) (λ _. tt) in
    let stayed : Stays T.signature.params T.kept = (
      stay_dropped block_slot T.kept.0,
      (stay_dropped alloc_slot T.kept.1.0, (stay_dropped (plain (λ _. usize)) T.kept.1.1.0, tt)),
    ) in
    let W = walk_of 𝓛 T stayed c in
    proved_at 𝓛 T stayed c 𝓜 𝓡 (
      Goes-blank 𝓛 2 block_slot T.kept.0 (λ κs x w. tt),
      (
        Goes-dropped 𝓛 2 alloc_slot T.kept.1.0 (λ κs x w. refl),
        (Goes-dropped 𝓛 2 (plain (λ _. usize)) T.kept.1.1.0 (λ κs x w. refl), tt),
      ),
    )
    (f.Key.name args) fn (code.unfolded 𝓤 𝓛.H 𝓜 𝓡 wired (A, tt) d dd)
    (λ y are.
    let Y : Al = record { row = A; laws = L; g = g; d = d; drops = dd } in
    let κs = y.0.0 in let qs = y.0.1 in let a = y.0.3 in let vss = y.0.4 in
    let x = a.0 in let h = a.1.0.now in let alloc_ptr = a.1.0.ref_ptr in let u = a.1.1.0 in
    let τ : Ty = units u in
    let Post : Val → SProp 𝓤 = W.post y in
    qed 𝓛 ((raw (alive 𝓛 T.signature κs qs) ⊛ ‵ (owns (types_at T.signature.params κs) a vss))
    ∷ (raw (fact 𝓤 (κs.1.0 ⊑ A.lives)) ⊛ raw (fact 𝓤 (x.alloc ≡ h)) ⊛ raw (fact 𝓤 (x.units ≡ u)) ⊛
    raw (fact 𝓤 (u * 16 < 2 ^ 63))) ∷ []) ∵
    move ! (1 ∷ []) $ split ! $
    heard ! _ (λ lives_within. split ! $ heard ! _ (λ alloc_is_h. split ! $ heard ! _ (λ
    units_are_u. heard ! _ (λ units_lt_limit.
    let size : ℕ = u * 16 in
    split ! $ move ! (1 ∷ []) $ fsplit ! $ fsplit ! $ drop ! $
    rewrite ! 0 (λ (n : ℕ). ‵ (block_at (g.dealloc_token x.alloc) n x.address)) units_are_u refl $
    rewrite ! 0 (λ (b : A.Denot). ‵ (block_at (g.dealloc_token b) u x.address)) alloc_is_h refl $
    in_a_block ! x.address (λ p. block_at (g.dealloc_token h) u p)
    (fst∗ 𝓤 (never 𝓤) (sem 𝓛 (g.dealloc_token h τ null_ptr))) (λ b o address_is.
    move ! (1 ∷ []) $ fsplit ! $ fsplit ! $ drop ! $ move ! (1 ∷ []) $ drop ! $
    use1 𝓛 (‵ (seen Y κs.0 alloc_ptr h)) (id⊢ 𝓤 _) $
    move ! (2 ∷ []) $ use1 𝓛 (‵ (flft κs.0 qs.0) ⊛ ‵ (flft κs.1.0 qs.1.0) ⊛ ‵ ftrue) (id⊢ 𝓤 _) $
    split ! $
    move ! (2 ∷ 0 ∷ []) $ join ! $ move ! (2 ∷ []) $ fsplit ! $
    -- [the memory; the right to give it back; the allocator with the token of its loan; the other
    -- tokens]
    -- Here the code begins.
    let z = at_gives Y 𝓛 𝓜.mem 𝓡.returns κs.0 qs.0 alloc_ptr h b o size 16 τ in
    regoal ! (λ (us : List Val). prop (WpFn 𝓤 𝓛.H 𝓣.C 𝓣.Λ fn us Post))
    (λ i. (block_is x.address vss.0 are.0.0 ∙ ap (λ (r : Ptr). block_val r ∷ []) address_is) i
    ++ (are.1.0.0 i ++ (are.1.1.0.0 i ++ []))) refl $
    enter ! 𝓣.C 𝓣.Λ fn (block_val (block_ptr b o) ∷ vptr alloc_ptr.0 alloc_ptr.1 ∷ vint w64 u ∷ [])
    Post $
    alloc_all ! (λ l. pass_all ! refl (
      (block_typed 𝓛 (block_ptr b o)).0,
      ((tt, tt), ((tt, record { fits = are.1.1.0.1 }), tt)),
    ) $
    let En : Env 𝓤 𝓛.H = env fn.locals l in let Ends = at_ret En Post in
    -- `let Block { address, .. } = self`
    sets ! (of_opd ! (get_in ! (fld ! refl (stop !)) (sub ! 0 refl (whole !)))) refl (tt, tt) $
    -- The `unsafe` block: first `units * UNIT`, which is within the limit.
    first ! $ blocks ! $
    sets ! (bin ! (get ! refl) (lit ! tt) (record { fits = omega (arith, units_lt_limit) })) refl
    (tt, record { fits = omega (arith, units_lt_limit) }) $
    -- The call `alloc.deallocate(address, units * UNIT, UNIT)`, and what it gives.
    use3 𝓛 (raw ((Gives Y 𝓛 𝓜.mem 𝓡.returns).pre z))
    (Gives-goes Y 𝓛 𝓜.mem 𝓡.returns κs.0 qs.0 alloc_ptr h (⊑_trans κs.0 κs.1.0 A.lives y.0.2.0
    lives_within) b o size 16
    τ (capped_is size (omega (arith, units_lt_limit))) refl
    (omega (arith, units_lt_limit)) (lit< tt))
    $
    calls_at_last ! (framed 𝓤 𝓛.H 𝓜 𝓣) (Gives Y 𝓛 𝓜.mem 𝓡.returns) (met.deallocate dd) z
    (and_then ! (get ! refl)
    (and_then ! (get ! refl) (and_then ! (get ! refl) (and_then ! (lit ! tt) (no_more !))))) (λ v.
    use1 𝓛 (later (given (v ≡ vunit) (‵ (flft κs.0 qs.0))))
    (Gives-Gives Y 𝓛 𝓜.mem 𝓡.returns κs.0 qs.0 alloc_ptr h b o size 16 τ v) $ await ! tt $
    learn ! (λ result_is_unit. join ! $
    regoal ! (λ (w : Val). settles En (place 5 []) w
    (block_ends 𝓛 (rest_runs 𝓛 𝓣.C 𝓣.Λ En (after 2 fn.body) Ends))) result_is_unit refl $
    -- The end of the block, and the return.
    lands_last ! refl (tt, tt) $
    exec ! 𝓣.C 𝓣.Λ En (after 2 fn.body) Ends $
    sets ! (of_opd ! (unit_lit !)) refl (tt, tt) $
    returns ! (look_at ! 0 refl) $ free_all ! refl $
    feq_i ! (List Val) (vunit ∷ []) (vunit ∷ []) refl $ nothing ! $ nothing ! $ nothing ! $
    fjoin ! $ nothing ! $ fjoin ! $ nothing ! $ fjoin ! $ move ! (3 ∷ 0 ∷ 2 ∷ 1 ∷ []) $
    by ! (leaves 𝓛 T stayed c y vunit tt (tt, (tt, (tt, tt))) (tt, (tt, (tt, tt)))))))))))))
