-- `allocate` asks the allocator for a block of units. Assumes `Logic`.
use Rattle.std.proofs.Common.{ℕ, ◌*◌, ◌^◌, ◌<◌, [], ◌∷◌, refl, arith, lit<, w64, Some, None}
use Rattle.std.proofs.raw_atomic.Walks.{proved}
use base.Logic.{id⊢}
use base.Fml.{ftrue, flft}
use mir.Syntax.{Args, Fn, Ty, a_type, dcons, dnil, named}
use mir.MapTy.{inst_fn}
use mir.Val.{vcons, vnil}
use contract.BorrowLft.{◌⊑◌, ⊑_trans}
use contract.Monad.{fact}
use contract.Running.{tables}
use prog.Capped.{capped_is}
use prog.Wp.{Env}
use types.Kit.{‵, raw, ◌⊛◌, later, at_ret, ◌$◌, ◌∵◌, !, qed, done, move, drop, use0, use1, use2}
use types.Kit.{split, join, fsplit, fjoin, await, suffices}
use types.Part.{whole, agg}
use types.Match.{live, vrt, in_variant}
use types.Run.{enter, of_opd, lit, bin, stop, fld, no_more, and_then, first, switches_on, exec}
use types.Run.{returns}
use types.ByLocal.{alloc_all, pass_all, free_all, look_at, get, get_in, get_tag, sets, sets_last}
use types.ByLocal.{lands_as, env}
use denote.Laws.{Is}
use denote.Param.{param, bounded}
use denote.Plain.{uint_vals, uint_Tells}
use denote.RattleType.{owns}
use denote.RawPtr.{block_ptr}
use denote.Ref.{shr_vals, shr_Tells}
use denote.Signature.{types_at}
use denote.Steps.{nothing, heard, owned}
use denote.Triple.Call.{calls_at}
use denote.Triple.Entry.{alive}
use denote.Triple.Table.{framed}
use denote.Triple.Walked.{walk_of, says, ends_at}
use Rattle.mm_room.proofs.DroppedLaw.{all_dropped, all_go}
use Rattle.core.proofs.alloc.Calls.{Al, seen, Takes, at_takes, Answered, Takes-goes, Takes-gives}
use Rattle.core.proofs.alloc.Calls.{answers}
use Rattle.core.proofs.alloc.Shapes.{after, head, arm_body}
use Rattle.core.specs.contracts.option.Option as option
use Rattle.core.proofs.option.Made.{Some-of, none_of}
use Rattle.mm_room.specs.Units.{units}
use Rattle.mm_room.proofs.RoomLaw.{rest_runs}
use Rattle.mm_room.proofs.BlockLaw.{BlockFields, block_val, block_typed, block_makes, is_block}
use Rattle.mm_room.specs.contracts.block.Block as block
use Rattle.mm_room.specs.contracts.block.Block.allocate as f
use Rattle.mm_room.proofs.block.Block.allocate.Statement.{statement}
use Rattle.mm_room.proofs.block.Block.allocate.Code as code

pub allocate_spec : {M : Type 1} → statement M
allocate_spec 𝓤 𝓛 𝓜 𝓡 wired A L g d dd met md =
    let T = f.ended A g d dd in let c = f.clauses A g d dd 𝓛 𝓜.mem 𝓡.returns in
    let args : Args = bounded (a_type ∷ []) (A, tt) (dcons d (dcons dd dnil)) in
    let fn : Fn = inst_fn args code.function in
    let 𝓣 = tables 𝓤 𝓛.H 𝓜 𝓡 𝓡.env in
    let stayed = all_dropped T.signature.params T.kept in
    let W = walk_of 𝓛 T stayed c in
    proved 𝓛 T stayed c 𝓜 𝓡
    (all_go 𝓛 _ T.signature.params T.kept
    ((λ κs x w. refl), ((λ κs x w. refl), tt)))
    (f.Key.name args) fn (code.unfolded 𝓤 𝓛.H 𝓜 𝓡 wired (A, tt) d dd)
    (λ κs. (shr_vals, (uint_vals w64, tt)))
    (λ κs. (shr_Tells (named 0) κs.0 (param 0 A), (uint_Tells w64, tt)))
    (λ κs qs bounds a _ are.
    let Y : Al = record { row = A; laws = L; g = g; d = d; drops = dd } in
    let h = a.0.now in let alloc_ptr = a.0.ref_ptr in let u = a.1.0 in let τ : Ty = units u in
    let y : W.Ghost = ((κs, qs, bounds, a, (shr_vals a.0, (uint_vals w64 u, tt))), tt) in
    qed 𝓛 ((raw (alive 𝓛 T.signature κs qs) ⊛ ‵ (owns (types_at T.signature.params κs) a y.0.4))
    ∷ (raw (fact 𝓤 (κs.1.0 ⊑ A.lives)) ⊛ raw (fact 𝓤 (u * 16 < 2 ^ 63))) ∷ []) ∵
    move ! (1 ∷ []) $ split ! $ heard ! _ (λ lives_within. heard ! _ (λ units_lt_limit.
    let size : ℕ = u * 16 in let z = at_takes Y 𝓛 𝓜.mem 𝓡.returns κs.0 qs.0 alloc_ptr h size 16 τ in
    split ! $ move ! (1 ∷ []) $ fsplit ! $ fsplit ! $ drop ! $ move ! (1 ∷ []) $ drop ! $
    use1 𝓛 (‵ (seen Y κs.0 alloc_ptr h)) (id⊢ 𝓤 _) $
    move ! (1 ∷ []) $ use1 𝓛 (‵ (flft κs.0 qs.0) ⊛ ‵ (flft κs.1.0 qs.1.0) ⊛ ‵ ftrue) (id⊢ 𝓤 _) $
    split ! $ move ! (2 ∷ 0 ∷ []) $
    -- [the allocator; the token of its loan; the other tokens]
    -- Here the code begins.
    enter ! _ _ _ _ _ $
    alloc_all ! (λ l. pass_all ! refl ((tt, tt), ((tt, record { fits = are.1.0.1 }), tt)) $
    let En : Env 𝓤 𝓛.H = env fn.locals l in let Ends = at_ret En (W.post y) in
    -- `units * UNIT`, which is within the limit
    sets ! (bin ! (get ! refl) (lit ! tt) (record { fits = omega (arith, units_lt_limit) })) refl
    (tt, record { fits = omega (arith, units_lt_limit) }) $
    -- The call `alloc.allocate(units * UNIT, UNIT)`, and what it gives.
    use2 𝓛 (raw ((Takes Y 𝓛 𝓜.mem 𝓡.returns).pre z))
    (Takes-goes Y 𝓛 𝓜.mem 𝓡.returns κs.0 qs.0 alloc_ptr h (⊑_trans κs.0 κs.1.0 A.lives bounds.0
    lives_within) size 16 τ
    (capped_is size (omega (arith, units_lt_limit))) refl
    (omega (arith, units_lt_limit)) (lit< tt)) $
    calls_at ! (framed 𝓤 𝓛.H 𝓜 𝓣) (Takes Y 𝓛 𝓜.mem 𝓡.returns) (met.allocate dd) z
    (and_then ! (get ! refl) (and_then ! (get ! refl) (and_then ! (lit ! tt) (no_more !)))) (λ v.
    use1 𝓛 (later (raw (Answered Y 𝓛 𝓜.mem 𝓡.returns h τ v) ⊛ ‵ (flft κs.0 qs.0)))
    (Takes-gives Y 𝓛 𝓜.mem 𝓡.returns κs.0 qs.0 alloc_ptr h size 16 τ v) $ await ! tt $ split ! $
    answers Y ! 𝓜.mem 𝓡.returns h τ v
    (λ b o answer_is. let p = block_ptr b o in
    let x : (block.the_row A g).Denot = record
    { address = p; given_by = record {}; alloc = h; units = u } in
    fjoin ! $ move ! (1 ∷ 2 ∷ []) $ join ! $ move ! (1 ∷ []) $
    -- [the block with the way back; the tokens]
    -- The arm for an address: `Ok(address) => Some(Block { address, .. })`.
    lands_as ! answer_is refl (tt, (record { fits = lit< tt }, (tt, tt))) $
    first ! $ switches_on ! (get_tag ! (vrt ! refl (fld ! refl (stop !))) (whole !)) $
    exec ! 𝓣.C 𝓣.Λ En (arm_body 0 (head (after 2 fn.body)))
    (rest_runs 𝓛 𝓣.C 𝓣.Λ En (after 3 fn.body) Ends) $
    sets ! (of_opd ! (get_in ! (vrt ! refl (fld ! refl (stop !)))
    (in_variant ! 0 0 refl refl (whole !)))) refl (tt, tt) $
    sets ! (agg ! (no_more !)) refl (tt, tt) $
    sets ! (agg ! (and_then ! (get ! refl) (and_then ! (get ! refl) (no_more !)))) refl
    (block_typed 𝓛 p).0 $
    sets_last ! (agg ! (and_then ! (lit ! tt) (and_then ! (get ! refl) (no_more !)))) refl
    (tt, (record { fits = lit< tt }, ((tt, (tt, tt)), tt))) $
    exec ! 𝓣.C 𝓣.Λ En (after 3 fn.body) Ends $
    sets ! (of_opd ! (get ! refl)) refl (tt, (record { fits = lit< tt }, ((tt, (tt, tt)), tt))) $
    returns ! (look_at ! 0 refl) $ free_all ! refl $
    suffices ! _ (ends_at 𝓛 T stayed c y (live 1 (vcons (block_val p) vnil)) (Some x) (tt, (tt, tt))
    (tt, (tt, tt))) $ says ! (refl, refl) $
    owned ! BlockFields (Is BlockFields) (block_makes 𝓛) (p, (tt, tt)) (block_val p ∷ [])
    (is_block p) $ fjoin ! $
    use1 𝓛 (‵ ((option.the_row (block.the_row A g)).own_val (Some x)
    (live 1 (vcons (block_val p) vnil) ∷ []))) (Some-of 𝓛 (block.the_row A g) x (block_val p)) $
    nothing ! $ nothing ! $ join ! $ nothing ! $ join ! $ move ! (2 ∷ 0 ∷ 1 ∷ []) $ done !)
    -- The arm for no memory: `Err(_) => None`.
    (λ answer_is. join ! $
    lands_as ! answer_is refl (tt, (record { fits = lit< tt }, (tt, tt))) $
    first ! $ switches_on ! (get_tag ! (vrt ! refl (fld ! refl (stop !))) (whole !)) $
    exec ! 𝓣.C 𝓣.Λ En (arm_body 1 (head (after 2 fn.body)))
    (rest_runs 𝓛 𝓣.C 𝓣.Λ En (after 3 fn.body) Ends) $
    sets_last ! (agg ! (and_then ! (lit ! tt) (no_more !))) refl
    (tt, (record { fits = lit< tt }, tt)) $
    exec ! 𝓣.C 𝓣.Λ En (after 3 fn.body) Ends $
    sets ! (of_opd ! (get ! refl)) refl (tt, (record { fits = lit< tt }, tt)) $
    returns ! (look_at ! 0 refl) $ free_all ! refl $
    suffices ! _ (ends_at 𝓛 T stayed c y (live 0 vnil) None (tt, (tt, tt)) (tt, (tt, tt))) $
    says ! tt $
    use0 𝓛 (‵ ((option.the_row (block.the_row A g)).own_val None (live 0 vnil ∷ [])))
    (none_of 𝓛 (block.the_row A g)) $
    nothing ! $ nothing ! $ join ! $ nothing ! $ join ! $ move ! (2 ∷ 0 ∷ 1 ∷ []) $ done !))))))
