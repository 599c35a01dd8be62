-- `allocate` gives a block of a free list, or of the other allocator, as the block that is asked
-- for. Assumes `Logic`.
use Rattle.std.proofs.Common.{◌≡◌, true, false, [], ◌∷◌, refl, lit<, w64, Ok, Err}
use Rattle.std.proofs.raw_atomic.Walks.{proved}
use base.Logic.{id⊢}
use base.Fml.{froom}
use mir.Syntax.{Args, Fn, a_type, dcons, dnil, named}
use mir.MapTy.{inst_fn}
use contract.BorrowLft.{◌⊑◌}
use contract.Monad.{fact}
use contract.Running.{tables}
use prog.Memory.{size, align, capped}
use prog.Wp.{Env}
use types.Kit.{‵, raw, ◌⊛◌, some, later, at_ret, ◌$◌, ◌∵◌, !, qed, done, move, drop, use0, use1}
use types.Kit.{split, join, fsplit, fjoin, pick, await, suffices, group}
use types.Part.{whole, sub, agg}
use types.Match.{vrt, in_variant}
use types.Run.{enter, of_opd, lit, stop, fld, no_more, and_then, first, switches_on, exec, returns}
use types.ByLocal.{alloc_all, pass_all, free_all, look_at, get, get_in, get_tag, sets, sets_last}
use types.ByLocal.{lands_as, env}
use denote.Param.{param, bounded}
use denote.Plain.{uint_vals, uint_Tells}
use denote.RawPtr.{block_ptr}
use denote.Ref.{shr_vals, shr_Tells}
use denote.RattleType.{RattleType, owns}
use denote.Signature.{types_at}
use denote.Steps.{nothing, heard}
use denote.Triple.Call.{calls_at}
use denote.Triple.Clauses.{Lasts, lasts}
use denote.Triple.Entry.{alive}
use denote.Triple.Spec.{triple_of}
use denote.Triple.Table.{framed}
use denote.Triple.Walked.{walk_of, ends_at}
use Rattle.mm_room.proofs.DroppedLaw.{all_dropped, all_go}
use Rattle.core.proofs.alloc.Calls.{Answer, answer_val, Answer-Ok, Answer-err}
use Rattle.core.proofs.alloc.Shapes.{after, head, arm_body}
use Rattle.mm_room.specs.Units.{block_back}
use Rattle.mm_room.specs.contracts.reuse.Reusing as lists
use Rattle.mm_room.proofs.RoomLaw.{rest_runs}
use Rattle.mm_room.proofs.ReuseLaw.{MaybeBlock, IsBlockFor, by_taken_block, reuse}
use Rattle.mm_room.specs.contracts.reuse.ReusingAllocator.allocate as f
use Rattle.mm_room.proofs.reuse.ReusingAllocator.allocate.Statement.{statement}
use Rattle.mm_room.proofs.reuse.ReusingAllocator.allocate.Code as code
use Rattle.mm_room.specs.contracts.reuse.Reusing.take_block as k
use Rattle.mm_room.proofs.reuse.Reusing.take_block.Met.{met as met'}

pub allocate_spec : {M : Type 1} → statement M
allocate_spec 𝓤 𝓛 𝓜 𝓡 wired A L g d dd met md =
    let T = f.ended A g d dd in let c = f.clauses A g d dd 𝓛 𝓜.mem 𝓡.returns in
    let args : Args = bounded (a_type ∷ []) (A, tt) (dcons d (dcons dd dnil)) in
    let fn : Fn = inst_fn args code.function in
    let 𝓣 = tables 𝓤 𝓛.H 𝓜 𝓡 𝓡.env in
    let row : RattleType = lists.the_row (param 0 A) g in
    let stayed = all_dropped T.signature.params T.kept in
    let W = walk_of 𝓛 T stayed c in
    proved 𝓛 T stayed c 𝓜 𝓡
    (all_go 𝓛 _ T.signature.params T.kept
    ((λ κs x w. refl), ((λ κs x w. refl), ((λ κs x w. refl), tt))))
    (f.Key.name args) fn (code.unfolded 𝓤 𝓛.H 𝓜 𝓡 wired (A, tt) d dd)
    (λ κs. (shr_vals, (uint_vals w64, (uint_vals w64, tt))))
    (λ κs. (shr_Tells (named 0) κs.0 row, (uint_Tells w64, (uint_Tells w64, tt))))
    (λ κs qs bounds a τ are.
    let h = a.0.now.alloc in let s = a.1.0 in
    let y : W.Ghost =
    ((κs, qs, bounds, a, (shr_vals a.0, (uint_vals w64 s, (uint_vals w64 a.1.1.0, tt)))), τ) in
    let G = triple_of 𝓛 (k.signature A g d dd) (k.spec A g d dd 𝓛 𝓜.mem 𝓡.returns) in
    let z : G.Ghost = (
      (κs, qs, bounds, (a.0, (s, tt)), (shr_vals a.0, (uint_vals w64 s, tt))),
      tt,
    ) in
    qed 𝓛 ((raw (alive 𝓛 T.signature κs qs) ⊛ ‵ (owns (types_at T.signature.params κs) a y.0.4))
    ∷ (raw (fact 𝓤 (κs.1.0 ⊑ A.lives)) ⊛ raw
    (fact 𝓤 ((capped (size τ) ≡ s) × (capped (align τ) ≡ a.1.1.0)))) ∷ []) ∵
    move ! (1 ∷ []) $ split ! $ move ! (1 ∷ []) $ heard ! _ (λ layout_is.
    move ! (1 ∷ []) $ split ! $ move ! (1 ∷ []) $ fsplit ! $ move ! (1 ∷ []) $ fsplit ! $
    move ! (1 ∷ []) $ drop ! $
    nothing ! $ move ! (1 ∷ 0 ∷ []) $ fjoin ! $ move ! (1 ∷ 0 ∷ []) $ fjoin ! $
    move ! (1 ∷ 0 ∷ []) $ join ! $
    -- [the tokens, with the lists and the size; the bound of the allocator's lifetime]
    move ! (1 ∷ []) $ nothing ! $ move ! (1 ∷ 0 ∷ []) $ join ! $ move ! (1 ∷ 0 ∷ []) $ join ! $
    use1 𝓛 (raw (G.pre z)) (id⊢ 𝓤 _) $
    -- Here the code begins: `match self.take_block(size)`.
    enter ! _ _ _ _ _ $
    alloc_all ! (λ l. pass_all ! refl
    ((tt, tt), ((tt, record { fits = are.1.0.1 }), ((tt, record { fits = are.1.1.0.1 }), tt))) $
    let En : Env 𝓤 𝓛.H = env fn.locals l in let Ends = at_ret En (W.post y) in
    calls_at ! (framed 𝓤 𝓛.H 𝓜 𝓣) G
    (met' 𝓤 𝓛 𝓜 𝓡 (code.calls-mm_room::reuse::Reusing::take_block 𝓡.env wired) A L g d dd met md) z
    (and_then ! (get ! refl) (and_then ! (get ! refl) (no_more !))) (λ v.
    use1 𝓛 (later
    (some (λ (x : (MaybeBlock A g).Denot). (raw (alive 𝓛 T.signature κs qs) ⊛ ‵
    ((MaybeBlock A g).own_val x (v ∷ []))) ⊛
    some (λ (ws : Lasts (k.ended A g d dd) z.0.0 z.0.3). ‵ (lasts (k.ended A g d dd) z.0.0 z.0.3 ws)
    ⊛ raw (fact 𝓤 (IsBlockFor A g h s x)))))) (id⊢ 𝓤 _) $
    await ! tt $ pick ! (λ x. split ! $ move ! (1 ∷ []) $
    pick ! (λ ws. split ! $ drop ! $ heard ! _ (λ is_block. split ! $ move ! (1 ∷ []) $
    -- [what `take_block` gave; the tokens]
    by_taken_block A g ! h s x v is_block
    (λ b o s_le_block s_lt_limit value_is.
    use1 𝓛 (‵ (froom τ b o) ⊛ ‵ (block_back (g.dealloc_token h) τ (block_ptr b o)))
    (reuse 𝓛 (g.dealloc_token h) τ b o s layout_is.0 s_le_block s_lt_limit) $
    -- The arm for a block: `Some(Block { address, .. }) => Ok(address)`.
    lands_as ! value_is refl (tt, (record { fits = lit< tt }, ((tt, (tt, tt)), tt))) $
    first ! $ switches_on ! (get_tag ! (vrt ! refl (fld ! refl (stop !))) (whole !)) $
    exec ! 𝓣.C 𝓣.Λ En (arm_body 0 (head (after 1 fn.body)))
    (rest_runs 𝓛 𝓣.C 𝓣.Λ En (after 2 fn.body) Ends) $
    sets ! (of_opd ! (get_in ! (vrt ! refl (fld ! refl (fld ! refl (stop !))))
    (sub ! 0 refl (in_variant ! 1 0 refl refl (whole !))))) refl (tt, tt) $
    sets_last ! (agg ! (and_then ! (lit ! tt) (and_then ! (get ! refl) (no_more !)))) refl
    (tt, (record { fits = lit< tt }, (tt, tt))) $
    exec ! 𝓣.C 𝓣.Λ En (after 2 fn.body) Ends $
    sets ! (of_opd ! (get ! refl)) refl (tt, (record { fits = lit< tt }, (tt, tt))) $
    returns ! (look_at ! 0 refl) $ free_all ! refl $
    suffices ! _ (ends_at 𝓛 T stayed c y (answer_val true b o) (Ok (block_ptr b o))
    (tt, (tt, (tt, tt))) (tt, (tt, (tt, tt)))) $
    -- [the block with the way back; the tokens]
    use0 𝓛 (‵ (Answer.own_val (Ok (block_ptr b o)) (answer_val true b o ∷ []))) (Answer-Ok 𝓛 b o) $
    nothing ! $ nothing ! $ join ! $ nothing ! $ join ! $ nothing ! $ join ! $
    move ! (3 ∷ 0 ∷ 1 ∷ 2 ∷ []) $ group ! 3 $ done !)
    (λ value_is.
    -- The arm for no block: `None => Err(AllocError)`.
    lands_as ! value_is refl (tt, (record { fits = lit< tt }, tt)) $
    first ! $ switches_on ! (get_tag ! (vrt ! refl (fld ! refl (stop !))) (whole !)) $
    exec ! 𝓣.C 𝓣.Λ En (arm_body 1 (head (after 1 fn.body)))
    (rest_runs 𝓛 𝓣.C 𝓣.Λ En (after 2 fn.body) Ends) $
    sets ! (agg ! (no_more !)) refl (tt, tt) $
    sets_last ! (agg ! (and_then ! (lit ! tt) (and_then ! (get ! refl) (no_more !)))) refl
    (tt, (record { fits = lit< tt }, (tt, tt))) $
    exec ! 𝓣.C 𝓣.Λ En (after 2 fn.body) Ends $
    sets ! (of_opd ! (get ! refl)) refl (tt, (record { fits = lit< tt }, (tt, tt))) $
    returns ! (look_at ! 0 refl) $ free_all ! refl $
    suffices ! _ (ends_at 𝓛 T stayed c y (answer_val false 0 0) (Err (record {}))
    (tt, (tt, (tt, tt))) (tt, (tt, (tt, tt)))) $
    nothing ! $
    use0 𝓛 (‵ (Answer.own_val (Err (record {})) (answer_val false 0 0 ∷ []))) (Answer-err 𝓛) $
    nothing ! $ nothing ! $ join ! $ nothing ! $ join ! $ nothing ! $ join ! $
    move ! (3 ∷ 0 ∷ 1 ∷ 2 ∷ []) $ group ! 3 $ done !))))))))
