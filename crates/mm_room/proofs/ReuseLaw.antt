-- A block of a free list as the block that is asked for, and the two cases of what `take_block`
-- gives. Assumes `Logic`.
use Rattle.std.proofs.Common.{◌≡◌, ℕ, ◌*◌, ◌^◌, ◌<◌, ◌≤◌, List, [], ◌∷◌, ◌++◌, IfSome, None, Some}
use Rattle.std.proofs.Common.{refl, sym, ap, subst, ◌∙◌, arith}
use seplogic.Ra.Ura.{Ura}
use mir.Syntax.{Ty}
use mir.Val.{Val, vcons, vnil, of_list}
use base.Logic.{ent, sep, wand, fst∗, never, apply∗}
use base.Fml.{froom}
use prog.Memory.{size, capped}
use prog.Capped.{capped_is, capped_small}
use types.Logic.{Logic, sem}
use types.Kit.{Item, Goal, Seq, ‵, raw, ◌⊛◌, ◌$◌, ◌∵◌, !, qed, done, move, drop, use1, use2, split}
use types.Kit.{frame, assume, rewrite, fsplit, fjoin, fpick, feq_l}
use types.Match.{live}
use denote.RattleType.{RattleType}
use denote.Laws.{Is, shows}
use denote.Param.{param}
use denote.RawPtr.{Ptr, block_ptr, null_ptr, in_a_block}
use denote.Steps.{only, peeks}
use Rattle.core.specs.contracts.option.Option as option
use Rattle.core.specs.declared.alloc.Allocator.{Ghosts}
use Rattle.core.proofs.slots.Carves.{carve}
use Rattle.mm_room.specs.Units.{units, block_at, block_units, block_back}
use Rattle.mm_room.specs.contracts.block.Block as block
use Rattle.mm_room.proofs.BlockLaw.{BlockFields, block_val, block_is}

module _ (A : RattleType) (g : Ghosts A.Denot) where
  abbrev pub MaybeBlock : RattleType
  MaybeBlock = option.the_row (block.the_row (param 0 A) g)

  -- what `take_block` says of the block that it gives for s bytes
  abbrev pub IsBlockFor : A.Denot → ℕ → MaybeBlock.Denot → Type 0
  IsBlockFor h s x =
      IfSome x (λ b. (b.alloc ≡ h) × (b.units ≡ block_units s) × (s ≤ b.units * 16) × (s < 2 ^ 63))

-- a block is room for a type that it holds, with the way back
pub reuse : {M : Type 1} {𝓤 : Ura M} (𝓛 : Logic 𝓤) (holds : Ty → Ptr → base.Fml.Fml)
    (τ : Ty) (b o s : ℕ)
    → capped (size τ) ≡ s → s ≤ block_units s * 16 → s < 2 ^ 63
    → ent 𝓤 (sem 𝓛 (block_at holds (block_units s) (block_ptr b o)))
    (sep 𝓤 (𝓛.H.room τ b o) (sem 𝓛 (block_back holds τ (block_ptr b o))))
reuse {𝓤 = 𝓤} 𝓛 holds τ b o s capped_is_s s_le_block s_lt_limit =
    let n = block_units s in let p = block_ptr b o in
    let size_lt_limit : size τ < 2 ^ 63 =
    capped_small (size τ) (omega (arith, capped_is_s, s_lt_limit)) in
    let size_is_s : size τ ≡ s =
    sym (capped_is (size τ) (omega (arith, size_lt_limit))) ∙ capped_is_s in
    qed 𝓛 (‵ (block_at holds n p) ∷ []) ∵ fsplit ! $
    use1 𝓛 (‵ (froom τ b o) ⊛ raw (wand 𝓤 (𝓛.H.room τ b o) (𝓛.H.room (units n) b o)))
    (carve 𝓛 (units n) τ n b o refl refl (omega (arith, size_is_s, s_le_block))) $ split ! $ frame !
    $
    -- [the way back to the units; the right to give them back]
    assume ! (‵ (froom τ b o)) $ move ! (0 ∷ 1 ∷ []) $
    use2 𝓛 (‵ (froom (units n) b o)) (apply∗ 𝓤 (𝓛.H.room τ b o) (𝓛.H.room (units n) b o)) $
    fjoin ! $
    rewrite ! 0 (λ (k : ℕ). ‵ (block_at holds (block_units k) p)) (sym capped_is_s) refl $ done !

module _ (A : RattleType) (g : Ghosts A.Denot) {M : Type 1} {𝓤 : Ura M} {𝓛 : Logic 𝓤} {K : Type 0}
    {Γ : List (Item 𝓤)} {G : Goal 𝓤 𝓛.H} where
  -- what `take_block` gave is a block, or nothing: a proof by the two cases
  pub by_taken_block : K → (h : A.Denot) (s : ℕ) (x : (MaybeBlock A g).Denot) (v : Val)
      → IsBlockFor A g h s x
      → ((b o : ℕ) → s ≤ block_units s * 16 → s < 2 ^ 63
      → v ≡ live 1 (vcons (block_val (block_ptr b o)) vnil)
      → Seq K 𝓛 (‵ (block_at (g.dealloc_token h) (block_units s) (block_ptr b o)) ∷ Γ) G)
      → (v ≡ live 0 vnil → Seq K 𝓛 Γ G)
      → Seq K 𝓛 (‵ ((MaybeBlock A g).own_val x (v ∷ [])) ∷ Γ) G
  by_taken_block t h s None v is_block if_block if_none =
      fpick t (λ us. fsplit t $ feq_l t (λ value_is. fpick t (λ vss. fsplit t $ feq_l t (λ
      parts_are. drop t $
      if_none (ap only value_is ∙ ap (λ (ws : List Val). live 0 (of_list ws)) parts_are)))))
  by_taken_block t h s (Some x) v is_block if_block if_none =
      fpick t (λ us. fsplit t $
      feq_l t (λ value_is. fpick t (λ vss. fsplit t $ feq_l t (λ parts_are. fsplit t $
      move t (1 ∷ []) $ drop t $ fsplit t $
      peeks t BlockFields (Is BlockFields) (shows 𝓛 BlockFields) (x.address, (tt, tt)) vss.0 (λ
      is_fields. drop t $
      rewrite t 0 (λ (k : ℕ). ‵ (block_at (g.dealloc_token x.alloc) k x.address)) is_block.1 refl $
      rewrite t 0 (λ (a : A.Denot). ‵ (block_at (g.dealloc_token a) (block_units s) x.address))
      is_block.0
      refl $
      in_a_block t x.address (λ (p : Ptr). block_at (g.dealloc_token h) (block_units s) p)
      (fst∗ 𝓤 (never 𝓤) (sem 𝓛 (g.dealloc_token h (units (block_units s)) null_ptr)))
      (λ b o address_is.
      if_block b o (subst (λ (k : ℕ). s ≤ k * 16) is_block.1 is_block.2) is_block.3
      (ap only value_is ∙ ap (λ (ws : List Val). live 1 (of_list ws)) (parts_are
      ∙ ap (λ (ws : List Val). ws ++ []) (block_is x.address vss.0 is_fields))
      ∙ ap (λ (p : Ptr). live 1 (vcons (block_val p) vnil)) address_is)))))))
