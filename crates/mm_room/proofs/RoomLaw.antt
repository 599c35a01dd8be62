-- A block that is cut from the units of a room, and the two cases of what `take_memory`
-- gives. Assumes `Logic`.
use Rattle.std.proofs.Common.{◌≡◌, ℕ, zero, suc, ◌*◌, ◌^◌, ◌<◌, ◌≤◌, List, [], ◌∷◌, ◌++◌, IfSome}
use Rattle.std.proofs.Common.{None, Some, refl, sym, ap, subst, ◌∙◌, arith}
use seplogic.Ra.Ura.{Ura}
use mir.Syntax.{Ty, Body}
use mir.Val.{Val, vcons, vnil, of_list}
use base.Fml.{froom}
use base.Logic.{ent, sep, id⊢}
use prog.Memory.{size, capped}
use prog.Capped.{capped_is, capped_small}
use prog.Wp.{Env, Calls, Loops, Wp, after_seq, after_block}
use types.Logic.{Logic, sem}
use types.Kit.{Item, Goal, Seq, Post, any_q, post, ‵, ◌$◌, move, drop, rewrite, fsplit, fpick}
use types.Kit.{feq_l, use1}
use types.Match.{live}
use denote.RattleType.{RattleType}
use denote.Laws.{Is}
use denote.RawPtr.{Ptr, block_ptr, in_a_block}
use denote.Steps.{nothing, only, peeks}
use Rattle.core.specs.contracts.option.Option as option
use Rattle.core.proofs.slots.Carves.{carve}
use Rattle.mm_room.specs.Units.{units, units_at, way_back}
use Rattle.mm_room.specs.contracts.memory.Memory as memory
use Rattle.mm_room.proofs.MemoryLaw.{MemoryFields, memory_val, memory_shown, memory_is}

abbrev pub MaybeMemory : RattleType
MaybeMemory = option.the_row memory.the_row

-- what `take_memory` says of the n units that it gives for s bytes
abbrev pub IsMemoryFor : (n s : ℕ) → MaybeMemory.Denot → Type 0
IsMemoryFor n s x = IfSome x (λ m. (m.units ≡ n) × (0 < m.units) × (s ≤ m.units * 16) × (s < 2 ^
    63))

-- the units are room for a type that they hold, with the way back
pub cut_from_units : {M : Type 1} {𝓤 : Ura M} (𝓛 : Logic 𝓤) (τ : Ty) (b o n s : ℕ)
    → capped (size τ) ≡ s
    → 0 < n → s ≤ n * 16 → s < 2 ^ 63
    → ent 𝓤 (sem 𝓛 (units_at (block_ptr b o) n))
    (sep 𝓤 (𝓛.H.room τ b o) (sem 𝓛 (way_back n τ (block_ptr b o))))
cut_from_units 𝓛 τ b o zero s capped_is_s n_is_positive s_le_units s_lt_limit =
    absurd (omega (arith, n_is_positive))
cut_from_units 𝓛 τ b o (suc n) s capped_is_s n_is_positive s_le_units s_lt_limit =
    let size_lt_limit : size τ < 2 ^ 63 =
    capped_small (size τ) (omega (arith, capped_is_s, s_lt_limit)) in
    let size_is_s : size τ ≡ s =
    sym (capped_is (size τ) (omega (arith, size_lt_limit))) ∙ capped_is_s in
    carve 𝓛 (units (suc n)) τ (suc n) b o refl refl (omega (arith, size_is_s, s_le_units))

module _ {M : Type 1} {𝓤 : Ura M} {𝓛 : Logic 𝓤} {K : Type 0} {Γ : List (Item 𝓤)} {G : Goal 𝓤 𝓛.H}
  where
    -- units that are not none lie in a block
    in_block : K → (p : Ptr) (n : ℕ) → 0 < n
        → ((b o : ℕ) → p ≡ block_ptr b o → Seq K 𝓛 (‵ (units_at (block_ptr b o) n) ∷ Γ) G)
        → Seq K 𝓛 (‵ (units_at p n) ∷ Γ) G
    in_block t p zero n_is_positive if_in_block = absurd (omega (arith, n_is_positive))
    in_block t p (suc n) n_is_positive if_in_block =
        in_a_block t p (λ (q : Ptr). units_at q (suc n)) (id⊢ 𝓤 _) if_in_block

    -- what `take_memory` gave is the units in a block, or nothing: a proof by the two cases
    pub by_taken_memory : K → (n s : ℕ) (x : MaybeMemory.Denot) (v : Val) → IsMemoryFor n s x
        → ((b o : ℕ) → 0 < n → s ≤ n * 16 → s < 2 ^ 63
        → v ≡ live 1 (vcons (memory_val (block_ptr b o)) vnil)
        → Seq K 𝓛 (‵ (units_at (block_ptr b o) n) ∷ Γ) G)
        → (v ≡ live 0 vnil → Seq K 𝓛 Γ G)
        → Seq K 𝓛 (‵ (MaybeMemory.own_val x (v ∷ [])) ∷ Γ) G
    by_taken_memory t n s None v is_memory if_memory if_none =
        fpick t (λ us. fsplit t $
        feq_l t (λ value_is. fpick t (λ vss. fsplit t $ feq_l t (λ parts_are. drop t $
        if_none (ap only value_is ∙ ap (λ (ws : List Val). live 0 (of_list ws)) parts_are)))))
    by_taken_memory t n s (Some m) v is_memory if_memory if_none =
        fpick t (λ us. fsplit t $
        feq_l t (λ value_is. fpick t (λ vss. fsplit t $ feq_l t (λ parts_are. fsplit t $
        move t (1 ∷ []) $ drop t $ fsplit t $
        peeks t MemoryFields (Is MemoryFields) (memory_shown 𝓛) (m.address, tt) vss.0 (λ is_fields.
        drop t $
        rewrite t 0 (λ (k : ℕ). ‵ (units_at m.address k)) is_memory.0 refl $
        in_block t m.address n (subst (λ (k : ℕ). 0 < k) is_memory.0 is_memory.1) (λ b o address_is.
        if_memory b o (subst (λ (k : ℕ). 0 < k) is_memory.0 is_memory.1)
        (subst (λ (k : ℕ). s ≤ k * 16) is_memory.0 is_memory.2) is_memory.3
        (ap only value_is ∙ ap (λ (ws : List Val). live 1 (of_list ws)) (parts_are
        ∙ ap (λ (ws : List Val). ws ++ []) (memory_is m.address vss.0 is_fields))
        ∙ ap (λ (p : Ptr). live 1 (vcons (memory_val p) vnil)) address_is)))))))

    -- a block for u units is the units
    pub units_of_block : K → (u b o : ℕ) → Seq K 𝓛 (‵ (units_at (block_ptr b o) u) ∷ Γ) G
        → Seq K 𝓛 (‵ (froom (units u) b o) ∷ Γ) G
    units_of_block t zero b o goes_on = drop t $ nothing t $ goes_on
    units_of_block t (suc n) b o goes_on =
        use1 𝓛 (‵ (units_at (block_ptr b o) (suc n))) (id⊢ 𝓤 _) $ goes_on

-- what comes after a statement b' of a body, where the rest is b
abbrev pub rest_runs : {M : Type 1} {𝓤 : Ura M} (𝓛 : Logic 𝓤) → Calls 𝓤 𝓛.H → Loops 𝓤 𝓛.H
    → Env 𝓤 𝓛.H → Body → Post 𝓤 𝓛.H → Post 𝓤 𝓛.H
rest_runs {𝓤 = 𝓤} 𝓛 C Λ E b q =
    any_q (after_seq 𝓤 𝓛.H (Wp 𝓤 𝓛.H C Λ E b (post 𝓤 𝓛.H q)) (post 𝓤 𝓛.H q))

-- what comes after a block of statements
abbrev pub block_ends : {M : Type 1} {𝓤 : Ura M} (𝓛 : Logic 𝓤) → Post 𝓤 𝓛.H → Post 𝓤 𝓛.H
block_ends {𝓤 = 𝓤} 𝓛 q = any_q (after_block 𝓤 𝓛.H (post 𝓤 𝓛.H q))
