-- `count_growth` at a call: what it is handed, and what a caller has of it. Assumes `Logic`.
use Rattle.std.proofs.Common.{◌≡◌, ℕ, List, [], ◌∷◌, Bool, refl, ap}
use seplogic.Ra.Ura.{Ura}
use mir.Val.{Val, vbool, vptr}
use base.Logic.{SProp, ent, sep, ex, guard, id⊢}
use base.Fml.{Lft, Share, ftrue, fsep, flft}
use prog.Memory.{Memory}
use prog.Routine.{Routine}
use types.Logic.{Logic, sem}
use contract.Monad.{Fun}
use types.Kit.{‵, ◌⊛◌, some, later, ◌$◌, ◌∵◌, !, qed, move, keep, use1, split, join, pick, fjoin}
use types.Kit.{feq_i, feq_l, check, show, await, updating, now as at_once, done}
use denote.RattleType.{RattleType}
use denote.Memory.{hidden_shr}
use denote.Builtin.{bool}
use denote.Steps.{nothing, only}
use denote.Triple.Statement.{Contract}
use denote.Triple.Spec.{triple_of}
use Rattle.std.specs.contracts.sync.atomic.AtomicU64 as CE
use Rattle.hostile.specs.contracts.heap.count_growth as TK

abbrev Calls : RattleType
Calls = CE.the_row

module _ {M : Type 1} {𝓤 : Ura M} (𝓛 : Logic 𝓤) (at_mem : Memory → SProp 𝓤)
    (run : Routine → Fun 𝓤) where
  abbrev pub CountGrowth : Contract 𝓤
  CountGrowth = triple_of 𝓛 TK.signature (TK.spec 𝓛 at_mem run)

  abbrev pub at_count_growth : Lft → Share → ℕ × ℕ → CountGrowth.Ghost
  at_count_growth κ q c =
      (((κ, tt), (q, tt), tt, (record { ref_ptr = c; now = tt }, tt), (vptr c.0 c.1 ∷ [], tt)), tt)

module _ {M : Type 1} {𝓤 : Ura M} (𝓛 : Logic 𝓤) (at_mem : Memory → SProp 𝓤) (run : Routine → Fun 𝓤)
    (κ : Lft) (q : Share) (c : ℕ × ℕ) where
  open 𝓛 use {H, A}

  pub CountGrowth_goes : ent 𝓤 (sep 𝓤 (sem 𝓛 (hidden_shr Calls κ tt c.0 c.1)) (A.lft κ q))
      ((CountGrowth 𝓛 at_mem run).pre (at_count_growth 𝓛 at_mem run κ q c))
  CountGrowth_goes =
      qed 𝓛 (‵ (hidden_shr Calls κ tt c.0 c.1) ∷ ‵ (flft κ q) ∷ []) ∵ feq_i ! (List Val)
      (vptr c.0 c.1 ∷ []) (vptr c.0 c.1 ∷ []) refl $ fjoin ! $
      nothing ! $ move ! (1 ∷ []) $ fjoin ! $ nothing ! $ move !
      (2 ∷ []) $ join ! $ join ! $ nothing ! $ move ! (1 ∷ []) $ done !

  -- its answer, with the token of its loan
  abbrev pub HasAnswer : Val → Bool → SProp 𝓤
  HasAnswer v b = guard 𝓤 (v ≡ vbool b) (A.lft κ q)

  pub CountGrowth_gives : (v : Val)
      → ent 𝓤 ((CountGrowth 𝓛 at_mem run).post (at_count_growth 𝓛 at_mem run κ q c) v)
      (H.⇛ (ex 𝓤 (HasAnswer v)))
  CountGrowth_gives v =
      qed 𝓛 (types.Kit.raw ((CountGrowth 𝓛 at_mem run).post (at_count_growth 𝓛 at_mem run κ q c) v)
      ∷ []) ∵
      updating ! $
      use1 𝓛 (later
      (some (λ (r : Bool). ((‵ (flft κ q) ⊛ ‵ ftrue) ⊛ ‵ (bool.own_val r (v ∷ []))) ⊛ some
      (λ (ws : Unit {0} × Unit {0}). ‵ (fsep ftrue ftrue) ⊛ ‵ ftrue))))
      (id⊢ 𝓤 _) $ await ! tt $ pick ! (λ r.
      split ! $ split ! $ move ! (1 ∷ []) $ feq_l !
      (λ value_is. split ! $ at_once ! $ show ! (HasAnswer v) r $ check ! (ap only value_is) $ keep
      !
      (0 ∷ []) $ done !))
