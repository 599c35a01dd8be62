-- Parameters of which nothing is had at exit: what stays of them, and that it goes. Assumes
-- `Logic`.
use Rattle.std.proofs.Common.{ℕ, List, [], ◌∷◌}
use seplogic.Ra.Ura.{Ura}
use types.Logic.{Logic}
use denote.Triple.End.{Kepts}
use denote.Signature.{Slot}
use denote.Triple.Walked.{Stays, stay_dropped, Silent, Goes-dropped, AllGo}

abbrev pub all_dropped : {n : ℕ} (ss : List (Slot n)) (ks : Kepts ss) → Stays ss ks
all_dropped [] ks = tt
all_dropped (s ∷ ss) ks = (stay_dropped s ks.0, all_dropped ss ks.1)

module _ {M : Type 1} {𝓤 : Ura M} (𝓛 : Logic 𝓤) (n : ℕ) where
  abbrev pub AllSilent : (ss : List (Slot n)) → Kepts ss → Type 1
  AllSilent [] ks = Unit {1}
  AllSilent (s ∷ ss) ks = Silent 𝓛 n s ks.0 × AllSilent ss ks.1

  pub all_go : (ss : List (Slot n)) (ks : Kepts ss) → AllSilent ss ks
      → AllGo 𝓛 n ss ks (all_dropped ss ks)
  all_go [] ks silent = tt
  all_go (s ∷ ss) ks silent = (Goes-dropped 𝓛 n s ks.0 silent.0, all_go ss ks.1 silent.1)
