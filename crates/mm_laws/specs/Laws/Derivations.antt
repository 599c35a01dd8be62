-- Labels determine a derivation. (This project's own.)
use Rattle.std.specs.Prelude.{◌≡◌, ℕ, List}
use Rattle.mm_spec.specs.Statement.{Statement}
use Rattle.mm_spec.specs.Derivation.{Trees, AreDerivations, postfix}
use Rattle.mm_spec.specs.Citation.{context_at, IsProof}

-- forests of derivations with the same labels in postfix order are equal
abbrev pub LabelsDetermine : List Statement → ℕ → Type 0
LabelsDetermine db k =
    (r s : Trees) → AreDerivations (context_at db k) r → AreDerivations (context_at db k) s
    → postfix r ≡ postfix s → r ≡ s

-- a theorem has at most one proof
abbrev pub ProofIsUnique : List Statement → ℕ → Type 0
ProofIsUnique db k = (d e : Trees) → IsProof db k d → IsProof db k e → d ≡ e
