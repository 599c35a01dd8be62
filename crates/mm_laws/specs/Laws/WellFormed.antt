-- Reading finds no fault in the proofs that are well formed. (This project's own.)
use Rattle.std.specs.Prelude.{◌≡◌, ◌≢◌, ◌↔◌, ℕ, List, [], ◌∷◌, codes}
use Rattle.std.specs.List.{AllByRecursion}
use Rattle.mm_spec.specs.Text.{Token}
use Rattle.mm_spec.specs.Statement.{Statement}
use Rattle.mm_spec.specs.Proof.{reading_faults}
use Rattle.mm_laws.specs.Spelling.{IsUsable, IsWellSpelled}

-- reading finds no fault in exactly the compressed proofs that are well formed
abbrev pub CompressedIsExact : List Statement → ℕ → Type 0
CompressedIsExact db k =
    (end : ℕ) (t : Token) (ts : List Token) → t.word ≡ codes "("
    → (reading_faults db k end (t ∷ ts) ≡ []) ↔ IsWellSpelled db k (t ∷ ts)

-- reading finds no fault in exactly the normal proofs of usable labels, none of them `?`
abbrev pub NormalIsExact : List Statement → ℕ → Type 0
NormalIsExact db k = (end : ℕ) (t : Token) (ts : List Token) → t.word ≢ codes "("
    → (reading_faults db k end (t ∷ ts) ≡ [])
    ↔ AllByRecursion (λ u. (u.word ≢ codes "?") × ((j : ℕ) × IsUsable db k u.word j)) (t ∷ ts)
