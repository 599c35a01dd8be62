-- A normal proof: the labels of active hypotheses and earlier assertions, in postfix order
-- (Metamath book, "Proof Verification").
use Rattle.std.specs.Prelude.{ℕ, ◌&&◌, Bool, true, false, List, [], ◌∷◌, map, Some, None, bytes_eq}
use Rattle.std.specs.Prelude.{flat_map, codes}
use Rattle.std.specs.List.{list_any, range_with_len, filter}
use Rattle.mm_spec.specs.Text.{Bytes, Token, Fault, fault}
use Rattle.mm_spec.specs.Statement.{Statement, label_of}
use Rattle.mm_spec.specs.Scope.{active_at, statement_at}
use Rattle.mm_spec.specs.Steps.{PlacedStep, placed, label}
use Rattle.mm_spec.specs.declared.Code.TheVariants.{EmptyProof, IncompleteProof, UnusableLabel}

-- whether the statement has this label
abbrev pub is_labelled : Bytes → Statement → Bool
is_labelled w s = elim (label_of s) [ None ↦ false | Some l ↦ bytes_eq l.word w ]

-- the statement with this label, if it is usable: an active hypothesis or an earlier assertion
abbrev pub usable : List Statement → ℕ → Bytes → List ℕ
usable db k w =
    filter (λ j. active_at db j k && list_any (is_labelled w) (statement_at db j))
    (range_with_len 0 k)

-- the steps of a normal proof
abbrev pub normal_steps : List Statement → ℕ → List Token → List PlacedStep
normal_steps db k ts = flat_map (λ t. map (λ j. placed t.at (label j)) (usable db k t.word)) ts

-- the fault of a word that isn't a usable label (E33)
abbrev pub proof_label_faults : List Statement → ℕ → Token → List Fault
proof_label_faults db k t =
    elim (usable db k t.word) [ [] ↦ fault t.at UnusableLabel ∷ [] | j ∷ js ↦ [] ]

-- the faults of a normal proof: no words (E31), a `?` (E32), and words that aren't usable labels
-- (E33)
abbrev pub normal_faults : List Statement → ℕ → ℕ → List Token → List Fault
normal_faults db k end [] = fault end EmptyProof ∷ []
normal_faults db k end (t ∷ ts) =
    flat_map (λ u. elim (bytes_eq u.word (codes "?"))
    [ true ↦ fault u.at IncompleteProof ∷ [] | false ↦ proof_label_faults db k u ]) (t ∷ ts)
