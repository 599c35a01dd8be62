-- What a theorem cites. (This project's own.)
use Rattle.std.specs.Prelude.{◌↔◌, ℕ, true, false, List, IsTrue}
use Rattle.std.specs.List.{list_any}
use Rattle.mm_spec.specs.Statement.{Statement}
use Rattle.mm_spec.specs.Scope.{statement_at}
use Rattle.mm_spec.specs.Derivation.{Trees, postfix, is_member}
use Rattle.mm_spec.specs.Citation.{is_assertion, IsProof, Cites}

-- what a theorem cites by the essential nodes of its proof, it cites by all nodes too
abbrev pub EssentialIsCited : Type 0
EssentialIsCited = (db : List Statement) (t a : ℕ) → Cites db true t a → Cites db false t a

-- without the flag a theorem cites exactly the assertions in the postfix list of its proof
abbrev pub EachLabelIsCited : Type 0
EachLabelIsCited =
    (db : List Statement) (t a : ℕ)
    → Cites db false t a
    ↔ (IsTrue (list_any is_assertion (statement_at db a)) × (d : Trees) × IsProof db t d
    × IsTrue (is_member (postfix d) a))
