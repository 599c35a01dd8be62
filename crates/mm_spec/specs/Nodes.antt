-- The nodes of a proof, and the essential ones among them (this project's own, with the terms of
-- metamath.exe).
use Rattle.std.specs.Prelude.{◌≡◌, ℕ, suc, Bool, true, false, ◌||◌, ◌⊎◌, not, List, Some, None}
use Rattle.std.specs.Prelude.{slice_get, IsTrue}
use Rattle.std.specs.List.{list_any}
use Rattle.mm_spec.specs.Statement.{Statement}
use Rattle.mm_spec.specs.Scope.{statement_at}
use Rattle.mm_spec.specs.Frame.{is_essential, mandatory_hypotheses}
use Rattle.mm_spec.specs.Derivation.{Trees, none, more}

-- how many trees a forest has
abbrev pub tree_count : Trees → ℕ
tree_count none = 0
tree_count (more ts l f cs) = suc (tree_count ts)

-- Some node that counts has this label. Root n of the forest, counted from 0, counts if
-- `root_counts n`; child n of a node that counts and has label l counts if `counts l n`.
abbrev pub HasNode : (ℕ → ℕ → Bool) → (ℕ → Bool) → Trees → ℕ → Type 0
HasNode counts root_counts none a = ⊥
HasNode counts root_counts (more ts l f cs) a =
    HasNode counts root_counts ts a
    ⊎ (IsTrue (root_counts (tree_count ts)) × ((a ≡ l) ⊎ HasNode counts (counts l) cs a))

-- each root counts
abbrev pub each_root : ℕ → Bool
each_root n = true

-- whether mandatory hypothesis n of statement l is a `$e`
abbrev pub is_essential_hypothesis : List Statement → ℕ → ℕ → Bool
is_essential_hypothesis db l n =
    elim (slice_get (mandatory_hypotheses db l) n)
    [ None ↦ false | Some j ↦ list_any is_essential (statement_at db j) ]

-- whether child n of a node with label l counts: with the flag only one for a `$e`, otherwise each
abbrev pub child_counts : List Statement → (essential : Bool) → ℕ → ℕ → Bool
child_counts db essential l n = not essential || is_essential_hypothesis db l n

-- Some node of the tree has this label; with the flag, some essential node. The root is essential,
-- and so is each child of an essential node that is for a `$e`.
abbrev pub IsNodeLabel : List Statement → (essential : Bool) → Trees → ℕ → Type 0
IsNodeLabel db essential d a = HasNode (child_counts db essential) each_root d a
