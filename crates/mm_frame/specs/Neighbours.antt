-- What is found once for neighbouring assertions at which the same `$d`, `$e` and `$f` are active.
use Rattle.std.specs.Prelude.{◌≡◌, ◌≢◌, ℕ, ◌+◌, ◌-◌, ◌<◌, ◌≤◌, Bool, true, false, ◌&&◌, not}
use Rattle.std.specs.Prelude.{List, length, nat_eq, if◌then◌else◌}
use Rattle.std.specs.List.{list_any, filter}
use Rattle.mm_spec.specs.Statement.{Statement}
use Rattle.mm_spec.specs.Scope.{statement_at, active}
use Rattle.mm_spec.specs.Derivation.{is_member}
use Rattle.mm_spec.specs.Citation.{is_assertion}
use Rattle.mm_spec.specs.Frame.{symbol_names, is_variable_number, is_essential, formula_at}
use Rattle.mm_spec.specs.Frame.{active_of}
use Rattle.mm_outline.specs.Blocks.{never}
use Rattle.mm_frame.specs.Hypotheses.{AreStamps, IsFresh}
use Rattle.mm_frame.specs.Latest.{is_frame_part}
use Rattle.mm_frame.specs.declared.neighbours.EssentialLists.{EssentialLists}
use Rattle.mm_frame.specs.declared.frames.Scratch.{Scratch}

-- what holds of active statements is the same at p and at k, if it holds only of `$d`, `$e` and
-- `$f`
abbrev pub IsSameScope : List Statement → ℕ → ℕ → Type 0
IsSameScope db p k =
    (q : ℕ → Bool)
    → ((j : ℕ) → list_any is_frame_part (statement_at db j) ≡ false → q j ≡ false)
    → filter q (active db k) ≡ filter q (active db p)

-- whether x is a variable of statement k and none of these
abbrev pub is_further : List Statement → ℕ → List ℕ → ℕ → Bool
is_further db k others x =
    is_variable_number db x && (is_member (formula_at db k) x && not (is_member others x))

-- the index of a statement among those from `from` on; `never` stays
abbrev pub index_from : ℕ → ℕ → ℕ
index_from from statement = if nat_eq statement never then never else statement - from

module _ {A : Type 0} where
  -- the `$e` that are active at k, and their variables, which have the stamp
  pub record AreEssentialLists (db : List Statement) (k : ℕ) (s : EssentialLists A) : Type 0 where
    pub are_stamps : AreStamps (length (symbol_names db)) s.stamp s.stamps.items s.variables.items
    pub stamp_le : s.stamp ≤ k + 1
    pub essentials_are : (i : ℕ)
        → is_member s.essentials.items i ≡ is_member (active_of is_essential db k) i
    pub variables_are : (x : ℕ)
        → is_member s.variables.items x ≡ (is_variable_number db x
        && list_any (λ j. is_member (formula_at db j) x) s.essentials.items)

  -- these are the lists of the last assertion
  pub record IsPreviousKnown (db : List Statement) (s : Scratch A) : Type 0 where
    pub essential_lists : AreEssentialLists db s.previous s.essential_lists
    pub further_are : (x : ℕ) → is_member s.previous_further.items x
        ≡ is_further db s.previous s.essential_lists.variables.items x

  -- what a walk from statement `from` on keeps from one assertion to the next, before statement k
  pub record IsReady (db : List Statement) (from k : ℕ) (s : Scratch A) : Type 0 where
    pub essential_stamps_are_fresh : IsFresh (length (symbol_names db)) k
        s.essential_lists.stamps.items
    pub frame_stamps_are_fresh : IsFresh (length (symbol_names db)) k s.lists.stamps.items
    pub previous_is_assertion : s.previous ≢ never
        → (from ≤ s.previous) × (s.previous < k)
        × (list_any is_assertion (statement_at db s.previous) ≡ true)
    pub previous_is_known : s.previous ≢ never → IsPreviousKnown db s
