-- The plans that a run accepts.
use Rattle.std.specs.Prelude.{ℕ, ◌+◌, ◌<◌, ◌≤◌, List, length, slice_index, Option}
use Rattle.std.specs.Option.{option_map}
use Rattle.std.specs.String.{string_bytes}
use Rattle.mm_spec.specs.Text.{Bytes}
use Rattle.mm_spec.specs.Limits.{piece_limit, worker_limit}
use Rattle.mm_spec.specs.Request.{Request}
use Rattle.mm_plan.specs.declared.Plan.{Plan}
use Rattle.mm_plan.specs.declared.Cutting.{Cutting}
use Rattle.mm_plan.specs.declared.Cutting.TheVariants.{Count, Places}

-- none of the first n places is less than the one before it
abbrev pub AreSortedUpTo : List ℕ → ℕ → Type 0
AreSortedUpTo xs n = (i : ℕ) → i + 1 < n → slice_index xs i ≤ slice_index xs (i + 1)

module _ {A : Type 0} where
  abbrev pub IsLawfulCutting : Cutting A → Type 0
  IsLawfulCutting (Count n) = (1 ≤ n) × (n ≤ piece_limit)
  IsLawfulCutting (Places v) = AreSortedUpTo v.items (length v.items)

  abbrev pub IsLawfulPlan : Plan A → Type 0
  IsLawfulPlan p = IsLawfulCutting p.cuts × (1 ≤ p.workers) × (p.workers ≤ worker_limit)

  -- the typecode of the columns, if one is chosen
  abbrev pub only_of : Plan A → Option Bytes
  only_of p = option_map string_bytes p.only

  -- what a plan requests of the report
  abbrev pub request_of : Plan A → Request
  request_of p =
      record {
        only = only_of p;
        sections = p.choice;
        form = p.form;
        essential = p.essential;
        with_open = p.with_open;
      }
