use Rattle.std.proofs.Common.{◌≡◌, ◌<◌, ◌++◌, All, length, take}
use Rattle.std.specs.Prelude.{flat_map}
use Rattle.mm_spec.specs.Frame.{symbol_names}
use Rattle.mm_tell.specs.Named.{float_variable}
use Rattle.mm_tell.proofs.variables.add_typed.Given as goal

abbrev pub invariant-loop-statement : goal.invariant-loop-statement
invariant-loop-statement g l = record {
  variables_are : l.into.items
      ≡ l.initial.into.items
      ++ flat_map (float_variable l.database.statements) (take l.statement-index l.statements);
  variables_lt_count : All (λ v. v < length (symbol_names l.database.statements)) l.into.items;
}
