use Rattle.std.proofs.Common.{length, get_or}
use Rattle.std.specs.List.{list_any}
use Rattle.mm_spec.specs.Scope.{statement_at}
use Rattle.mm_spec.specs.Citation.{is_theorem}
use Rattle.mm_spec.specs.Output.{theorems}
use Rattle.mm_database.proofs.SpacedLaw.{theorems_are}
use Rattle.mm_report.proofs.LabelLaw.{selected_lt_bound}
use Rattle.mm_run.proofs.prepared.steps_for.Goals as goal

-- a theorem that is valid has no reading fault
pub new-requires : goal.new-requires
new-requires g c i d i_lt_count =
    let db = c.args.database.now.statements in
    (c.requires (get_or (theorems db) i d)
    (selected_lt_bound (λ j. list_any is_theorem (statement_at db j)) (length db) i d i_lt_count)
    (theorems_are db i d i_lt_count)).0
