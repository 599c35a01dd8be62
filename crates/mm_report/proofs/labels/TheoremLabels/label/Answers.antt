use Rattle.std.proofs.Common.{◌<◌, length, All, sym, ap, arith, ◌∙◌}
use Rattle.std.proofs.lemmas.List.{length-map}
use Rattle.mm_report.proofs.LabelLaw.{selected_lt_bound}
use Rattle.std.specs.List.{list_any}
use Rattle.mm_spec.specs.Scope.{statement_at}
use Rattle.mm_spec.specs.Citation.{is_theorem}
use Rattle.mm_spec.specs.Assertion.{label_at}
use Rattle.mm_spec.specs.Output.{theorems}
use Rattle.mm_report.proofs.labels.TheoremLabels.label.Goals as goal

pub label_of-requires : goal.label_of-requires
label_of-requires g c =
    let db = c.self.inside.database.now.statements in
    let theorems_lt_length : All (λ k. k < length db) c.theorems.result.now =
    rw c.theorems.ensures.theorems
    (selected_lt_bound (λ j. list_any is_theorem (statement_at db j)) (length db)) in
    let labels_as_theorems =
    ap length (sym c.self.view_is) ∙ length-map (theorems db) (label_at db)
    ∙ ap length (sym c.theorems.ensures.theorems) in
    let index_lt_labels = c.requires in
    theorems_lt_length c.args.index 0 (omega (arith, labels_as_theorems, index_lt_labels))
