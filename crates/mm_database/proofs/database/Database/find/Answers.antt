use Rattle.std.proofs.Common.{subst}
use Rattle.mm_database.specs.Database.{Contents}
use Rattle.mm_database.specs.Labels.{AreLabels}
use Rattle.mm_database.specs.Names.{find}
use Rattle.mm_database.proofs.OpenAsAxiomsLaw.{labels_counted}
use Rattle.mm_database.proofs.DatabaseLaw.{found_label_is_label, found_label_is_unique}
use Rattle.mm_database.proofs.DatabaseLaw.{missing_label_is_none}
use Rattle.mm_database.proofs.database.Database.find.Goals as goal

pub returns : goal.returns
returns g c =
    let w = c.args.label.now in
    let are_labels : AreLabels c.args.self.now.statements (find c.self.inside.reading.names.labels)
    =
    subst (λ (n : Contents). AreLabels n.statements (find c.self.inside.reading.names.labels))
    c.self.view_is
    (labels_counted c.self.inside.with_open c.self.inside.reading.statements.list _
    c.self.invariant.labels_are) in
    record {
      has_label = found_label_is_label _ _ are_labels w c.labelled.result c.labelled.ensures;
      is_unique = found_label_is_unique _ _ are_labels w c.labelled.result c.labelled.ensures;
      none_has_label = missing_label_is_none _ _ are_labels w c.labelled.result c.labelled.ensures;
    }
