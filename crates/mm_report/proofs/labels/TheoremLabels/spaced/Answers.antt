use Rattle.std.proofs.Common.{◌∙◌}
use Rattle.mm_spec.specs.Assertion.{label_at}
use Rattle.mm_spec.specs.Output.{theorems}
use Rattle.mm_report.proofs.LabelLaw.{spaced_of_mapped, spaced_has_bytes}
use Rattle.mm_report.proofs.labels.TheoremLabels.spaced.Goals as goal

pub returns : goal.returns
returns g c =
    let db = c.self.inside.database.now.statements in
    let spaced_are =
    rw c.self.view_is
    at (c.spaced_labels.ensures ∙ spaced_of_mapped (label_at db) (theorems db) c.args.from
    c.args.to) in
    record {
      labels_are_spaced = spaced_are;
      has_bytes = λ from_lt_to. rw spaced_are
          (spaced_has_bytes c.args.self.now c.args.from c.args.to from_lt_to
          c.requires.to_le_length);
    }
