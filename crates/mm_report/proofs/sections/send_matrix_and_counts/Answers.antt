use Rattle.mm_report.proofs.SentLaw.{sent_both}
use Rattle.mm_report.proofs.sections.send_matrix_and_counts.Goals as goal

pub returns : goal.returns
returns g c = sent_both c.send_matrix_section.ensures c.send_counts_section.ensures
