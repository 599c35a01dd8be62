use Rattle.mm_laws.proofs.CitationLaw.{each_label_is_cited, essential_is_cited}
use Rattle.mm_laws.proofs.citations.essential_citations_are_citations.Goals as goal

pub returns-clause-each_label_is_cited : goal.returns-clause-each_label_is_cited
returns-clause-each_label_is_cited c = each_label_is_cited

pub returns-clause-essential_is_cited : goal.returns-clause-essential_is_cited
returns-clause-essential_is_cited c = essential_is_cited
