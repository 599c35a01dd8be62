use Rattle.mm_spec.specs.Request.{without_options}
use Rattle.mm_run.proofs.CitationsLaw.{are_citations_of}
use Rattle.trials.proofs.surface.reports.Goals as goal

pub are_citations_written-requires : goal.are_citations_written-requires
are_citations_written-requires g c =
    are_citations_of c.in_ok-database.database.statements without_options
    c.in_ok-citations.citations c.in_ok-citations.ensures
