use Rattle.std.proofs.Common.{subst}
use Rattle.mm_spec.specs.Laws.Complete.{AreComplete}
use Rattle.mm_database.specs.Database.{Contents}
use Rattle.mm_database.proofs.DatabaseLaw.{read_statements_are_complete}
use Rattle.mm_database.proofs.database.Database.theorems.Goals as goal

pub returns-clause-are_complete : goal.returns-clause-are_complete
returns-clause-are_complete g c =
    subst (λ (n : Contents). AreComplete n.statements) c.self.view_is
    (read_statements_are_complete _ _ c.self.inside.with_open _ c.self.invariant.is_read)
