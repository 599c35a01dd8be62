use Rattle.std.proofs.Common.{rules, ◌∙◌, ℕ, Bool, sym, ap, arith}
use Rattle.mm_spec.specs.Scope.{active_at}
use Rattle.mm_spec.proofs.OpenedLaw.{counted_active}
use Rattle.mm_database.specs.Database.{Contents}
use Rattle.mm_database.proofs.DatabaseLaw.{as_many_statements}
use Rattle.mm_database.proofs.database.Database.active_at.Goals as goal

pub active_at-requires-clause-statement_lt_length :
    goal.active_at-requires-clause-statement_lt_length
active_at-requires-clause-statement_lt_length g c = search (rules, arith, as_many_statements)

pub active_at-requires-clause-at_le_length : goal.active_at-requires-clause-at_le_length
active_at-requires-clause-at_le_length g c = search (rules, arith, as_many_statements)

pub returns : goal.returns
returns g c =
    c.active_at.ensures
    ∙ ap (λ (f : ℕ → ℕ → Bool). f c.args.statement c.args.at)
    (sym (counted_active c.self.inside.with_open c.self.inside.reading.statements.list))
    ∙ ap (λ (n : Contents). active_at n.statements c.args.statement c.args.at) c.self.view_is
