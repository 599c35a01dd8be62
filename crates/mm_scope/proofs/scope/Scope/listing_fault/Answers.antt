use Rattle.std.proofs.Common.{[], ◌+◌, ◌∙◌, sym, ap}
use Rattle.mm_spec.specs.Lawful.{faults_at_each, least}
use Rattle.mm_outline.specs.Parts.{between}
use Rattle.mm_scope.specs.Knows.{listed_codes}
use Rattle.mm_scope.proofs.scope.Scope.listing_fault.Goals as goal

pub returns : goal.returns
returns g c = λ n are_names.
    let o = c.args.outline in
    let statement_faults = c.whole_statement_fault-fault_of_statement.ensures n in
    c.lesser.ensures statement_faults.0
    (faults_at_each (listed_codes n o.kind) []
    (between c.args.text.now c.args.tokens.now (o.keyword + 1) o.middle))
    statement_faults.1 (c.in_ok-fault_of_symbols.ensures n are_names)
    ∙ ap least (sym statement_faults.2)
