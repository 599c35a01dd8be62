use Rattle.std.proofs.Common.{rules, ◌∙◌, ℕ, sym, ap, arith}
use Rattle.std.proofs.lemmas.Grind.{common_steps}
use Rattle.mm_spec.specs.Derivation.{Formula}
use Rattle.mm_spec.specs.Frame.{formula_at}
use Rattle.mm_spec.proofs.OpenedLaw.{counted_formula, counted_names}
use Rattle.mm_database.specs.Database.{Contents}
use Rattle.mm_database.proofs.DatabaseLaw.{as_many_statements}
use Rattle.mm_database.proofs.database.Database.formula.Goals as goal

pub formula-requires : goal.formula-requires
formula-requires g c = grind (arith, common_steps, as_many_statements, c.self.view_is, c.requires)

pub returns-clause-formula : goal.returns-clause-formula
returns-clause-formula g c =
    c.formula.ensures.formula
    ∙ ap (λ (f : ℕ → Formula). f c.args.statement)
    (sym (counted_formula c.self.inside.with_open c.self.inside.reading.statements.list))
    ∙ ap (λ (n : Contents). formula_at n.statements c.args.statement) c.self.view_is

pub returns-clause-symbols_lt_count : goal.returns-clause-symbols_lt_count
returns-clause-symbols_lt_count g c = search (rules, arith, counted_names)
