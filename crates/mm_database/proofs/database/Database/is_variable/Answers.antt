use Rattle.std.proofs.Common.{arith, ◌∙◌, ℕ, Bool, sym, ap}
use Rattle.std.proofs.lemmas.Grind.{common_steps}
use Rattle.mm_spec.specs.Frame.{is_variable_number}
use Rattle.mm_spec.proofs.OpenedLaw.{counted_names, counted_variable}
use Rattle.mm_database.specs.Database.{Contents}
use Rattle.mm_database.proofs.database.Database.is_variable.Goals as goal

pub is_variable-requires : goal.is_variable-requires
is_variable-requires g c = grind (arith, common_steps, counted_names, c.self.view_is, c.requires)

pub returns : goal.returns
returns g c =
    c.is_variable.ensures
    ∙ ap (λ (f : ℕ → Bool). f c.args.symbol)
    (sym (counted_variable c.self.inside.with_open c.self.inside.reading.statements.list))
    ∙ ap (λ (n : Contents). is_variable_number n.statements c.args.symbol) c.self.view_is
