use Rattle.std.proofs.Common.{◌∙◌, length, get_or, ap, sym, arith}
use Rattle.mm_machine.proofs.MachineLaw.{repeats_if_pushed}
use Rattle.mm_machine.proofs.machine.Machine.repeat.Goals as goal

pub returns-clause-repeats_step : goal.returns-clause-repeats_step
returns-clause-repeats_step g c =
    let index = c.index_of_mark-index.result in
    let marks_are = c.deref.ensures.value ∙ ap (λ s. s.marks) c.self.view_is in
    repeats_if_pushed c.push_marked.result c.args.step index c.args.self.now
    c.push_marked.new.self c.push_marked.ensures.formula_is_there
    (omega (arith, c.index_of_mark-index.ensures.index_lt_length, ap length marks_are))
    (ap (λ ms. get_or ms index 0) (sym marks_are) ∙ c.index_of_mark-index.ensures.finds_mark)
    c.push_marked.ensures.pushes_formula
