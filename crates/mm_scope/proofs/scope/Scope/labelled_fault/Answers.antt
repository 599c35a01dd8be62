use Rattle.std.proofs.Common.{◌-◌, ◌+◌}
use Rattle.mm_spec.specs.Lawful.{formula_faults, label_faults}
use Rattle.mm_outline.specs.Parts.{token_at, nth_word, between}
use Rattle.mm_scope.proofs.scope.Scope.labelled_fault.Goals as goal

pub returns : goal.returns
returns g c = λ n are_names.
    let text = c.args.text.now in
    let ws = c.args.tokens.now in
    c.lesser.ensures (label_faults n (token_at text ws (c.args.outline.keyword - 1)))
    (formula_faults n (between text ws (c.args.outline.keyword + 1) c.args.outline.middle)
    (nth_word ws c.args.outline.middle).start)
    (c.label_fault-fault_of_label.ensures n are_names)
    (c.formula_fault-fault_of_formula.ensures n are_names)
