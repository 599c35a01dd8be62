use Rattle.std.proofs.Common.{◌∙◌, ◌-◌, ◌+◌, sym, ap}
use Rattle.mm_spec.specs.Lawful.{least, scope_faults, floating_faults, label_faults}
use Rattle.mm_outline.specs.Parts.{token_at, nth_word, between, statement_between}
use Rattle.mm_scope.proofs.scope.Scope.fault.Goals as goal

pub returns-in-Floating : goal.returns-in-Floating
returns-in-Floating g c = λ n are_names.
    let text = c.args.text.now in
    let ws = c.args.tokens.now in
    let o = c.args.outline in
    c.lesser.ensures (label_faults n (token_at text ws (o.keyword - 1)))
    (floating_faults n (nth_word ws o.keyword).start (between text ws (o.keyword + 1) o.middle))
    (c.label_fault-fault_of_label.ensures n are_names) (c.floating_fault.ensures n are_names)
    ∙ ap (λ kd. least (scope_faults n c.args.depth
    (statement_between text ws kd o.keyword o.middle o.end)))
    (sym c.in-Floating.is)
