use Rattle.std.proofs.Common.{◌<◌, ◌≤◌, ◌∙◌, sym, ap, arith, length, subst}
use Rattle.mm_database.specs.Names.{find}
use Rattle.mm_outline.specs.Parts.{statement_between, IsKeywordBefore}
use Rattle.mm_scope.specs.WordEntry.{entry_of, entry_after}
use Rattle.mm_scope.proofs.TypedLaw.{typed_after_other_count, typed_after_two_symbols}
use Rattle.mm_scope.proofs.scope.Scope.add_names.Goals as goal

pub returns-in_ok-give_type-in-Floating-clause-symbols_are_added :
    goal.returns-in_ok-give_type-in-Floating-clause-symbols_are_added
returns-in_ok-give_type-in-Floating-clause-symbols_are_added g c = λ w.
    let text = c.args.text.now in
    let ws = c.args.tokens.now in
    let o = c.args.outline in
    let middle_le_length : o.middle ≤ length ws =
    omega (arith, c.requires.is_among_tokens.end_lt_length, c.requires.is_among_tokens.outline.3) in
    typed_after_two_symbols text ws o.keyword o.middle middle_le_length c.if-outline-eq3.true
    c.args.statement (find c.args.self.now.names.symbols) (find c.give_label.new.self.names.symbols)
    (find c.give_type.new.self.names.symbols)
    (λ w. ap (λ m. find m w) c.in_ok-give_label-in-Floating.ensures.symbols_stay)
    c.in_ok-give_type-in-Floating.ensures.variable_is_typed w
    ∙ ap (λ kd. entry_after c.args.statement (statement_between text ws kd o.keyword o.middle o.end)
    w (entry_of (find c.args.self.now.names.symbols w))) (sym c.in-Floating.is)

pub returns-else-outline-eq3-clause-symbols_are_added :
    goal.returns-else-outline-eq3-clause-symbols_are_added
returns-else-outline-eq3-clause-symbols_are_added g c = λ w.
    let text = c.args.text.now in
    let ws = c.args.tokens.now in
    let o = c.args.outline in
    let middle_le_length : o.middle ≤ length ws =
    omega (arith, c.requires.is_among_tokens.end_lt_length, c.requires.is_among_tokens.outline.3) in
    let keyword_lt_middle : o.keyword < o.middle =
    subst (λ kd. IsKeywordBefore kd o.keyword o.middle) c.in-Floating.is
    c.requires.is_among_tokens.outline.1 in
    ap (λ m. entry_of (find m w)) c.in_ok-give_label-in-Floating.ensures.symbols_stay
    ∙ sym (typed_after_other_count text ws o.keyword o.middle middle_le_length c.args.statement w
    (entry_of (find c.args.self.now.names.symbols w)) keyword_lt_middle c.if-outline-eq3.false)
    ∙ ap (λ kd. entry_after c.args.statement (statement_between text ws kd o.keyword o.middle o.end)
    w (entry_of (find c.args.self.now.names.symbols w))) (sym c.in-Floating.is)
