use Rattle.std.proofs.Common.{◌≡◌, ◌<◌, ◌≤◌, ◌∙◌, ◌++◌, [], ap, sym, arith, length}
use Rattle.mm_outline.specs.Parts.{token_at, between}
use Rattle.mm_spec.specs.Lawful.{faults_at, faults_at_each, least, symbol_codes}
use Rattle.mm_scope.specs.Scopes.{names_in, symbol_in}
use Rattle.mm_scope.proofs.JudgeLaw.{at_each_between_push}
use Rattle.mm_scope.proofs.NumberingLaw.{known_at_number, number_at}
use Rattle.mm_scope.proofs.scope.Scope.symbols_fault.Goals as goal

pub loop-token_index-preserved : goal.loop-token_index-preserved
loop-token_index-preserved g c = λ n are_names.
    let s = c.args.self.now in
    let text = c.args._text.now in
    let ws = c.args.tokens.now in
    let i = c.loop-token_index.token_index in
    let i_lt_length : i < length ws =
    omega (arith, c.loop-token_index-test.true, c.requires.to_le_length) in
    let from_le_i : c.args.from ≤ i = omega arith in
    let t = token_at text ws i in
    let names = names_in s in
    let later = c.requires.are_numbers.0 in
    let number_is = number_at (names ++ later) text ws c.args.first i c.args.to c.args.numbers.now
    c.requires.are_numbers.1 (omega arith) c.loop-token_index-test.true c.requires.to_le_length
    c.index-numbers-token_index.result in
    let symbol_is : symbol_in s t.word ≡ c.symbol_at-symbol.result =
    sym (c.symbol_at-symbol.ensures
    ∙ known_at_number names (symbol_in s) s.known.items c.requires.are_known t.word later
    c.index-numbers-token_index.result (c.index-numbers-token_index.is ∙ number_is)) in
    c.lesser-least_found.ensures
    (faults_at_each (symbol_codes n) [] (between text ws c.args.from i))
    (faults_at t.at (symbol_codes n [] t.word)) (c.loop-token_index.invariant n are_names)
    (c.fault_with_code.ensures ∙ c.symbol_code.ensures t.word symbol_is t.at n are_names)
    ∙ ap least (sym (at_each_between_push text ws c.args.from i from_le_i i_lt_length
    (symbol_codes n)))
