use Rattle.std.proofs.Common.{not, get_or, ◌≡◌, ◌<◌, ◌≤◌, ◌∙◌, ◌+◌, ◌++◌, [], ap, sym, arith}
use Rattle.std.proofs.Common.{length}
use Rattle.mm_outline.specs.Parts.{token_at, nth_word, between}
use Rattle.mm_spec.specs.Text.{is_in}
use Rattle.mm_spec.specs.Frame.{index_of}
use Rattle.mm_spec.specs.Lawful.{faults_at, faults_at_each, least, when, symbol_codes}
use Rattle.mm_spec.specs.Lawful.{formula_faults}
use Rattle.mm_spec.specs.declared.Code.TheVariants.{BadTypecode}
use Rattle.mm_database.specs.Names.{is_constant_in}
use Rattle.mm_scope.specs.Scopes.{names_in, symbol_in}
use Rattle.mm_scope.proofs.JudgeLaw.{between_first}
use Rattle.mm_scope.proofs.NumberingLaw.{known_at_number, number_at}
use Rattle.mm_scope.proofs.scope.Scope.formula_fault.Goals as goal

pub returns : goal.returns
returns g c = λ n are_names.
    let from_lt_to : c.args.from < c.args.to =
    omega (arith, c.if-from-to.false, c.requires.from_le_to) in
    let to_le_length : c.args.to ≤ length c.args.tokens.now = omega (arith, c.requires.to_lt_length)
    in
    let text = c.args.text.now in
    let ws = c.args.tokens.now in
    let t = token_at text ws c.args.from in
    let end_place = (nth_word ws c.args.to).start in
    let s = c.args.self.now in
    let names = names_in s in
    let later = c.requires.are_numbers.0 in
    let number_is = number_at (names ++ later) text ws c.args.from c.args.from c.args.to
    c.args.numbers.now c.requires.are_numbers.1 (omega arith) from_lt_to to_le_length
    c.index-numbers-0.result in
    let first_number : get_or c.args.numbers.now 0 c.index-numbers-0.result
    ≡ index_of t.word (names ++ later) =
    ap (λ k. get_or c.args.numbers.now k c.index-numbers-0.result) (omega arith) ∙ number_is in
    let symbol_is : c.symbol_at-symbol.result ≡ symbol_in s t.word =
    c.symbol_at-symbol.ensures
    ∙ known_at_number names (symbol_in s) s.known.items c.requires.are_known t.word later
    c.index-numbers-0.result (c.index-numbers-0.is ∙ first_number) in
    c.lesser.ensures (faults_at t.at (when (not (is_in t.word n.constants)) BadTypecode))
    (faults_at_each (symbol_codes n) [] (between text ws (c.args.from + 1) c.args.to))
    (c.fault_with_code-fault_of_typecode.ensures ∙ c.typecode_fault_code.ensures t.at
    ∙ ap (λ b. least (faults_at t.at (when (not b) BadTypecode)))
    (ap is_constant_in symbol_is ∙ sym (are_names.constants t.word)))
    (c.symbols_fault-fault_of_symbols.ensures n are_names)
    ∙ ap (λ xs. least (formula_faults n xs end_place))
    (sym (between_first text ws c.args.from c.args.to from_lt_to to_le_length))
