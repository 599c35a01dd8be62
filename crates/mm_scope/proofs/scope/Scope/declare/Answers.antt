use Rattle.std.proofs.Common.{ap, ap₂, ◌+◌, ◌<◌, ◌≤◌, arith, length, ◌∙◌, ◌≡◌, ◌++◌, [], Some}
use Rattle.std.proofs.Common.{bytes_eq, if◌then◌else◌, sym}
use Rattle.mm_spec.specs.Text.{words}
use Rattle.mm_spec.specs.Frame.{first_occurrences, index_of}
use Rattle.mm_outline.specs.Parts.{between, token_at}
use Rattle.mm_scope.proofs.NumberedLaw.{names_with_word}
use Rattle.mm_database.specs.Names.{find, with_name}
use Rattle.mm_scope.specs.WordEntry.{declared_entry, entry_of}
use Rattle.mm_scope.specs.Scopes.{names_in, symbol_in}
use Rattle.mm_scope.proofs.DeclaredLaw.{declared_with_next_word}
use Rattle.mm_scope.proofs.NumberingLaw.{known_at_number, number_among_declared}
use Rattle.mm_scope.proofs.scope.Scope.declare.Goals as goal

pub set_symbol-requires-clause-is_number : goal.set_symbol-requires-clause-is_number
set_symbol-requires-clause-is_number g c =
    let text = c.args.text.now in
    let ws = c.args.tokens.now in
    let from = c.args.outline.keyword + 1 in
    let i = c.loop-token_index.token_index in
    let names = names_in c.loop-token_index.self in
    let are_numbers = c.requires.are_numbers in
    let number = c.index-numbers-token_index.result in
    let onward =
    number_among_declared text ws from i c.args.outline.middle are_numbers.0 names
    c.args.numbers.now are_numbers.2
    (c.loop-token_index.invariant.names are_numbers.0 are_numbers.1) (omega arith)
    c.loop-token_index-test.true
    (omega (arith, c.requires.is_among_tokens.outline.3, c.requires.is_among_tokens.end_lt_length))
    number in (
      onward.0,
      c.number.ensures ∙ c.index-numbers-token_index.is ∙ onward.1
          ∙ ap (λ w. index_of w (names ++ onward.0)) (sym c.bytes-word.ensures),
    )

pub loop-token_index-preserved : goal.loop-token_index-preserved
loop-token_index-preserved g c =
    let from = c.args.outline.keyword + 1 in
    let index_lt_length : c.loop-token_index.token_index
    < length c.args.tokens.now =
    omega (arith, c.loop-token_index-test.true, c.requires.is_among_tokens.end_lt_length) in
    let from_le_index : from ≤ c.loop-token_index.token_index = omega arith in
    let invariant = c.loop-token_index.invariant in
    let text = c.args.text.now in
    let ws = c.args.tokens.now in
    let i = c.loop-token_index.token_index in
    let w = (token_at text ws i).word in
    let scope = c.loop-token_index.self in
    let are_numbers = c.requires.are_numbers in
    let number = c.index-numbers-token_index.result in
    let onward =
    number_among_declared text ws from i c.args.outline.middle are_numbers.0 (names_in scope)
    c.args.numbers.now are_numbers.2 (invariant.names are_numbers.0 are_numbers.1) from_le_index
    c.loop-token_index-test.true
    (omega (arith, c.requires.is_among_tokens.outline.3, c.requires.is_among_tokens.end_lt_length))
    number in
    let before_is : c.symbol_at.result ≡ find scope.names.symbols w =
    c.symbol_at.ensures
    ∙ known_at_number (names_in scope) (symbol_in scope) scope.known.items invariant.known w
    onward.0 number (c.index-numbers-token_index.is ∙ onward.1) in
    record {
      labels = λ w. c.in_ok-set_symbol.ensures.labels_stay w ∙ invariant.labels w;
      symbols =
          declared_with_next_word c.args.text.now c.args.tokens.now from
          c.loop-token_index.token_index from_le_index
          index_lt_length c.args.is_variable c.args.statement c.declared_symbol-symbol.result
          (find c.args.self.now.names.symbols) (find c.loop-token_index.self.names.symbols)
          (find c.set_symbol.new.self.names.symbols)
          (λ w. c.in_ok-set_symbol.ensures.symbol_is_set w
          ∙ ap (λ b. if bytes_eq b w then Some c.declared_symbol-symbol.result else
          find c.loop-token_index.self.names.symbols w) c.bytes-word.ensures)
          (c.declared_symbol-symbol.ensures
          ∙ ap₂ (λ b before. declared_entry c.args.is_variable c.args.statement b (entry_of before))
          c.bytes-word.ensures before_is)
          invariant.symbols;
      blocks = c.set_symbol.ensures.blocks_stay ∙ invariant.blocks;
      known = c.in_ok-set_symbol.ensures.are_known;
      names =
          λ d names_are_declared. c.in_ok-set_symbol.ensures.name_is_added
          ∙ ap₂ with_name c.bytes-word.ensures (invariant.names d names_are_declared)
          ∙ names_with_word c.args.text.now c.args.tokens.now from c.loop-token_index.token_index
          from_le_index
          index_lt_length d;
    }

pub returns-clause-names_are_declared : goal.returns-clause-names_are_declared
returns-clause-names_are_declared g c d names_are_declared =
    let from = c.args.outline.keyword + 1 in
    let index_is_middle : c.loop-token_index.token_index ≡ c.args.outline.middle = omega arith in
    c.loop-token_index.invariant.names d names_are_declared
    ∙ ap (λ i. first_occurrences []
    (d ++ words (between c.args.text.now c.args.tokens.now from i))) index_is_middle
