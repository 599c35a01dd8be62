use Rattle.std.proofs.Common.{◌≡◌, ◌<◌, ◌≤◌, ◌∙◌, ◌++◌, [], ap, sym, arith, length, is_some, not}
use Rattle.mm_spec.specs.Text.{is_in}
use Rattle.mm_spec.specs.Lawful.{faults_at, faults_at_each, least}
use Rattle.mm_outline.specs.Parts.{between, token_at}
use Rattle.mm_scope.specs.Knows.{listed_codes}
use Rattle.mm_scope.specs.Scopes.{names_in, symbol_in}
use Rattle.mm_database.specs.Names.{find}
use Rattle.mm_scope.proofs.NumberedLaw.{ascending_is_new}
use Rattle.mm_scope.proofs.NumberingLaw.{known_at_number, number_at}
use Rattle.mm_scope.proofs.JudgeLaw.{earlier, at_each_between_push, in_between_is_in_earlier}
use Rattle.mm_scope.proofs.scope.Scope.listed_symbols_fault.Goals.{else-not-are_ascending}
use Rattle.mm_scope.proofs.scope.Scope.listed_symbols_fault.Goals.{
  then-not-are_ascending+in_ok-repeated,
}
use Rattle.mm_scope.proofs.scope.Scope.listed_symbols_fault.Goals as goal

pub loop-token_index-preserved : goal.loop-token_index-preserved
loop-token_index-preserved g c =
    let text = c.args.text.now in
    let ws = c.args.tokens.now in
    let from = c.args.from in
    let i = c.loop-token_index.token_index in
    let t = token_at text ws i in
    let i_lt_to = c.loop-token_index-test.true in
    let to_lt_length = c.requires.to_lt_length in
    let i_lt_length : i < length ws = omega (arith, i_lt_to, to_lt_length) in
    let from_le_i : from ≤ i = omega arith in
    let e = earlier text ws from i in
    let s = c.args.self.now in
    let names = names_in s in
    let later = c.requires.are_numbers.0 in
    let number_is = number_at (names ++ later) text ws from i c.args.to c.args.numbers.now
    c.requires.are_numbers.1 (omega arith) i_lt_to (omega (arith, to_lt_length))
    c.index-numbers-token_index.result in
    let symbol_is : symbol_in s t.word ≡ c.symbol_at-symbol.result =
    sym (c.symbol_at-symbol.ensures
    ∙ known_at_number names (symbol_in s) s.known.items c.requires.are_known t.word later
    c.index-numbers-token_index.result (c.index-numbers-token_index.is ∙ number_is)) in
    record {
      seen = elim c.if-not-are_ascending.branch [
        | then-not-are_ascending+in_ok-repeated w ↦ λ not_ascending is_long v.
            ap (λ m. is_some (find m v)) w.seen-is
            ∙ w.in_ok-repeated.ensures.word_is_seen is_long v
        | else-not-are_ascending w ↦ λ not_ascending.
            absurd (cc (not_ascending, w.if-not-are_ascending.false))
      ];
      least = λ n are_names.
          let codes = listed_codes n c.args.kind in
          let word_is_bytes = c.bytes-word.ensures in
          c.lesser-least_found.ensures (faults_at_each codes [] (between text ws from i))
          (faults_at t.at (codes e t.word)) (c.loop-token_index.invariant.least n are_names)
          (c.fault_with_code.ensures
          ∙ c.listed_code-code.ensures e
          (ap (symbol_in s) word_is_bytes ∙ symbol_is)
          (elim c.if-not-are_ascending.branch [
            | then-not-are_ascending+in_ok-repeated w ↦ w.repeated-is
                ∙ w.in_ok-repeated.ensures.tells_repeated
            | else-not-are_ascending w ↦ w.repeated-is ∙ ap not w.if-not-are_ascending.false
                ∙ sym (ascending_is_new text ws (names ++ later) from i c.args.to
                c.args.numbers.now c.requires.are_numbers.1 from_le_i i_lt_to
                (omega (arith, to_lt_length))
                (c.ascend-are_ascending.ensures w.if-not-are_ascending.false))
          ]
          ∙ in_between_is_in_earlier text ws from i t.word
          ∙ ap (λ w. is_in w e) (sym word_is_bytes)) t.at n are_names
          ∙ ap (λ w. least (faults_at t.at (codes e w))) word_is_bytes)
          ∙ ap least (sym (at_each_between_push text ws from i from_le_i i_lt_length codes));
    }
