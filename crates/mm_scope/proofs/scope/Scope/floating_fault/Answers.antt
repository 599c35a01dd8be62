use Rattle.std.proofs.Common.{◌+◌, ◌∙◌, sym, ap, arith}
use Rattle.mm_outline.specs.Parts.{nth_word}
use Rattle.mm_scope.specs.Knows.{typing_fault}
use Rattle.mm_scope.proofs.JudgeLaw.{not_two_between_is_faulty, between_is_two_tokens}
use Rattle.mm_scope.proofs.scope.Scope.floating_fault.Goals as goal

pub returns-then-to-keyword-ne3 : goal.returns-then-to-keyword-ne3
returns-then-to-keyword-ne3 g c = λ n are_names.
    let keyword_lt_to = c.requires.keyword_lt_to in
    c.fault_with_code.ensures
    ∙ not_two_between_is_faulty n
    (nth_word c.args.tokens.now c.args.keyword).start c.args.text.now c.args.tokens.now
    c.args.keyword c.args.to keyword_lt_to (omega (arith, c.requires.to_lt_length))
    c.if-to-keyword-ne3.true

pub returns-in-Some : goal.returns-in-Some
returns-in-Some g c = λ n are_names.
    let text = c.args.text.now in
    let ws = c.args.tokens.now in
    let keyword_place = (nth_word ws c.args.keyword).start in
    let first_place = (nth_word ws (c.args.keyword + 1)).start in
    let second_place = (nth_word ws (c.args.keyword + 2)).start in
    rw (
      between_is_two_tokens text ws c.args.keyword c.args.to
          (omega (arith, c.requires.to_lt_length)) c.if-to-keyword-ne3.false,
      sym c.bytes-typecode.ensures,
      sym c.bytes-variable.ensures,
    ) (c.fault_with_code-in-Some.ensures
    ∙ ap (typing_fault keyword_place second_place) (sym c.in-Some.is)
    ∙ c.typing_code.ensures keyword_place first_place second_place n are_names)

pub returns-in-None : goal.returns-in-None
returns-in-None g c = λ n are_names.
    let text = c.args.text.now in
    let ws = c.args.tokens.now in
    let keyword_place = (nth_word ws c.args.keyword).start in
    let first_place = (nth_word ws (c.args.keyword + 1)).start in
    let second_place = (nth_word ws (c.args.keyword + 2)).start in
    rw (
      between_is_two_tokens text ws c.args.keyword c.args.to
          (omega (arith, c.requires.to_lt_length)) c.if-to-keyword-ne3.false,
      sym c.bytes-typecode.ensures,
      sym c.bytes-variable.ensures,
    ) (c.fault_with_code-in-None.ensures
    ∙ ap (typing_fault keyword_place second_place) (sym c.in-None.is)
    ∙ c.typing_code.ensures keyword_place first_place second_place n are_names)
