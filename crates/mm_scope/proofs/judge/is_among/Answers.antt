use Rattle.std.proofs.Common.{◌∙◌, ◌||◌, ap, ap₂, bytes_eq, sym, arith}
use Rattle.mm_spec.specs.Text.{is_in, words}
use Rattle.mm_outline.specs.Parts.{between, token_at}
use Rattle.mm_scope.proofs.JudgeLaw.{among_between_push}
use Rattle.mm_scope.proofs.judge.is_among.Goals.{then-eq, else-eq}
use Rattle.mm_scope.proofs.judge.is_among.Goals as goal

pub loop-earlier-preserved : goal.loop-earlier-preserved
loop-earlier-preserved c =
    let text = c.args.text.now in
    let ws = c.args.tokens.now in
    let word = (token_at text ws c.args.token_index).word in
    let i = c.loop-earlier.earlier in
    let among_with_word_i = among_between_push text ws c.args.from i (omega arith)
    (omega (arith, c.loop-earlier-test.true, c.requires.index_lt_length)) word in
    let earlier_words = words (between text ws c.args.from i) in
    let eq_is_bytes_eq = c.eq.ensures ∙ ap₂ bytes_eq c.bytes-word.ensures c.bytes.ensures in
    elim c.if-eq.branch [
      | then-eq w ↦ w.is_found-is ∙ w.if-eq.true
          ∙ ap (λ b. b || is_in word earlier_words) (sym w.if-eq.true ∙ eq_is_bytes_eq)
          ∙ among_with_word_i
      | else-eq w ↦ w.is_found-is ∙ c.loop-earlier.invariant
          ∙ ap (λ b. b || is_in word earlier_words) (sym w.if-eq.false ∙ eq_is_bytes_eq)
          ∙ among_with_word_i
    ]
