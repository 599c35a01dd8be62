use Rattle.std.proofs.Common.{◌≡◌}
use Rattle.mm_spec.specs.Text.{is_in, words}
use Rattle.mm_outline.specs.Parts.{between, token_at}
use Rattle.mm_scope.proofs.judge.is_among.Given as goal

abbrev pub invariant-loop-earlier : goal.invariant-loop-earlier
invariant-loop-earlier l =
    l.is_found
    ≡ is_in (token_at l.text l.tokens l.token_index).word
    (words (between l.text l.tokens l.from l.earlier))
