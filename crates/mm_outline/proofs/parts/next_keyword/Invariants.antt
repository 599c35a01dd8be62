use Rattle.std.proofs.Common.{◌≡◌, ℕ, ◌<◌, ◌≤◌, false}
use Rattle.mm_spec.specs.Text.{has_dollar}
use Rattle.mm_outline.specs.Parts.{token_at}
use Rattle.mm_outline.proofs.parts.next_keyword.Given as goal

abbrev pub invariant-loop-token_index : goal.invariant-loop-token_index
invariant-loop-token_index l =
    (i : ℕ) → l.from ≤ i → i < l.token_index → has_dollar (token_at l.text l.tokens i).word ≡ false
