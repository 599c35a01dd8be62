use Rattle.std.proofs.Common.{◌<◌, ◌≤◌, ◌∙◌, ap₂, arith, length}
use Rattle.mm_database.specs.Names.{with_name}
use Rattle.mm_scope.proofs.NumberedLaw.{names_with_word}
use Rattle.mm_scope.proofs.numbering.add_words.Goals as goal

pub loop-token_index-preserved : goal.loop-token_index-preserved
loop-token_index-preserved g c = λ d names_are.
    let i = c.loop-token_index.token_index in
    let index_lt_length : i < length c.args.tokens.now = omega arith in
    let from_le_index : c.args.from ≤ i = omega arith in
    c.in_ok-insert.ensures.name_is_added
    ∙ ap₂ with_name c.bytes.ensures (c.loop-token_index.invariant d names_are)
    ∙ names_with_word c.args.text.now c.args.tokens.now c.args.from i from_le_index index_lt_length
    d
