use Rattle.std.proofs.Common.{◌∙◌, ◌++◌, sym, ap, arith, append-nil}
use Rattle.mm_spec.specs.Frame.{index_of}
use Rattle.mm_database.specs.Names.{names_of}
use Rattle.mm_scope.proofs.NumberedLaw.{numbers_with_next, numbers_between_nothing}
use Rattle.mm_scope.proofs.numbering.number_words.Goals as goal
use Rattle.mm_database.proofs.NamesLaw.{index_of_le_length}

pub overflow_cast-number : goal.overflow_cast-number
overflow_cast-number g c =
    let ns = names_of c.args.names.now in
    let index_le_length = index_of_le_length c.bytes.result.now ns in
    omega (arith, index_le_length, c.get_full-number.ensures.index_is, c.requires.few_names)

pub loop-token_index-init : goal.loop-token_index-init
loop-token_index-init g c =
    sym (append-nil _)
    ∙ ap (λ l. c.args.numbers.now.items ++ l)
    (numbers_between_nothing c.args.text.now c.args.tokens.now (names_of c.args.names.now)
    c.args.from)

pub loop-token_index-preserved : goal.loop-token_index-preserved
loop-token_index-preserved g c =
    let ns = names_of c.args.names.now in
    numbers_with_next c.args.text.now c.args.tokens.now ns c.args.from
    c.loop-token_index.token_index (omega arith) (omega arith) c.args.numbers.now.items
    c.in_ok-push.ensures.items c.loop-token_index.invariant
    (c.new.ensures ∙ c.get_full-number.ensures.index_is
    ∙ ap (λ w. index_of w ns) c.bytes.ensures)
