use Rattle.std.proofs.Common.{◌∙◌, ap, Some, bytes_eq, if◌then◌else◌}
use Rattle.mm_database.specs.Names.{find}
use Rattle.mm_scope.proofs.JudgeLaw.{seen_between_push}
use Rattle.mm_scope.proofs.judge.is_repeated.Goals as goal
use Rattle.mm_database.proofs.NamesLaw.{on_ok_then}

pub returns-else-is_short-clause-word_is_seen : goal.returns-else-is_short-clause-word_is_seen
returns-else-is_short-clause-word_is_seen g c =
    on_ok_then c.insert.result c.insert.ensures.value_is_set
    (λ inserted is_not_short. seen_between_push c.args.text.now c.args.tokens.now c.args.from
    c.args.token_index
    c.requires.from_le_index
    c.requires.index_lt_length (find c.args.seen.now) (find c.insert.new.self)
    (λ w. inserted w
    ∙ ap (λ b. if bytes_eq b w then Some 0 else find c.args.seen.now w) c.bytes.ensures)
    (c.requires.seen_has_earlier_words is_not_short))
