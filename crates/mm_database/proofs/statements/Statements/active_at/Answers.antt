use Rattle.std.proofs.Common.{◌≤◌, length}
use Rattle.std.proofs.lemmas.Bool.{lt-ltb}
use Rattle.std.proofs.lemmas.List.{length-map}
use Rattle.mm_spec.specs.Lexed.{tokens_of as words_of}
use Rattle.mm_outline.proofs.ActiveLaw.{active_test_is_activity}
use Rattle.mm_database.proofs.DatabaseLaw.{has_outline}
use Rattle.mm_database.proofs.statements.Statements.active_at.Goals as goal

pub returns-then-statement-at : goal.returns-then-statement-at
returns-then-statement-at g c =
    let fields = c.self.inside in
    let ws = words_of fields.text.now in
    let os = fields.outlines.items in
    let k_le_length : c.args.at ≤ length os =
    rw (← c.self.view_is, length-map) at c.requires.at_le_length in
    let outline_is_there = has_outline fields.text.now ws os fields.blocks _ c.self.view_is
    c.args.statement c.requires.statement_lt_length in
    let active_is = active_test_is_activity fields.text.now ws os fields.blocks
    c.self.invariant.blocks c.args.statement c.args.at outline_is_there k_le_length
    c.index.result.now in
    rw (
      ← c.self.view_is,
      ← active_is,
      lt-ltb c.args.statement c.args.at c.if-statement-at.true,
      ← c.index.ensures,
      ← c.is_block_open.ensures,
    ) c.is_active_kind.ensures
