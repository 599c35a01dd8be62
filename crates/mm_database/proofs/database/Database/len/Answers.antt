use Rattle.std.proofs.Common.{◌∙◌, length, subst, sym, ap, arith}
use Rattle.mm_spec.specs.Laws.Complete.{AreComplete}
use Rattle.mm_database.specs.Database.{Contents}
use Rattle.mm_database.proofs.DatabaseLaw.{as_many_statements, read_statements_are_complete}
use Rattle.mm_database.proofs.StatementCountLaw.{statements_le_bytes}
use Rattle.mm_database.proofs.database.Database.len.Goals as goal

pub returns-clause-len : goal.returns-clause-len
returns-clause-len g c = c.len.ensures.len ∙ sym (as_many_statements _ _ _ _ _ c.self.view_is)

pub returns-clause-are_complete : goal.returns-clause-are_complete
returns-clause-are_complete g c =
    subst (λ (n : Contents). AreComplete n.statements) c.self.view_is
    (read_statements_are_complete _ _ c.self.inside.with_open _ c.self.invariant.is_read)

pub returns-clause-len_le_text : goal.returns-clause-len_le_text
returns-clause-len_le_text g c =
    let s = c.self.inside.reading.statements in
    let statements_le_bytes_read =
    statements_le_bytes s.text s.list c.self.inside.reading.fault c.self.invariant.is_read in
    let text_lengths_equal = ap (λ (n : Contents). length n.text) c.self.view_is in
    let len_is_length = c.len.ensures.len in
    omega (arith, statements_le_bytes_read, text_lengths_equal, len_is_length)
