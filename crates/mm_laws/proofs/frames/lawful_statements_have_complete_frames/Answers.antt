use Rattle.std.proofs.Common.{rules, arith}
use Rattle.mm_laws.proofs.ReadLaw.{frames_are_complete}
use Rattle.mm_laws.proofs.TypedLaw.{variables_are_typed_where_read}
use Rattle.mm_laws.proofs.TypedLaw.{variables_are_mandatory_where_read}
use Rattle.mm_laws.proofs.frames.lawful_statements_have_complete_frames.Goals as goal

pub returns : goal.returns
returns c =
    search (
      rules,
      arith,
      frames_are_complete,
      variables_are_typed_where_read,
      variables_are_mandatory_where_read,
    )
