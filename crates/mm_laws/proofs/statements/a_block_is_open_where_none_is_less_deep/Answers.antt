use Rattle.mm_spec.proofs.ActivityLaw.{is_block_open_iff_in_block}
use Rattle.mm_laws.proofs.statements.a_block_is_open_where_none_is_less_deep.Goals as goal

pub returns : goal.returns
returns c = is_block_open_iff_in_block
