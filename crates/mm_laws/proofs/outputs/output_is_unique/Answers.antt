use Rattle.mm_laws.proofs.OneOutputLaw.{output_is_unique_for_text}
use Rattle.mm_laws.proofs.outputs.output_is_unique.Goals as goal

pub returns : goal.returns
returns c = output_is_unique_for_text
