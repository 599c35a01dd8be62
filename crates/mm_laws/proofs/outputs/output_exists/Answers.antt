use Rattle.mm_laws.proofs.SomeOutputLaw.{output_exists_for_text}
use Rattle.mm_laws.proofs.outputs.output_exists.Goals as goal

pub returns : goal.returns
returns c = output_exists_for_text
