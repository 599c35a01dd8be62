use Rattle.std.proofs.Common.{rules, arith}
use Rattle.mm_laws.proofs.TheoremLaw.{labels_determine_derivations, proof_is_unique}
use Rattle.mm_laws.proofs.derivations.labels_determine_a_derivation.Goals as goal

pub returns : goal.returns
returns c = search (rules, arith, labels_determine_derivations, proof_is_unique)
