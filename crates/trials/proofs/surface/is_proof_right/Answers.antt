use Rattle.std.proofs.Common.{length, sym, ◌∙◌, arith}
use Rattle.std.proofs.lemmas.Bool.{eqb-false}
use Rattle.trials.proofs.TheoremLaw.{last_theorem_is_theorem}
use Rattle.trials.proofs.surface.is_proof_right.Goals as goal

pub read_proof-requires : goal.read_proof-requires
read_proof-requires c =
    let ts = c.theorems-theorems.result.now in
    let length_is_not_0 = eqb-false (length ts) 0 (sym c.is_empty.ensures ∙ c.if-is_empty.false) in
    last_theorem_is_theorem c.args.database.now.statements ts
    c.theorems-theorems.ensures.theorems
    (omega (arith, length_is_not_0))

pub check-requires-clause-is_theorem : goal.check-requires-clause-is_theorem
check-requires-clause-is_theorem c =
    let ts = c.theorems-theorems.result.now in
    let length_is_not_0 = eqb-false (length ts) 0 (sym c.is_empty.ensures ∙ c.if-is_empty.false) in
    last_theorem_is_theorem c.args.database.now.statements ts
    c.theorems-theorems.ensures.theorems
    (omega (arith, length_is_not_0))
