use Rattle.std.proofs.Common.{ℕ, List, length, get_or, sym, ap, subst, arith, IsTrue}
use Rattle.mm_spec.specs.Output.{is_theorem_at}
use Rattle.mm_database.proofs.SpacedLaw.{theorems_are}
use Rattle.hostile.proofs.growth.proofs.first_theorem.Goals as goal

pub returns-then-theorems-gt0 : goal.returns-then-theorems-gt0
returns-then-theorems-gt0 g c =
    let db = c.args.database.now.statements in
    let lengths_equal = ap (λ (ts : List ℕ). length ts) c.theorems-theorems.ensures.theorems in
    subst (λ (ts : List ℕ). IsTrue (is_theorem_at db (get_or ts 0 0)))
    (sym c.theorems-theorems.ensures.theorems)
    (theorems_are db 0 0 (omega (arith, c.if-theorems-gt0.true, lengths_equal)))
