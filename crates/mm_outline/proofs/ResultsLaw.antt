-- What is known of a result that is Ok.
use Rattle.std.proofs.Common.{arith, Result, IfOk}
use Rattle.std.proofs.lemmas.Grind.{common_steps}

pub ok_then : {A E : Type 0} {P Q : A → Type 0} (r : Result A E) → IfOk r P → ((a : A) → P a → Q a)
    → IfOk r Q
ok_then r h1 h2 = grind (arith, common_steps)
