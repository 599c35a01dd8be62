-- Tests joined by `||` and `&&`, beyond what the standard library says of them.
use Rattle.std.proofs.Common.{arith, ◌≡◌, Bool, true, false, ◌||◌, ◌&&◌}
use Rattle.std.proofs.lemmas.Grind.{common_steps}
use Rattle.std.proofs.lemmas.Bool.{and_parts}

-- two tests that pass together are the same
pub same_tests : (a b : Bool) → (a ≡ true → b ≡ true) → (b ≡ true → a ≡ true) → a ≡ b
same_tests a b h1 h2 = grind (arith, common_steps)

pub or_with_false : (a b : Bool) → b ≡ false → (a || b) ≡ a
or_with_false a b h1 = grind (arith, common_steps)

-- a test that passes with nothing beside it passes by itself
pub passes_alone : (b : Bool) → (b || false) ≡ true → b ≡ true
passes_alone b h1 = grind (arith, common_steps)

-- the two inner ones of four tests that all pass
pub middle_parts : (a b c d : Bool) → (a && b && c && d) ≡ true → (b ≡ true) × (c ≡ true)
middle_parts a b c d all_pass = grind (arith, common_steps, and_parts)
