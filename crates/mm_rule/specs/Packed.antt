-- A part of a rule as one number of 32 bits.
use Rattle.std.specs.Prelude.{ℕ, ◌+◌, ◌-◌, nat_lt, if◌then◌else◌}
use Rattle.mm_rule.specs.declared.rule.RulePart.{RulePart}
use Rattle.mm_rule.specs.declared.rule.RulePart.TheVariants.{Constant, Variable}

-- the least number that stands for a variable, which is 2 ^ 31
abbrev pub first_variable : ℕ
first_variable = 2147483648

-- the number that stands for a part
abbrev pub packed : RulePart → ℕ
packed (Constant s) = s
packed (Variable j) = first_variable + j

-- the part for which a number stands
abbrev pub unpacked : ℕ → RulePart
unpacked n =
    if nat_lt n first_variable then Constant n else Variable (n - first_variable)
