-- A rule does what substitution does: `is_compiled_rule` (`RuleLaw.antt`) says that what is made of
-- a frame is its rule. The rules that share lists stay as they are when one is added
-- (`are_rules_with_one_more_at` of `RulesLaw.antt`).
pub mod CompleteLaw
pub mod RuleLaw
pub mod RulesLaw
pub mod StretchesLaw
