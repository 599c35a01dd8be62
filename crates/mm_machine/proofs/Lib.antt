-- `rule_test_by_stack` (`EntryRuleLaw.antt`) says that the test of a rule is the step of the
-- definitions.
-- Entries stay as they are while nodes are added, and while nodes are given up that they don't need
-- (`EntryLaw.antt`).
pub mod AloneLaw
pub mod CachedPairsLaw
pub mod DistinctLaw
pub mod FlagRowsLaw
pub mod MarksLaw
mod OwnersLaw
mod FilledLaw
mod EntryFitLaw
mod EntryMatchLaw
mod EntryRuleLaw
mod EntryLaw
mod StackLaw
mod StepLaw
mod MachineLaw
mod MaskedLaw
