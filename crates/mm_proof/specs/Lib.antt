pub use Rattle.mm_steps.specs.TheoremSteps
pub mod Refused
pub mod Number
pub mod Letters
