pub mod TheoremSteps
pub mod StoredSteps
