mod CopyLaw
pub mod StringLaw
pub mod StoreLaw
mod WalkLaw
mod OverlapLaw
mod ReachedLaw
