pub mod Formulas
pub mod ReadSoFar
pub mod Knows
pub mod Numbering
pub mod Scopes
pub mod WordEntry
pub mod Outlines
pub mod Stretches
