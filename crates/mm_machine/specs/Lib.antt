pub mod Entries
pub mod Masks
pub mod Filled
pub mod FlagRows
pub mod DisjointCache
pub mod Distinct
pub mod State
pub mod Applied
