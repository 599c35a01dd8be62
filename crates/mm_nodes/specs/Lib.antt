pub mod Strings
pub mod Store
pub mod Overlaps
pub mod Reached
