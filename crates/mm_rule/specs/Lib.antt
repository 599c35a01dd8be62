pub mod Assertions
pub mod Packed
pub mod Rule
