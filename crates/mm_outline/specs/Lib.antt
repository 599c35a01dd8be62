pub mod Blocks
pub mod NextStatement
pub mod Parts
pub mod Passed
pub mod Statements
pub mod Tokens
pub mod Typed
