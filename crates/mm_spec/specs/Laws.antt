-- Definitions on which no output depends: for laws, lemmas and the contracts of single layers.
pub mod Words
pub mod Readings
pub mod Table
pub mod Blocks
pub mod Complete
pub mod Stack
pub mod Chains
pub mod Waves
pub mod Decided
