pub mod Named
pub mod Dummies
