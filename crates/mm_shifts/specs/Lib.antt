pub mod Resting
pub mod Shifted
