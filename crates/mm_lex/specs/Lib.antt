pub mod Stretches
pub mod Pieces
pub mod Between
pub mod Cuts
pub mod Places
pub mod Plain
pub mod Beginnings
