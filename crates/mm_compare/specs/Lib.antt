pub mod Bounds
pub mod Frames
pub mod Sides
