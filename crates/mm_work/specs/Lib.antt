pub use Rattle.mm_cites.specs.Citing
pub mod Judged
pub mod Workers
pub mod Positions
