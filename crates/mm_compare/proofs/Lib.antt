pub mod BoundsLaw
pub mod PairsLaw
pub mod FindLaw
pub mod FramesLaw
