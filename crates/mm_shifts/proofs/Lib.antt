pub mod ElementsLaw
pub mod ShiftedLaw
pub mod MarkedLaw
