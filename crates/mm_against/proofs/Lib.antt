pub mod FoundLaw
pub mod ListsLaw
pub mod WrittenLaw
