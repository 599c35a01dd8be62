pub mod BitLaw
