pub mod Grammar
pub mod Lexing
pub mod Spelling
pub mod Laws
