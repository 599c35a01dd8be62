-- Tests that read a proof show that its theorem is one of the database's (`TheoremLaw.antt`).
pub mod TheoremLaw
