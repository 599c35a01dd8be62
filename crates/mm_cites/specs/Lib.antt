pub mod Citing
