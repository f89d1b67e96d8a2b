pub mod Cnf
pub mod Flat
