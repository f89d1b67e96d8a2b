pub mod Cycles
pub mod Each
