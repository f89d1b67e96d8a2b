pub mod Faults
pub mod Analyses
