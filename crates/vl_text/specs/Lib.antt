pub mod Predefined
pub mod Texts
pub mod Assumptions
pub mod SourceText
pub mod Places
pub mod Faults
pub mod Steps
