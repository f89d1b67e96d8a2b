pub mod Each
pub mod Analysing
pub mod Judging
