pub mod Parts
pub mod Counts
