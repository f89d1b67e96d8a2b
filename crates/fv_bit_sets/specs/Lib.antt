pub mod Cells
pub mod Ways
pub mod Runs
