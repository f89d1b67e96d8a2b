pub mod Readings
pub mod Crossings
