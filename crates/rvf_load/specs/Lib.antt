pub mod Loads
pub mod Ports
pub mod Readings
pub mod Stages
