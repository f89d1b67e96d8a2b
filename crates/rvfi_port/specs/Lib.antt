pub mod Fields
pub mod Outputs
pub mod Channels
pub mod Ports
pub mod Parts
