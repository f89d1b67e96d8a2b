pub mod Parts
pub mod Clock
pub mod Instances
pub mod Joined
pub mod Parameters
pub mod Ports
