pub mod Here
pub mod Levels
pub mod Modules
pub mod PortParts
pub mod Ready
