pub mod Targets
pub mod Goals
pub mod Laws
