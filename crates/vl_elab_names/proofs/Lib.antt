pub mod Added
pub mod Ahead
pub mod Zeros
pub mod ModulesNames
pub mod Places
