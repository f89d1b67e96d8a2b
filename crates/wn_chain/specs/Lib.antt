pub mod Chains
pub mod Writes
