pub mod Bits
pub mod Reasons
