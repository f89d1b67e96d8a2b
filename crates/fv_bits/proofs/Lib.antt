pub mod Limits
pub mod SingleBits
