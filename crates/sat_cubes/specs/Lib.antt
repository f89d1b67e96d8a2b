pub mod Cubes
pub mod Joined
pub mod Lifting
pub mod Outcomes
pub mod Parts
pub mod Splits
pub mod Values
