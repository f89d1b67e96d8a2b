pub mod Vary
pub mod Clocks
pub mod Found
pub mod Directions
pub mod Joins
pub mod Reasons
