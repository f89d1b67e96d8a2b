pub mod Joins
pub mod Effects
pub mod Assigning
pub mod Uses
pub mod Masks
