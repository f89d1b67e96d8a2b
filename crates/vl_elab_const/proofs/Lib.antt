pub mod Gives
pub mod Values
pub mod Operating
pub mod Extents
pub mod Genvars
