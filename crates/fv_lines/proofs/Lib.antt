pub mod Digits
pub mod Glue
pub mod Naturals
pub mod Parts
pub mod Prints
