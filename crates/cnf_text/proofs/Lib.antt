pub mod Prints
pub mod ReadBack
