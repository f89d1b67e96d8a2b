pub mod Lines
pub mod Words
pub mod Numerals
pub mod Zips
pub mod Formulas
pub mod Steps
pub mod Written
