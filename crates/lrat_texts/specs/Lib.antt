pub mod Lines
pub mod Numerals
pub mod Formulas
pub mod Steps
