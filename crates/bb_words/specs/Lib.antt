pub mod WordsOperators
pub mod Moves
pub mod Operators
pub mod Words
