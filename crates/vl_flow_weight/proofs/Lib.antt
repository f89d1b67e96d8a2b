pub mod Sums
pub mod Ways
pub mod Operands
pub mod Adding
pub mod Accesses
pub mod Expressions
pub mod Merging
pub mod Statements
