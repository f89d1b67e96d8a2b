pub mod Clauses
pub mod Models
