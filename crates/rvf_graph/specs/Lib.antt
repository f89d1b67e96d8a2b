pub mod BitNames
pub mod Clauses
pub mod GraphTexts
pub mod RunGraphs
pub mod Sources
