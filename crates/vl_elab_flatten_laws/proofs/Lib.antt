pub mod Begun
pub mod DesignSteps
pub mod Divided
pub mod LawfulNames
pub mod Expressions
pub mod Targets
pub mod Blocks
pub mod LawfulSteps
pub mod Joins
pub mod LawfulWhole
pub mod Nodes
pub mod Counted
pub mod Fits
pub mod KeptWhole
pub mod Ended
pub mod Declared
mod OpensNames
mod Ranges
mod Scopes
pub mod Walked
