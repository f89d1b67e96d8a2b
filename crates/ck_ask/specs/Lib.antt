pub mod Questions
pub mod Asked
pub mod ZbChecks
