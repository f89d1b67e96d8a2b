pub mod Loaded
pub mod Retirements
pub mod Findings
pub mod Notes
pub mod Tight
pub mod NotesForm
pub mod Choosing
pub mod Traces
