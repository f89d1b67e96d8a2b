pub mod Truths
pub mod Entries
pub mod Lines
pub mod Searches
