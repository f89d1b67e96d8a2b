pub mod Laws
pub mod Entries
pub mod Histories
pub mod Lines
pub mod Found
