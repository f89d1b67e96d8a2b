pub mod Added
pub mod Design
pub mod Held
pub mod Listed
pub mod Closing
pub mod Keeping
