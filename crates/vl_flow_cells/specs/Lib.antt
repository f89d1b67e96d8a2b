pub mod Numbered
pub mod Places
pub mod Numbering
pub mod Sized
