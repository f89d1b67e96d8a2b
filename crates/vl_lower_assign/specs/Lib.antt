pub mod Overlap
pub mod Places
pub mod Puts
pub mod Slots
pub mod Stored
pub mod Logs
pub mod Frames
pub mod Tracks
