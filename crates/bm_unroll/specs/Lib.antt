pub mod Cycle
pub mod Memories
pub mod Moved
pub mod Walk
pub mod Draft
pub mod Frames
pub mod Shrunk
