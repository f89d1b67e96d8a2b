pub mod After
pub mod Memories
pub mod Sixteens
pub mod Telling
pub mod Tree
