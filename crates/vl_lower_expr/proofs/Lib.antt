pub mod Compose
pub mod Sized
pub mod Parts
pub mod Words
pub mod Finding
