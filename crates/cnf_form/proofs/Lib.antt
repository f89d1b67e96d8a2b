pub mod Starts
pub mod Parts
mod Pushed
mod Joined
