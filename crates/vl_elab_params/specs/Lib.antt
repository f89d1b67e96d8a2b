pub mod Among
pub mod Entered
pub mod Known
pub mod Own
pub mod Passed
pub mod Reached
pub mod Shadows
