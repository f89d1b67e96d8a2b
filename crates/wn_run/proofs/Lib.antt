pub mod Alike
pub mod Chosen
pub mod Given
pub mod OldRun
pub mod Own
pub mod Front
pub mod Later
