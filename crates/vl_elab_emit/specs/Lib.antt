pub mod Starts
pub mod Begins
pub mod Behind
pub mod OwnParts
