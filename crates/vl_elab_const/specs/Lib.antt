pub mod Given
pub mod Numbers
pub mod Operations
pub mod InRange
pub mod Openable
