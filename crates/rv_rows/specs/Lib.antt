pub mod Division
pub mod Signed
pub mod Access
pub mod Effects
