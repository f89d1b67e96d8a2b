pub mod ClauseLists
pub mod Codes
pub mod Members
pub mod Standing
pub mod Readings
pub mod Starts
pub mod Same
