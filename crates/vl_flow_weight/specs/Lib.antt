pub mod Gates
pub mod Weighing
pub mod Branches
pub mod Shares
