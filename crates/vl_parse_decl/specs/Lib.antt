pub mod Before
pub mod Tails
pub mod LoopHead
pub mod Lists
