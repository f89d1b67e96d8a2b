pub mod LowestFirst
pub mod Passed
pub mod Stays
pub mod Behind
pub mod Inner
pub mod Unfolded
