pub mod Bound
pub mod Lowers
