pub mod Passing
pub mod Judged
