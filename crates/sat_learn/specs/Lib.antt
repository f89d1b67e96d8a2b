pub mod Analysis
pub mod Learning
pub mod Placed
