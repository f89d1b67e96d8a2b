pub mod Contexts
pub mod Lists
pub mod Heads
pub mod High
