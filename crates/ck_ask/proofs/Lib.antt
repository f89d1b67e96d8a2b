pub mod Lawful
pub mod Sought
pub mod ZbLists
